-- The days of a stay.
pub mod ClockDays
pub mod SpanLemmas
pub mod StayDays
