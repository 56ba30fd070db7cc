-- What no public contract cites.
pub mod CountStops
pub mod Knowledge
pub mod LoginStops
pub mod Rule
pub mod Seats
pub mod Steps
pub mod Totals
pub mod Turns
pub mod Views
