-- Where a count of login records stops.
use Rattle.std.specs.Prelude.{ℕ}
use Rattle.tally_desk.specs.declared.fault.FeedFault.{FeedFault}
use Rattle.tally_desk.specs.declared.fault.Uncounted.{Uncounted}

-- what a count that was stopped by a fault after so many records gives its caller
abbrev pub stopped_with : ℕ → FeedFault → Uncounted
stopped_with counted fault = record { counted = counted; fault = fault }
