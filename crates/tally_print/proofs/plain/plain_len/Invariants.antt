use Rattle.std.proofs.Common.{◌-◌, ◌≤◌, length}
use Rattle.tally_print.specs.inside.Plain.{ArePlain}
use Rattle.tally_print.proofs.plain.plain_len.Given as goal

abbrev pub invariant-loop-at : goal.invariant-loop-at
invariant-loop-at l = (l.at ≤ length l.field) × ArePlain l.field 0 l.at

abbrev pub decreases-loop-at : goal.decreases-loop-at
decreases-loop-at l = length l.field - l.at
