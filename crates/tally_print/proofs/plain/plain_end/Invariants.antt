use Rattle.std.proofs.Common.{◌-◌, ◌≤◌, length}
use Rattle.tally_print.specs.inside.Plain.{ArePlain}
use Rattle.tally_print.proofs.plain.plain_end.Given as goal

abbrev pub invariant-loop-end : goal.invariant-loop-end
invariant-loop-end l = (l.from ≤ l.end) × (l.end ≤ length l.field) × ArePlain l.field l.from l.end

abbrev pub decreases-loop-end : goal.decreases-loop-end
decreases-loop-end l = length l.field - l.end
