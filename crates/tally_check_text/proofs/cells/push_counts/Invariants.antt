use Rattle.std.proofs.Common.{◌≡◌, ◌++◌, map, take}
use Rattle.std.specs.Prelude.{decimal}
use Rattle.tally_check_text.specs.inside.Rows.{before_last}
use Rattle.tally_check_text.proofs.cells.push_counts.Given as goal

-- the fields so far joined the text
abbrev pub invariant-loop-count : goal.invariant-loop-count
invariant-loop-count l = l.text.items ≡ l.initial.text.items ++ before_last (map decimal (take l.count-index l.counts))
