use Rattle.std.proofs.Common.{◌≡◌, ◌++◌, map, take}
use Rattle.tally_check_text.specs.inside.Cells.{cell_text}
use Rattle.tally_check_text.specs.inside.LocalTime.{clock_of}
use Rattle.tally_check_text.specs.inside.Rows.{before_last}
use Rattle.tally_check_text.proofs.cells.push_cells.Given as goal

-- the fields so far joined the text
abbrev pub invariant-loop-cell : goal.invariant-loop-cell
invariant-loop-cell l = l.text.items ≡ l.initial.text.items ++ before_last (map (cell_text (clock_of l.local)) (take l.cell-index l.cells))
