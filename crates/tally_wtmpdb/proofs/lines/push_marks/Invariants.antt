use Rattle.std.proofs.Common.{◌≡◌, map, take}
use Rattle.std.specs.List.{range_with_len}
use Rattle.tally_wtmpdb.specs.Lines.{mark_at, open_logins}
use Rattle.tally_wtmpdb.specs.inside.Open.{IsKept}
use Rattle.tally_wtmpdb.proofs.lines.push_marks.Given as goal

abbrev pub invariant-loop-index : goal.invariant-loop-index
invariant-loop-index l = (l.marks.items ≡ map (mark_at l.rows l.moments) (range_with_len 0 l.index)) × IsKept l.rows l.moments (open_logins (take l.index l.moments)) l.sessions
