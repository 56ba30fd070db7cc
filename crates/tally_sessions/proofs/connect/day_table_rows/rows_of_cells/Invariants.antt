use Rattle.std.proofs.Common.{◌≡◌, ℕ, ◌+◌, ◌*◌, ◌<◌, length}
use Rattle.tally_sessions.specs.declared.connect.keys.DayUser.{DayUser}
use Rattle.tally_sessions.proofs.connect.CellRows.{IsOfCells, IsWritten}
use Rattle.tally_sessions.proofs.connect.day_table_rows.rows_of_cells.Given as goal

abbrev pub invariant-loop-seconds : goal.invariant-loop-seconds
invariant-loop-seconds l = record {
  at : l.seconds-index ≡ l.place * length l.users + l.rank;
  rank_in : l.rank < length l.users;
  written : (all : DayUser → ℕ) → IsOfCells all l.first l.users l.cells → IsWritten all l.first l.users l.rows.items l.place l.rank;
}
