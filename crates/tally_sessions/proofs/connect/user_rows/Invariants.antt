use Rattle.std.proofs.Common.{◌≡◌, ◌++◌, filter, map}
use Rattle.tally_sessions.specs.inside.Sums.{above_zero, user_time_of}
use Rattle.tally_sessions.proofs.connect.user_rows.Given as goal

-- the rows so far and those of the sums to come are all
abbrev pub invariant-loop-user : goal.invariant-loop-user
invariant-loop-user l = l.rows.items ++ map user_time_of (filter above_zero l.user-iterator) ≡ map user_time_of (filter above_zero l.sums.entries)
