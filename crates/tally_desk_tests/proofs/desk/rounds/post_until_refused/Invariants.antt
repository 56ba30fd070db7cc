use Rattle.std.proofs.Common.{◌≡◌}
use Rattle.tally_desk_tests.proofs.desk.rounds.post_until_refused.Given as goal

abbrev pub invariant-loop : goal.invariant-loop
invariant-loop g l = l.pass.desk ≡ l.desk.id
