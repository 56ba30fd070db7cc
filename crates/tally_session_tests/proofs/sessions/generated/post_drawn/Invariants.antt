use Rattle.std.proofs.Common.{◌≡◌}
use Rattle.tally_session_tests.proofs.sessions.generated.post_drawn.Given as goal

abbrev pub invariant-loop-record : goal.invariant-loop-record
invariant-loop-record g l = l.sessions.hosts ≡ 3
