use Rattle.std.proofs.Common.{◌≡◌}
use Rattle.tally_bench.proofs.shared.turns.Given as goal

-- both passes are of the desk
abbrev pub invariant-loop-turn : goal.invariant-loop-turn
invariant-loop-turn g l = (l.first.desk ≡ l.desk.id) × (l.second.desk ≡ l.desk.id)
