use Rattle.std.specs.Prelude.{◌++◌}
use Rattle.tally_sessions.specs.Days.{local}
use Rattle.tally.proofs.CheckLemmas.{HasGrown}
use Rattle.tally.specs.Checks.{head_text}
use Rattle.tally.proofs.checking.check_all.Given as goal

abbrev pub invariant-loop-at : goal.invariant-loop-at
invariant-loop-at g l =
    HasGrown (g.C.Checks.finds l.checker) l.asked (local l.clock l.asked.offset) (l.fn.text.items ++ head_text l.asked.form l.asked.paths) l.text.items l.is_doubtful l.at
