use Rattle.std.proofs.Common.{subst}
use Rattle.std.proofs.lemmas.Result.{IfOk-weaker}
use Rattle.std.specs.Prelude.{IfOk}
use Rattle.tally_line.proofs.CommandLemmas.{adds_arg}
use Rattle.tally_line.specs.inside.Commands.{IsCommand}
use Rattle.tally_line.proofs.shared.with.Goals as goal

pub returns : goal.returns
returns c = λ app rule is rule_is local. IfOk-weaker c.arg.result _ _
    (λ r added. adds_arg _ _ _ _ _ (subst (λ x. IfOk x (IsCommand app)) c.in_ok-command.was is) added local rule_is)
    c.arg.ensures
