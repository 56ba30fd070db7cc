use Rattle.std.proofs.Common.{subst}
use Rattle.std.proofs.lemmas.Result.{IfOk-weaker}
use Rattle.std.specs.Prelude.{IfOk}
use Rattle.tally_line.proofs.CommandLemmas.{adds_subcommand}
use Rattle.tally_line.specs.inside.Commands.{IsCommand}
use Rattle.tally_line.proofs.command.with_under.Goals as goal

pub returns : goal.returns
returns c = λ app below is below_is. IfOk-weaker c.subcommand.result _ _
    (λ r added. adds_subcommand _ _ _ _ _
    (subst (λ x. IfOk x (IsCommand app)) c.in_ok-command.was is)
    (subst (λ x. IfOk x (IsCommand below)) c.in_ok-under.was below_is)
    added)
    c.subcommand.ensures
