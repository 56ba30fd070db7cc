use Rattle.std.proofs.Common.{ℕ, List, subst}
use Rattle.std.proofs.lemmas.Result.{IfOk-weaker}
use Rattle.tally.specs.Users.{HasNamesOf}
use Rattle.tally.proofs.FrontLemmas.{names_of_front}
use Rattle.tally.proofs.users.names_read.Goals as goal

pub returns-in-Ok : goal.returns-in-Ok
returns-in-Ok g c = IfOk-weaker c.names_in.result _ _
    (λ names has. names_of_front (g.F.Read.remaining c.args.file) c.in-Ok.bytes.items names c.in-Ok.ensures
    (subst (λ (bytes : List ℕ). HasNamesOf bytes names) c.as_slice.ensures.value has))
    c.names_in.ensures.value
