use Rattle.std.proofs.Common.{◌≡◌, ℕ, List, subst}
use Rattle.tally_kinds.specs.Kinds.{looks_of}
use Rattle.tally.proofs.FrontLemmas.{looks_of_front}
use Rattle.tally.proofs.looking.look_at.Goals as goal

pub returns-in-Ok : goal.returns-in-Ok
returns-in-Ok g c = looks_of_front (g.F.Read.remaining c.args.file) c.in-Ok.front.items c.args.size c.looks_like.result c.in-Ok.ensures
    (subst (λ (bytes : List ℕ). c.looks_like.result ≡ looks_of bytes c.args.size) c.as_slice.ensures.value c.looks_like.ensures)
