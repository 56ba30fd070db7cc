use Rattle.std.proofs.Common.{◌∙◌, ◌++◌, List, [], ℕ, ap, arith}
use Rattle.std.proofs.lemmas.List.{take_all}
use Rattle.tally_check.proofs.NoteLemmas.{login-next, logins-so-far}
use Rattle.tally_check.specs.inside.Notes.{login_notes}
use Rattle.tally_check.proofs.notes.note_logins.Goals as goal

pub with_login-requires : goal.with_login-requires
with_login-requires c =
    let few = c.requires.few in
    logins-so-far few.0 c.args.records.now c.loop-bytes.bytes-index c.loop-bytes.notes (omega arith) few.2 (c.loop-bytes.invariant few.0 few.1)

pub loop-bytes-preserved : goal.loop-bytes-preserved
loop-bytes-preserved c before is =
    login-next before c.args.records.now c.loop-bytes.bytes-index [] c.loop-bytes.notes c.with_login.result (omega arith) (c.loop-bytes.invariant before is) c.with_login.ensures

pub returns : goal.returns
returns c before is = c.loop-bytes.invariant before is ∙ ap (λ (l : List (List ℕ)). login_notes (before ++ l)) (take_all c.loop-bytes.bytes-index c.args.records.now (omega arith))
