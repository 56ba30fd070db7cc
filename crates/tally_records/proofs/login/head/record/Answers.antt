use Rattle.std.proofs.Common.{rules, ◌∙◌, ap}
use Rattle.std.specs.Int.{w32}
use Rattle.std.specs.Prelude.{FitsSigned}
use Rattle.std.proofs.lemmas.Int.{to_z-of_z}
use Rattle.tally_records.specs.inside.Compact.Layout.{field_of, record_at}
use Rattle.tally_records.proofs.login.head.record.Goals as goal

pub returns : goal.returns
unfolding record_at
returns c =
    let h = c.args.head in
    let fits : FitsSigned w32 h.time = search rules in
    let time = to_z-of_z w32 h.time fits in
    let line = c.unpack.ensures ∙ ap (field_of 32) c.line_words.ensures in
    let user = c.unpack-2.ensures ∙ ap (field_of 32) c.user_words.ensures in
    let remote = c.unpack-3.ensures ∙ ap (field_of 256) c.remote_words.ensures in
    λ i. record { kind = h.kind; line = line i; user = user i; remote = remote i; time = time i }
