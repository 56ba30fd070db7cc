use Rattle.std.proofs.Common.{ℕ, Option, length, take, unwrap_or, ap, ◌∙◌}
use Rattle.tally_records.proofs.Texts.{text_end}
use Rattle.tally_wtmpdb.proofs.Fields.{cut_twice}
use Rattle.tally_wtmpdb.specs.Fields.{kept}
use Rattle.tally_wtmpdb.proofs.field.kept.Goals as goal

pub returns-clause-value : goal.returns-clause-value
unfolding kept
returns-clause-value c =
    let text = c.args.text.now in
    let end = text_end text c.unwrap_or-end.result (c.unwrap_or-end.ensures ∙ ap (λ (o : Option ℕ). unwrap_or o (length text)) c.first_nul.ensures) in
    ap (λ (k : ℕ). take k text) c.min.ensures ∙ cut_twice c.unwrap_or-end.result c.args.size text end.1 ∙ ap (λ (k : ℕ). take c.args.size (take k text)) end.0
