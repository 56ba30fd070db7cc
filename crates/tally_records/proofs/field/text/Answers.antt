use Rattle.std.proofs.Common.{rules, ℕ, arith, ap, ◌∙◌, drop, replicate, ◌++◌, List, Option, unwrap_or, length}
use Rattle.tally_records.proofs.Texts.{text_end, text_of_is}
use Rattle.tally_records.proofs.field.text.Goals as goal

pub returns : goal.returns
returns g c =
    let end = text_end c.args.field.now c.unwrap_or-end.result (c.unwrap_or-end.ensures ∙ ap (λ (o : Option ℕ). unwrap_or o (length c.args.field.now)) c.first_nul.ensures) in
    ap (λ (xs : List ℕ). xs ++ drop c.unwrap_or-end.result (replicate g.row.N 0)) c.copy_from_slice.ensures.after
    ∙ text_of_is g.row.N c.args.field.now c.unwrap_or-end.result end.0 end.1

pub whole_as_front-copy_from_slice : goal.whole_as_front-copy_from_slice
whole_as_front-copy_from_slice g c =
    let end = text_end c.args.field.now c.unwrap_or-end.result (c.unwrap_or-end.ensures ∙ ap (λ (o : Option ℕ). unwrap_or o (length c.args.field.now)) c.first_nul.ensures) in
    (omega (arith, end.1, c.requires), search rules)
