use Rattle.std.proofs.Common.{◌++◌, ◌≡◌, ap, sym, take, List, ℕ}
use Rattle.std.proofs.lemmas.Result.{IfOk-equal}
use Rattle.tally_print.specs.Text.{left, shown}
use Rattle.tally_print.proofs.FieldLemmas.{plain_text}
use Rattle.tally_print.proofs.text.push_left_shown.Goals as goal

pub returns-then-is_over : goal.returns-then-is_over
returns-then-is_over c =
    let plain = c.plain_len-plain.ensures in
    let line = c.args.line.now.items in
    let whole : shown c.args.field.now ≡ take c.plain_len-plain.result c.args.field.now = plain_text c.args.field.now c.plain_len-plain.result plain.within plain.plain c.if-is_over.ensures in
    IfOk-equal c.push_fitting.result _ _ _ c.push_fitting.ensures (ap (λ (t : List ℕ). line ++ left t c.args.width) (sym whole))
