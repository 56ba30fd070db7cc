use Rattle.std.proofs.Common.{rules}
use Rattle.tally_print.proofs.FieldLemmas.{plain_text_as_field}
use Rattle.tally_print.proofs.fields.push_shown_field.Goals as goal

pub returns-then-is_over : goal.returns-then-is_over
returns-then-is_over c =
    let plain = c.plain_len-plain.ensures in
    let whole = plain_text_as_field c.args.field.now c.plain_len-plain.result plain.within plain.plain c.if-is_over.ensures in
    let items = rw (← whole) at c.extend_from_slice.ensures.items in
    search rules
