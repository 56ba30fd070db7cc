use Rattle.std.proofs.lemmas.List.{append_assoc}
use Rattle.tally_print.proofs.PlainLemmas.{number_as_field}
use Rattle.tally_check_text.proofs.fields.push_count.Goals as goal

pub returns : goal.returns
returns c =
    rw (c.in_ok-push.ensures.items, c.in_ok-push_number.ensures, number_as_field c.args.count) (simp append_assoc)
