use Rattle.std.proofs.Common.{w64}
use Rattle.std.proofs.lemmas.Int.{to_z-of_z}
use Rattle.std.proofs.lemmas.List.{append_assoc}
use Rattle.tally_print.proofs.PlainLemmas.{signed_as_field}
use Rattle.tally_check_text.proofs.fields.push_second.Goals as goal

pub returns : goal.returns
returns c =
    rw (c.in_ok-push.ensures.items, c.in_ok-push_number.ensures, to_z-of_z w64 c.args.second c.ranges.second, signed_as_field c.args.second) (simp append_assoc)
