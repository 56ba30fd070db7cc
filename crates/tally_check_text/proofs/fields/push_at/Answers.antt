use Rattle.std.proofs.Common.{w64}
use Rattle.std.proofs.lemmas.Int.{to_z-of_z}
use Rattle.std.proofs.lemmas.List.{append_assoc}
use Rattle.tally_check_text.proofs.FieldLemmas.{iso_as_field}
use Rattle.tally_check_text.specs.inside.LocalTime.{clock_of}
use Rattle.tally_check_text.proofs.fields.push_at.Goals as goal

pub returns : goal.returns
returns c =
    rw (c.in_ok-push.ensures.items, c.in_ok-push_iso.ensures, to_z-of_z w64 c.args.second c.ranges.second, iso_as_field (clock_of c.args.local.now) c.args.second) (simp append_assoc)
