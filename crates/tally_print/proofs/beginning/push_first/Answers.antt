use Rattle.std.proofs.Common.{FitsSigned, w32}
use Rattle.std.proofs.lemmas.Int.{to_z-of_z}
use Rattle.std.proofs.lemmas.List.{append_assoc}
use Rattle.tally_print.proofs.beginning.push_first.Goals as goal

pub returns : goal.returns
returns c =
    let first : FitsSigned w32 c.args.first = c.ranges.first in
    rw (c.in_ok-push-2.ensures.items, c.in_ok-push_moment.ensures, c.in_ok-extend_from_slice-2.ensures.items, c.in_ok-extend_from_slice.ensures.items, c.in_ok-push.ensures.items) (simp (to_z-of_z, append_assoc))
