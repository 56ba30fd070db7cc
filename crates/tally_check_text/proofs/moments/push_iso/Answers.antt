use Rattle.std.proofs.Common.{FitsSigned, rules, w32, w64}
use Rattle.std.proofs.lemmas.Int.{to_z-of_z}
use Rattle.std.proofs.lemmas.List.{append_assoc}
use Rattle.std.proofs.lemmas.Result.{IfOk-equal}
use Rattle.tally_check_text.specs.Moments.{iso_moment}
use Rattle.tally_check_text.proofs.moments.push_iso.Goals as goal

pub returns : goal.returns
unfolding iso_moment
returns c =
    let time : FitsSigned w64 c.recorded-time.result = search rules in
    let ahead : FitsSigned w32 c.ahead_of-ahead.result = search rules in
    let value = rw (to_z-of_z w64 c.recorded-time.result time) at c.ahead_of-ahead.ensures.value in
    IfOk-equal c.push_zone.result _ _ _ c.push_zone.ensures
    (rw (c.in_ok-push_marked_moment.ensures, to_z-of_z w64 c.recorded-time.result time, to_z-of_z w32 c.ahead_of-ahead.result ahead, value, c.recorded-time.ensures.value, to_z-of_z w64 c.args.time c.ranges.time) (simp append_assoc))
