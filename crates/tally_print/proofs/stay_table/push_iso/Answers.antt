use Rattle.std.proofs.Common.{FitsSigned, rules, w32}
use Rattle.std.proofs.lemmas.Int.{to_z-of_z}
use Rattle.std.proofs.lemmas.List.{append_assoc}
use Rattle.std.proofs.lemmas.Result.{IfOk-equal}
use Rattle.tally_print.specs.StayTable.{iso_moment}
use Rattle.tally_print.proofs.stay_table.push_iso.Goals as goal

pub returns : goal.returns
unfolding iso_moment
returns c =
    let time : FitsSigned w32 c.args.time = c.ranges.time in
    let ahead : FitsSigned w32 c.ahead_at-ahead.result = search rules in
    let value = rw (to_z-of_z w32 c.args.time time) at c.ahead_at-ahead.ensures.value in
    IfOk-equal c.push_zone.result _ _ _ c.push_zone.ensures
    (rw (c.in_ok-push_marked_moment.ensures, to_z-of_z w32 c.args.time time, to_z-of_z w32 c.ahead_at-ahead.result ahead, value) (simp append_assoc))
