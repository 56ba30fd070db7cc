use Rattle.std.proofs.Common.{FitsSigned, rules, w64}
use Rattle.std.proofs.lemmas.Int.{to_z-of_z}
use Rattle.std.proofs.lemmas.List.{append_assoc}
use Rattle.std.proofs.lemmas.Result.{IfOk-equal}
use Rattle.tally_check_text.proofs.lines.push_times.Goals as goal

pub returns : goal.returns
returns c =
    let first : FitsSigned w64 c.args.span.first = search rules in
    let last : FitsSigned w64 c.args.span.last = search rules in
    IfOk-equal c.push_between.result _ _ _ c.push_between.ensures
    (rw (c.in_ok-push_time-2.ensures, c.in_ok-push_time.ensures, to_z-of_z w64 c.args.span.first first, to_z-of_z w64 c.args.span.last last) (simp append_assoc))
