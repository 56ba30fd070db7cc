use Rattle.std.proofs.Common.{FitsSigned, rules, w32}
use Rattle.std.proofs.lemmas.Int.{to_z-of_z}
use Rattle.std.proofs.lemmas.Result.{IfOk-equal}
use Rattle.tally_print.specs.inside.LocalTime.{clock_of}
use Rattle.tally_print.proofs.PathLemmas.{attempt_after_file_text}
use Rattle.tally_print.proofs.attempt_table.push_attempt_after_file.Goals as goal

pub returns : goal.returns
returns c =
    let time : FitsSigned w32 c.args.attempt.now.time = search rules in
    IfOk-equal c.push_when.result _ _ _ c.push_when.ensures
    (rw (c.in_ok-push_user_at.ensures, to_z-of_z w32 c.args.attempt.now.time time) (attempt_after_file_text c.args.line.now.items (clock_of c.args.local.now) c.args.attempt.now))
