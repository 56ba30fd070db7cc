use Rattle.std.proofs.lemmas.Result.{IfOk-equal}
use Rattle.tally_check_text.specs.CheckTable.{login_counts, login_doubts, sessions_fields, span_fields}
use Rattle.tally_check_text.specs.inside.LocalTime.{clock_of}
use Rattle.tally_check_text.proofs.RowLemmas.{four_joined}
use Rattle.tally_check_text.proofs.row.push_logins.Goals as goal

pub returns : goal.returns
returns c =
    let found = c.args.found.now in
    IfOk-equal c.push_login_doubts.result _ _ _ c.push_login_doubts.ensures
    (rw (c.in_ok-push_sessions.ensures, c.in_ok-push_span.ensures, c.in_ok-push_login_counts.ensures)
    (four_joined c.args.text.now.items (login_counts found) (span_fields (clock_of c.args.local.now) found.counts.span) (sessions_fields found.sessions) (login_doubts found)))
