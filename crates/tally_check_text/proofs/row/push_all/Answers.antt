use Rattle.std.specs.Prelude.{if◌then◌else◌}
use Rattle.std.proofs.lemmas.Result.{IfOk-equal}
use Rattle.tally_check.specs.Findings.{is_doubtful}
use Rattle.tally_check_text.specs.CheckTable.{content_fields, kind_fields}
use Rattle.tally_check_text.specs.inside.LocalTime.{clock_of}
use Rattle.tally_check_text.proofs.RowLemmas.{row_joined}
use Rattle.tally_check_text.proofs.row.push_all.Goals as goal
use Rattle.tally_print.specs.FileColumns.{columns_of}

pub returns : goal.returns
returns c =
    let found = c.args.findings.now in
    IfOk-equal c.push_verdict.result _ _ _ c.push_verdict.ensures
    (rw (c.in_ok-push_content.ensures, c.in_ok-push_kind.ensures, c.in_ok-push_file.ensures)
    (row_joined c.args.text.now.items (columns_of c.args.file) (kind_fields c.args.origin found) (content_fields (clock_of c.args.local.now) found.content) (if is_doubtful found.content then 1 else 0)))
