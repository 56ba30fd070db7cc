use Rattle.std.proofs.lemmas.Result.{IfOk-equal}
use Rattle.tally_usage.specs.Names.{names_of}
use Rattle.tally_print.proofs.NamedUserLemmas.{named_user_row_text}
use Rattle.tally_print.proofs.named_users.push_named_fields.Goals as goal

pub returns : goal.returns
returns c =
    IfOk-equal c.push_usage.result _ _ _ c.push_usage.ensures
    (rw (c.in_ok-push_name_field.ensures, c.in_ok-push_uid.ensures) (named_user_row_text c.args.line.now.items (names_of c.args.names.now) c.args.row.now))
