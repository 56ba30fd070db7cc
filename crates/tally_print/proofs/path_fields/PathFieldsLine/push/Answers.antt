use Rattle.std.proofs.lemmas.Result.{IfOk-equal}
use Rattle.tally_print.proofs.PathLemmas.{path_on_line}
use Rattle.tally_print.proofs.path_fields.PathFieldsLine.push.Goals as goal

pub returns : goal.returns
returns g c =
    let all = c.args.self.now in
    let fields = all.fields.now in
    let row = c.args.row.now in
    IfOk-equal c.push_others.result _ _ _ c.push_others.ensures
    (rw (c.in_ok-extend_from_slice.ensures.items, c.in_ok-push.ensures.items, c.in_ok-push_file.ensures, c.file_of.ensures)
    (path_on_line (g.F.NumberedFields.file row) (g.F.Fields.fields fields row) (g.met.F.NumberedFields.begins fields row) c.args.page.now.items all.path.now all.text.now all.rendered))
