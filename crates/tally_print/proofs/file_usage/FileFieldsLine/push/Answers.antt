use Rattle.std.proofs.Common.{◌++◌, ◌∙◌, List, ℕ, ap}
use Rattle.std.proofs.lemmas.List.{append_assoc}
use Rattle.std.proofs.lemmas.Result.{IfOk-equal}
use Rattle.tally_print.proofs.file_usage.FileFieldsLine.push.Goals as goal

pub returns : goal.returns
returns g c =
    let line = c.args.page.now.items in
    let head = c.args.self.now.head.now in
    let fields = c.args.self.now.fields.now in
    let row = c.args.row.now in
    IfOk-equal c.push.result _ _ _ c.push.ensures
    (rw c.in_ok-extend_from_slice.ensures.items (append_assoc line head (g.F.Line.text fields row) ∙ ap (λ (t : List ℕ). line ++ (head ++ t)) (g.met.F.Fields.line_is fields row)))
