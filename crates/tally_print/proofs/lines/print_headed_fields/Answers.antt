use Rattle.std.proofs.Common.{◌∙◌, ◌++◌, List, ℕ, ap, flat_map, subst, sym}
use Rattle.tally_print.specs.Output.{Prints}
use Rattle.tally_print.proofs.TableLemmas.{lines_of}
use Rattle.tally_print.proofs.lines.print_headed_fields.Goals as goal

pub returns : goal.returns
returns g c =
    let line_is = g.met.F.Fields.line_is c.args.fields.now in
    let rows = (λ j. flat_map (λ row. line_is row j) c.args.rows.now) ∙ sym (lines_of (g.F.Fields.fields c.args.fields.now) c.args.rows.now) in
    record { writes = subst (Prints _ _ _ _) (ap (λ (t : List ℕ). c.args.header.now ++ t) rows) (rw (c.in_ok-extend_from_slice.ensures.items, c.in_ok-page.ensures) at c.print_lines.ensures.writes) }
