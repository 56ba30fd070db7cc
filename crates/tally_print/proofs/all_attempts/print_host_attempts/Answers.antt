use Rattle.std.proofs.Common.{[], ◌∙◌, flat_map, rules, subst, sym}
use Rattle.std.proofs.lemmas.List.{append-nil}
use Rattle.tally_attempts.specs.Attempts.{latest_attempts}
use Rattle.tally_sessions.specs.Lent.{entries_in}
use Rattle.tally_print.specs.Output.{Prints}
use Rattle.tally_print.specs.inside.Pages.{Fills}
use Rattle.tally_print.proofs.PageLemmas.{fills_then, page_stop}
use Rattle.tally_print.proofs.TableLemmas.{lines_of}
use Rattle.tally_print.proofs.all_attempts.print_host_attempts.Goals as goal

pub returns-in_err-put_attempts : goal.returns-in_err-put_attempts
returns-in_err-put_attempts g c =
    let rows = latest_attempts c.args.host c.args.limit c.args.choice.now (entries_in c.args.entries) in
    let line_is = g.met.F.Fields.line_is c.args.fields.now in
    let same = (λ j. flat_map (λ row. line_is row j) rows) ∙ sym (lines_of (g.F.Fields.fields c.args.fields.now) rows) in
    let begun = subst (Fills _ _ _ _ _) same (rw c.in_ok-page.ensures at c.in_err-put_attempts.ensures.fills) in
    record { writes = subst (Prints _ _ _ _) (append-nil _) (page_stop _ (search rules) [] begun) }

pub returns : goal.returns
returns g c =
    let rows = latest_attempts c.args.host c.args.limit c.args.choice.now (entries_in c.args.entries) in
    let line_is = g.met.F.Fields.line_is c.args.fields.now in
    let same = (λ j. flat_map (λ row. line_is row j) rows) ∙ sym (lines_of (g.F.Fields.fields c.args.fields.now) rows) in
    let lines = subst (Fills _ _ _ _ _) same (rw c.in_ok-page.ensures at c.in_ok-put_attempts.ensures.fills) in
    record { writes = fills_then lines (rw c.as_slice.ensures.value at c.put_all.ensures.writes) }
