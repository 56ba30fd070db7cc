use Rattle.std.proofs.Common.{codes, rules, subst}
use Rattle.tally_print.specs.Output.{Prints}
use Rattle.tally_print.specs.declared.output.PrintFault.TheVariants.{Memory}
use Rattle.tally_print.proofs.FileLemmas.{shown_by_bytes}
use Rattle.tally_print.proofs.PageLemmas.{fills_push, fills_then, page_stop}
use Rattle.tally_print.proofs.file_usage.print_shown_line.Goals as goal

pub returns-in_err-put_lines : goal.returns-in_err-put_lines
returns-in_err-put_lines g c =
    let line = shown_by_bytes c.args.text.now (codes ":\n") in
    let begun = rw c.in_ok-page.ensures at c.in_err-put_lines.ensures.fills in
    record { writes = subst (Prints _ _ _ _) line (page_stop c.in_err-put_lines.field-0.0 (search rules) (codes ":\n") begun) }

pub returns-in_err-push_line_end : goal.returns-in_err-push_line_end
returns-in_err-push_line_end g c =
    let line = shown_by_bytes c.args.text.now (codes ":\n") in
    let begun = rw c.in_ok-page.ensures at c.in_ok-put_lines.ensures.fills in
    record { writes = subst (Prints _ _ _ _) line (page_stop Memory (search rules) (codes ":\n") begun) }

pub returns : goal.returns
returns g c =
    let line = shown_by_bytes c.args.text.now (codes ":\n") in
    let begun = rw c.in_ok-page.ensures at c.in_ok-put_lines.ensures.fills in
    let whole = fills_push (codes ":\n") begun c.in_ok-push_line_end.ensures in
    record { writes = subst (Prints _ _ _ _) line (fills_then whole (rw c.as_slice.ensures.value at c.put_all.ensures.writes)) }
