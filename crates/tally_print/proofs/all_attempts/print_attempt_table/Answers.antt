use Rattle.std.proofs.Common.{[], ◌++◌, ◌∙◌, ap, flat_map, rules, subst, w32, ℤ}
use Rattle.std.proofs.lemmas.Int.{to_z-of_z}
use Rattle.std.proofs.lemmas.List.{append-nil}
use Rattle.std.specs.List.{range_with_len}
use Rattle.csv.specs.Writing.{default_writer, row_text}
use Rattle.tally_attempts.specs.Attempts.{latest_attempts}
use Rattle.tally_sessions.specs.Days.{local}
use Rattle.tally_sessions.specs.Lent.{entries_in}
use Rattle.tally_print.specs.AttemptTable.{attempt_fields, attempt_header}
use Rattle.tally_print.specs.Output.{Prints}
use Rattle.tally_print.specs.inside.Pages.{Fills}
use Rattle.tally_print.proofs.AttemptLemmas.{rows_are}
use Rattle.tally_print.proofs.PageLemmas.{fills_then, page_stop}
use Rattle.tally_print.proofs.all_attempts.print_attempt_table.Goals as goal

pub returns-in_err-put_hosts : goal.returns-in_err-put_hosts
returns-in_err-put_hosts g c =
    let stored = entries_in c.args.entries in
    let same = ap (λ (x : ℤ). row_text default_writer attempt_header ++ flat_map (λ host. flat_map (λ row. row_text default_writer (attempt_fields (local c.args.clock.now x) row)) (latest_attempts host c.args.limit c.args.choice.now stored)) (range_with_len 0 c.args.hosts)) (to_z-of_z w32 c.args.offset c.ranges.offset)
    ∙ rows_are (local c.args.clock.now c.args.offset) c.args.limit c.args.choice.now stored c.args.hosts in
    let begun = subst (Fills _ _ _ _ _) same (rw (c.in_ok-extend_from_slice.ensures.items, c.attempt_header.ensures, c.in_ok-page.ensures) at c.in_err-put_hosts.ensures.fills) in
    record { writes = subst (Prints _ _ _ _) (append-nil _) (page_stop _ (search rules) [] begun) }

pub returns : goal.returns
returns g c =
    let stored = entries_in c.args.entries in
    let same = ap (λ (x : ℤ). row_text default_writer attempt_header ++ flat_map (λ host. flat_map (λ row. row_text default_writer (attempt_fields (local c.args.clock.now x) row)) (latest_attempts host c.args.limit c.args.choice.now stored)) (range_with_len 0 c.args.hosts)) (to_z-of_z w32 c.args.offset c.ranges.offset)
    ∙ rows_are (local c.args.clock.now c.args.offset) c.args.limit c.args.choice.now stored c.args.hosts in
    let rows = subst (Fills _ _ _ _ _) same (rw (c.in_ok-extend_from_slice.ensures.items, c.attempt_header.ensures, c.in_ok-page.ensures) at c.in_ok-put_hosts.ensures.fills) in
    record { writes = fills_then rows (rw c.as_slice.ensures.value at c.put_all.ensures.writes) }
