use Rattle.std.proofs.Common.{◌++◌, ◌∙◌, ap, codes, flat_map, rules, subst, w32, ℤ}
use Rattle.std.proofs.lemmas.Int.{to_z-of_z}
use Rattle.tally_sessions.specs.Days.{local}
use Rattle.tally_sessions.specs.Totals.{latest_stays}
use Rattle.tally_print.specs.LastText.{stay_line}
use Rattle.tally_print.specs.Text.{beginning}
use Rattle.tally_print.specs.declared.output.PrintFault.TheVariants.{Memory}
use Rattle.tally_print.specs.inside.Pages.{Fills}
use Rattle.tally_print.proofs.PageLemmas.{fills_push, fills_then, page_stop}
use Rattle.tally_print.proofs.last.print_stays.Goals as goal

pub returns-in_err-put_stays : goal.returns-in_err-put_stays
returns-in_err-put_stays g c =
    let rows = latest_stays c.args.host c.args.limit c.args.choice.now c.args.sessions.now.entries c.args.counted in
    let same = ap (λ (x : ℤ). flat_map (stay_line (local c.args.clock.now x) c.args.until) rows) (to_z-of_z w32 c.args.offset c.ranges.offset) in
    record { writes = page_stop _ (search rules) _ (subst (Fills _ _ _ _ _) same (rw c.in_ok-page.ensures at c.in_err-put_stays.ensures.fills)) }

pub returns-in_err-push_beginning : goal.returns-in_err-push_beginning
returns-in_err-push_beginning g c =
    let rows = latest_stays c.args.host c.args.limit c.args.choice.now c.args.sessions.now.entries c.args.counted in
    let same = ap (λ (x : ℤ). flat_map (stay_line (local c.args.clock.now x) c.args.until) rows) (to_z-of_z w32 c.args.offset c.ranges.offset) in
    record { writes = page_stop Memory (search rules) _ (subst (Fills _ _ _ _ _) same (rw c.in_ok-page.ensures at c.in_ok-put_stays.ensures.fills)) }

pub returns : goal.returns
returns g c =
    let rows = latest_stays c.args.host c.args.limit c.args.choice.now c.args.sessions.now.entries c.args.counted in
    let same = ap (λ (x : ℤ). flat_map (stay_line (local c.args.clock.now x) c.args.until) rows) (to_z-of_z w32 c.args.offset c.ranges.offset) in
    let lines = subst (Fills _ _ _ _ _) same (rw c.in_ok-page.ensures at c.in_ok-put_stays.ensures.fills) in
    let ending = c.in_ok-push_beginning.ensures ∙ ap (λ (x : ℤ). c.put_stays.new.page.items ++ beginning (codes "wtmp") c.first.result (local c.args.clock.now x)) (to_z-of_z w32 c.args.offset c.ranges.offset)
    ∙ ap (λ first. c.put_stays.new.page.items ++ beginning (codes "wtmp") first (local c.args.clock.now c.args.offset)) c.first.ensures in
    record { writes = fills_then (fills_push _ lines ending) (rw c.as_slice.ensures.value at c.put_all.ensures.writes) }
