use Rattle.std.proofs.Common.{codes, rules, subst}
use Rattle.tally_sessions.specs.Lent.{entries_in}
use Rattle.tally_sessions.specs.Totals.{first_time}
use Rattle.tally_print.specs.Text.{beginning}
use Rattle.tally_print.specs.declared.output.PrintFault.{PrintFault}
use Rattle.tally_print.specs.declared.output.PrintFault.TheVariants.{Memory}
use Rattle.tally_print.specs.inside.Attempts.{gap, section}
use Rattle.tally_print.specs.inside.LocalTime.{clock_of}
use Rattle.tally_print.specs.inside.Pages.{Fills}
use Rattle.tally_print.proofs.AttemptLemmas.{in_three}
use Rattle.tally_print.proofs.PageLemmas.{fills_push, fills_start, fills_stop, fills_turn}
use Rattle.tally_print.proofs.all_attempts.put_section.Goals as goal

pub returns-in_err-push_gap : goal.returns-in_err-push_gap
returns-in_err-push_gap g c =
    let text = section (clock_of c.args.line.now.local) c.args.limit c.args.choice.now (entries_in c.args.entries) c.args.host in
    record { fills = fills_stop Memory (search rules) text (fills_start {E = PrintFault} _ c.args.page.now.items) }

pub returns-in_err-put_attempts : goal.returns-in_err-put_attempts
returns-in_err-put_attempts g c =
    let stored = entries_in c.args.entries in
    let ending = beginning (codes "btmp") (first_time c.args.host stored) (clock_of c.args.line.now.local) in
    let begun = rw c.in_ok-push_gap.ensures at c.in_err-put_attempts.ensures.fills in
    record { fills = subst (Fills _ _ _ _ _) (in_three c.args.page.now.items (gap c.args.host) _ ending) (fills_stop c.in_err-put_attempts.field-0.0 (search rules) ending begun) }

pub returns-in_err-push_beginning : goal.returns-in_err-push_beginning
returns-in_err-push_beginning g c =
    let stored = entries_in c.args.entries in
    let ending = beginning (codes "btmp") (first_time c.args.host stored) (clock_of c.args.line.now.local) in
    let lines = rw c.in_ok-push_gap.ensures at c.in_ok-put_attempts.ensures.fills in
    record { fills = subst (Fills _ _ _ _ _) (in_three c.args.page.now.items (gap c.args.host) _ ending) (fills_stop Memory (search rules) ending lines) }

pub returns : goal.returns
returns g c =
    let stored = entries_in c.args.entries in
    let ending = beginning (codes "btmp") (first_time c.args.host stored) (clock_of c.args.line.now.local) in
    let lines = rw c.in_ok-push_gap.ensures at c.in_ok-put_attempts.ensures.fills in
    let ended = rw c.first_time.ensures at c.in_ok-push_beginning.ensures in
    record { fills = subst (Fills _ _ _ _ _) (in_three c.args.page.now.items (gap c.args.host) _ ending) (fills_turn (fills_push ending lines ended) c.turn_page.ensures.fills) }
