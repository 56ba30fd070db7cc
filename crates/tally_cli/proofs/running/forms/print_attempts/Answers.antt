use Rattle.std.proofs.Common.{FitsSigned, ap, rules, subst, sym, to_z-of_z, w32, ℤ}
use Rattle.tally_line.specs.declared.job.Form.{Form}
use Rattle.tally_print.specs.AttemptSections.{attempt_answers}
use Rattle.tally_print.specs.Output.{Prints, failed_calls}
use Rattle.tally_print.specs.Sections.{sections_text}
use Rattle.tally_sessions.specs.Days.{local}
use Rattle.tally_sessions.specs.Lent.{entries_in}
use Rattle.tally_cli.specs.Output.{form_text}
use Rattle.tally_cli.proofs.running.forms.print_attempts.Goals as goal

pub returns-in-Text : goal.returns-in-Text
returns-in-Text g c =
    let job = c.args.job.now in
    let answers = attempt_answers c.args.hosts c.args.limit c.args.choice.now (entries_in c.args.entries) in
    let clock = c.args.clock.now in
    let minutes : FitsSigned w32 job.offset = search rules in
    let same = ap (λ (x : ℤ). sections_text answers (local clock x) job.until) (to_z-of_z minutes) in
    let printed : Form → Type 0 = λ f. Prints (g.O.Output.state c.args.out.now) (g.O.Output.state c.print_all_attempts.new.out) c.print_all_attempts.result (failed_calls c.print_all_attempts.result)
    (form_text f job.report (local clock job.offset) job.until answers) in
    record { writes = subst printed (sym c.in-Text.is) (subst (Prints _ _ _ _) same (c.print_all_attempts.ensures.writes job.until)) }
