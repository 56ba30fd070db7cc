-- The answer of sums is that of the entries whose records they are of.
use Rattle.std.proofs.Common.{◌≡◌, ◌∙◌, Bool, [], ◌∷◌, map, ap, sym}
use Rattle.tally_answers.specs.Answers.{answer_of}
use Rattle.tally_answers.specs.declared.question.Answer.{Answer}
use Rattle.tally_answers.specs.declared.question.Answer.TheVariants as answers
use Rattle.tally_line.specs.declared.job.Report.{Report}
use Rattle.tally_line.specs.declared.job.Report.TheVariants as report
use Rattle.tally_usage.specs.Command.{command_rows}
use Rattle.tally_usage.specs.Sums.{Counted, IsAbout}
use Rattle.tally_usage.specs.Totals.{records_of}
use Rattle.tally_usage.specs.Usage.{usage_of}
use Rattle.tally_usage.specs.User.{user_rows}
use Rattle.tally_usage.specs.declared.order.Order.{Order}
use Rattle.tally_cli.specs.Output.{questions_of}
use Rattle.tally_cli.specs.inside.Counts.{IsAnswerOn}

pub commands_answer : (s : Counted) (answer : Answer) (by : Order) (reverse all : Bool) (r : Report) → r ≡ report.Commands by reverse all
    → IsAbout s (λ rs. answers.Commands (command_rows by all reverse rs) (usage_of rs)) answer → IsAnswerOn r s answer
unfolding answer_of
commands_answer s answer by reverse all r is about clock offset kinds until logins procs sums =
    ap (λ x. map (λ q. answer_of clock q logins procs) (questions_of x offset kinds until)) is ∙ sym (λ i. about (records_of procs) sums i ∷ [])

pub users_answer : (s : Counted) (answer : Answer) (by : Order) (reverse : Bool) (r : Report) → r ≡ report.Users by reverse
    → IsAbout s (λ rs. answers.Users (user_rows by reverse rs) (usage_of rs)) answer → IsAnswerOn r s answer
unfolding answer_of
users_answer s answer by reverse r is about clock offset kinds until logins procs sums =
    ap (λ x. map (λ q. answer_of clock q logins procs) (questions_of x offset kinds until)) is ∙ sym (λ i. about (records_of procs) sums i ∷ [])
