use Rattle.std.proofs.lemmas.Result.{IfOk-weaker}
use Rattle.tally_cli.proofs.SumAnswers.{commands_answer, users_answer}
use Rattle.tally_cli.proofs.running.usage.answer_of_sums.Goals as goal

pub returns-in-Commands-clause-value : goal.returns-in-Commands-clause-value
returns-in-Commands-clause-value c = IfOk-weaker c.commands_of.result _ _ (λ answer about. commands_answer _ answer _ _ _ c.args.report.now c.in-Commands.is about) c.commands_of.ensures.value

pub returns-in-Users-clause-value : goal.returns-in-Users-clause-value
returns-in-Users-clause-value c = IfOk-weaker c.users_of.result _ _ (λ answer about. users_answer _ answer _ _ c.args.report.now c.in-Users.is about) c.users_of.ensures.value
