use Rattle.std.proofs.Common.{◌≡◌, map}
use Rattle.std.specs.List.{range_with_len}
use Rattle.tally_answers.specs.declared.question.Question.TheVariants as questions
use Rattle.tally_cli.proofs.running.sections.attempts_asked.Given as goal

abbrev pub invariant-loop-host : goal.invariant-loop-host
invariant-loop-host l = l.questions.items ≡ map (λ host. questions.Attempts host l.fn.limit l.choice) (range_with_len 0 l.host)
