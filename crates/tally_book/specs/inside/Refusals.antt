-- When a question names a host that there is not.
use Rattle.std.specs.Prelude.{ℕ, ◌≤◌}
use Rattle.tally_book.specs.declared.fault.AskFault.{AskFault}
use Rattle.tally_book.specs.declared.fault.AskFault.TheVariants as ask
use Rattle.tally_answers.specs.declared.question.Question.{Question}
use Rattle.tally_answers.specs.Answers.{NamesHost}

-- the fault names the question's host, which is none of so many
abbrev pub IsNoSuchHost : ℕ → Question → AskFault → Type 0
IsNoSuchHost callers question ask.CallsFull = ⊥
IsNoSuchHost callers question (ask.NoSuchHost host) = (callers ≤ host) × NamesHost question host
IsNoSuchHost callers question ask.Memory = ⊥
