-- Which questions are about sessions.
use Rattle.std.specs.Prelude.{◌≡◌, Bool, true}
use Rattle.tally_answers.specs.declared.question.Question.{Question}
use Rattle.tally_answers.specs.declared.question.Question.TheVariants.{Last, Connect, Commands, Users, Attempts, AttemptSums}

-- the sessions are kept where a question is about them
abbrev pub IsReady : Question → Bool → Type 0
IsReady (Last host limit choice until) is_counted = is_counted ≡ true
IsReady (Connect by_day by_user offset choice until) is_counted = is_counted ≡ true
IsReady (Commands order reverse all) is_counted = Unit {0}
IsReady (Users order reverse) is_counted = Unit {0}
IsReady (Attempts host limit choice) is_counted = Unit {0}
IsReady (AttemptSums limit choice) is_counted = Unit {0}
