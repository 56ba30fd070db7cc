-- A section of an output, and the answer that it prints.
use Rattle.std.specs.Prelude.{ℕ, ◌<◌, List}
use Rattle.tally_answers.specs.declared.question.Answer.{Answer}
use Rattle.tally_answers.specs.declared.question.Answer.TheVariants as answers
use Rattle.tally_sessions.specs.Totals.{first_time, latest_stays}
use Rattle.tally_sessions.specs.declared.entry.Entry.{Entry}
use Rattle.tally_print.specs.declared.section.Section.{Section}
use Rattle.tally_print.specs.declared.section.Section.TheVariants as sections

-- the answer that a section prints, over stored login entries
abbrev pub answer_in : List Entry → Section → Answer
answer_in entries (sections.Answered answer) = answer
answer_in entries (sections.Stays host limit choice until) = answers.Last (latest_stays host limit choice entries until) (first_time host entries)

-- a section's stays are those of one of so many hosts
abbrev pub NamesHostBelow : ℕ → Section → Type 0
NamesHostBelow hosts (sections.Answered answer) = Unit {0}
NamesHostBelow hosts (sections.Stays host limit choice until) = host < hosts
