-- Questions that are asked in rounds.
use Rattle.std.specs.Prelude.{◌≡◌, ◌++◌, ◌∷◌, ℕ, List, length, map, replicate}
use Rattle.std.specs.List.{flat_map}
use Rattle.tally_book.specs.Deeds.{Ask}
use Rattle.tally_book.specs.Refusals.{IsAskRefusal}
use Rattle.tally_book.specs.declared.fault.AskFault.{AskFault}
use Rattle.tally_answers.specs.declared.question.Question.{Question}
use Rattle.tally_desk.specs.Passes.{PassState, deeds}

-- what the caller did between are these questions
abbrev pub Asks : PassState → PassState → List Question → Type 0
Asks old new questions = deeds new ≡ deeds old ++ map Ask questions

-- all questions in order, as often as there are rounds
abbrev pub in_rounds : ℕ → List Question → List Question
in_rounds rounds questions = flat_map (λ round. round) (replicate rounds questions)

-- some of the questions were answered, and the next was refused, as what was seen has it
pub record AskStops (questions : List Question) (old new : PassState) (fault : AskFault) : Type 0 where
  pub done : List Question
  pub next : Question
  pub left : List Question
  pub order : questions ≡ done ++ next ∷ left
  pub some : Asks old new done
  pub cause : IsAskRefusal new.seen.callers (length new.seen.calls) next fault
