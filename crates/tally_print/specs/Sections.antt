-- The text of several answers: a section for each.
use Rattle.std.specs.Prelude.{ℕ, ℤ, List, [], ◌∷◌, ◌++◌, Option, flat_map, map}
use Rattle.tally_answers.specs.declared.question.Answer.{Answer}
use Rattle.tally_print.specs.AnswerText.{answer_text}

-- texts with an empty line between each two
abbrev pub sections : List (List ℕ) → List ℕ
sections [] = []
sections (text ∷ texts) = text ++ flat_map (λ t. 10 ∷ t) texts

-- the sections of answers, with moments by a clock, and the moment that their questions gave
abbrev pub sections_text : List Answer → (ℤ → ℤ) → Option ℤ → List ℕ
sections_text answers clock until = sections (map (λ answer. answer_text answer clock until) answers)
