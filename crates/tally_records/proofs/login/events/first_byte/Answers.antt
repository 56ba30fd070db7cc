use Rattle.std.proofs.Common.{◌≡◌, ◌%◌, ℕ, List, [], ◌∷◌, length, get_or, arith, refl}
use Rattle.tally_records.specs.inside.Compact.Layout.{field_of, word_bytes}
use Rattle.tally_records.proofs.login.events.first_byte.Goals as goal

first_of : (words : List ℕ) → get_or words 0 0 % 256 ≡ get_or (field_of 32 words) 0 0
unfolding field_of word_bytes
first_of [] = refl
first_of (w ∷ ws) = refl

empty_first : (words : List ℕ) → length words ≡ 0 → 0 ≡ get_or (field_of 32 words) 0 0
unfolding field_of word_bytes
empty_first [] e = refl
empty_first (w ∷ ws) e = absurd (omega arith)

pub returns-then-words-eq0 : goal.returns-then-words-eq0
returns-then-words-eq0 c = empty_first c.args.words.now (omega arith)

pub returns : goal.returns
returns c = first_of c.args.words.now
