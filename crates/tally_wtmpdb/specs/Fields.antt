-- What the fields of a login record keep of texts.
use Rattle.std.specs.Prelude.{ℕ, ◌==◌, List, take}
use Rattle.std.specs.List.{before_first}
use Rattle.tally_records.specs.Text.{padded}

-- what a field of n bytes keeps of a text: the bytes before its first NUL, n at most, and then zeros
unfoldable pub kept : ℕ → List ℕ → List ℕ
kept n text = take n (before_first (λ b. b == 0) text)

unfoldable pub field : ℕ → List ℕ → List ℕ
field n text = padded n (kept n text)
