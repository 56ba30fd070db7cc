-- Bytes in pieces.
use Rattle.std.proofs.Common.{◌≡◌, ◌∙◌, ◌<◌, ◌+◌, ◌-◌, ◌/◌, ℕ, suc, List, [], ◌∷◌, take, drop, length, ap, sym, inl, inr, arith}
use Rattle.std.proofs.Math.Nat.{add-div_right, div-eq_of_lt, div-le_self}
use Rattle.std.proofs.lemmas.Bool.{cases_lt}
use Rattle.std.proofs.lemmas.List.{length-drop}
use Rattle.std.specs.Simd.{first_chunks}
use Rattle.std.specs.Slice.Iter.{chunk_count}
use Rattle.tally_desk.specs.Blocks.{pieces}

pub pieces-nil : (size : ℕ) → pieces size [] ≡ []
unfolding pieces
pieces-nil size =
    let none : chunk_count 0 size ≡ 0 = omega arith in
    ap (λ k. first_chunks size k []) none

rounded : (n m k : ℕ) → 0 < k → m ≡ n + k → m / k ≡ n / k + 1
rounded n m k some same = ap (λ x. x / k) same ∙ add-div_right n some

-- one more piece
count_more : (n size : ℕ) → 0 < size → 0 < n → chunk_count n size ≡ suc (chunk_count (n - size) size)
count_more n size some more = elim (cases_lt size n) [
  | inl over ↦ omega (
    arith,
    rounded (n - 1) (n + size - 1) size some (omega arith),
    rounded (n - size - 1) (n - 1) size some (omega arith),
    rounded (n - size - 1) (n - size + size - 1) size some (omega arith),
    div-le_self (n - size - 1) size,
  )
  | inr under ↦
      let last : (n - 1) / size ≡ 0 = div-eq_of_lt (omega arith) in
      omega (arith, rounded (n - 1) (n + size - 1) size some (omega arith), last)
]

pub pieces-more : (size : ℕ) (bytes : List ℕ) → 0 < size → 0 < length bytes → pieces size bytes ≡ take size bytes ∷ pieces size (drop size bytes)
unfolding pieces
pieces-more size bytes some more =
    ap (λ k. first_chunks size k bytes) (count_more (length bytes) size some more)
    ∙ ap (λ n. take size bytes ∷ first_chunks size (chunk_count n size) (drop size bytes)) (sym (length-drop size bytes))
