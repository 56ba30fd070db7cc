-- Entries in blocks, by their places.
use Rattle.std.proofs.Common.{◌≡◌, inl, inr, ℕ, zero, suc, ◌+◌, ◌-◌, ◌*◌, ◌<◌, ◌≤◌, ◌/◌, ◌%◌, List, [], ◌∷◌, ◌++◌, None, Some, drop, get_or, length, slice_get, refl, sym, ap, ◌∙◌, arith, length-append}
use Rattle.std.proofs.lemmas.Bool.{cases_lt}
use Rattle.std.proofs.lemmas.List.{append_assoc}
use Rattle.std.proofs.lemmas.Option.{get_or_from_slice_get, slice_get_within}
use Rattle.std.proofs.Math.Seq.{drop-cons}
use Rattle.std.specs.Global.{Vec}
use Rattle.tally_usage.specs.declared.entry.CompactProc.{CompactProc}
use Rattle.tally_usage.specs.inside.Blocks.{in_blocks}

-- an element of joined lists
front_at : {X : Type 0} (xs ys : List X) (i : ℕ) → i < length xs → slice_get (xs ++ ys) i ≡ slice_get xs i
front_at [] ys i lt = absurd (omega (arith, lt))
front_at (x ∷ xs) ys zero lt = refl
front_at (x ∷ xs) ys (suc i) lt = front_at xs ys i (omega (arith, lt))

back_at : {X : Type 0} (xs ys : List X) (i k : ℕ) → i ≡ length xs + k → slice_get (xs ++ ys) i ≡ slice_get ys k
back_at [] ys i k is = ap (slice_get ys) (let same : i ≡ k = omega (arith, is) in same)
back_at (x ∷ xs) ys zero k is = absurd (omega (arith, is))
back_at (x ∷ xs) ys (suc i) k is = back_at xs ys i k (omega (arith, is))

abbrev pub AreFull : List (Vec CompactProc) → Type 0
AreFull full = (j : ℕ) (d : Vec CompactProc) → j < length full → length (get_or full j d).items ≡ 4096

less : (v : Vec CompactProc) (full : List (Vec CompactProc)) → AreFull (v ∷ full) → AreFull full
less v full are j d lt = are (suc j) d (omega (arith, lt))

pub length-in_blocks : (full : List (Vec CompactProc)) → AreFull full → length (in_blocks full) ≡ 4096 * length full
length-in_blocks [] are = refl
length-in_blocks (v ∷ full) are = omega (arith, length-append v.items (in_blocks full), are 0 v (omega arith), length-in_blocks full (less v full are))

in_first : (v : Vec CompactProc) (full : List (Vec CompactProc)) (last : List CompactProc) (i : ℕ) (d : Vec CompactProc) → length v.items ≡ 4096 → i < 4096 → slice_get (in_blocks (v ∷ full) ++ last) i ≡ slice_get (get_or (v ∷ full) (i / 4096) d).items (i % 4096)
in_first v full last i d long first =
    let block : i / 4096 ≡ 0 = omega (arith, first) in
    let place : i % 4096 ≡ i = omega (arith, first) in
    ap (λ xs. slice_get xs i) (append_assoc v.items (in_blocks full) last) ∙ front_at v.items (in_blocks full ++ last) i (omega (arith, first, long))
    ∙ (λ k. slice_get (get_or (v ∷ full) (sym block k) d).items (sym place k))

in_later : (v : Vec CompactProc) (full : List (Vec CompactProc)) (last : List CompactProc) (i : ℕ) (d : Vec CompactProc) → length v.items ≡ 4096 → 4096 ≤ i
    → slice_get (in_blocks full ++ last) (i - 4096) ≡ slice_get (get_or full ((i - 4096) / 4096) d).items ((i - 4096) % 4096) → slice_get (in_blocks (v ∷ full) ++ last) i ≡ slice_get (get_or (v ∷ full) (i / 4096) d).items (i % 4096)
in_later v full last i d long later rest =
    let block : i / 4096 ≡ suc ((i - 4096) / 4096) = omega (arith, later) in
    let place : (i - 4096) % 4096 ≡ i % 4096 = omega (arith, later) in
    ap (λ xs. slice_get xs i) (append_assoc v.items (in_blocks full) last) ∙ back_at v.items (in_blocks full ++ last) i (i - 4096) (omega (arith, later, long))
    ∙ rest ∙ (λ k. slice_get (get_or (v ∷ full) (sym block k) d).items (place k))

pub in_block : (full : List (Vec CompactProc)) (last : List CompactProc) (i : ℕ) (d : Vec CompactProc) → AreFull full → i / 4096 < length full → slice_get (in_blocks full ++ last) i ≡ slice_get (get_or full (i / 4096) d).items (i % 4096)
in_block [] last i d are lt = absurd (omega (arith, lt))
in_block (v ∷ full) last i d are lt =
    elim (cases_lt i 4096) [
      | inl first ↦ in_first v full last i d (are 0 v (omega arith)) first
      | inr later ↦ in_later v full last i d (are 0 v (omega arith)) later (in_block full last (i - 4096) d (less v full are) (omega (arith, lt, later)))
    ]

pub after_blocks : (full : List (Vec CompactProc)) (last : List CompactProc) (i k : ℕ) → AreFull full → i ≡ 4096 * length full + k → slice_get (in_blocks full ++ last) i ≡ slice_get last k
after_blocks full last i k are is = back_at (in_blocks full) last i k (omega (arith, is, length-in_blocks full are))

-- what is left after an element was read
pub drop_none : {X : Type 0} (n : ℕ) (xs : List X) → slice_get xs n ≡ None → drop n xs ≡ []
drop_none zero [] e = refl
drop_none zero (x ∷ xs) e = cc
drop_none (suc n) [] e = refl
drop_none (suc n) (x ∷ xs) e = drop_none n xs e

pub drop_some : {X : Type 0} (n : ℕ) (xs : List X) (x : X) → slice_get xs n ≡ Some x → drop n xs ≡ x ∷ drop (n + 1) xs
drop_some n xs x e = drop-cons xs n x (slice_get_within xs n x e) ∙ (λ i. get_or_from_slice_get xs n x x e i ∷ drop (let next : suc n ≡ n + 1 = omega arith in next i) xs)
