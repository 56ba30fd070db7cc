-- Counts of what each of some callers has.
use Rattle.std.proofs.Common.{◌≡◌, ◌≢◌, ℕ, zero, suc, ◌+◌, ◌*◌, ◌<◌, ◌≤◌, List, [], ◌∷◌, length, refl, sym, ap, ◌∙◌, arith, cond, eqb, eq-eqb, ne_eqb, ⊎_elim}
use Rattle.std.proofs.lemmas.Bool.{cases_eq, cases_lt}
use Rattle.std.proofs.lemmas.List.Elements.{All-head, All-tail}
use Rattle.std.specs.List.{All, filter}
use Rattle.tally_desk.specs.inside.Totals.{below}

pub below_nothing : (n : ℕ) → below (λ h. 0) n ≡ 0
below_nothing zero = refl
below_nothing (suc n) = omega (arith, below_nothing n)

below_same : (f g : ℕ → ℕ) (n : ℕ) → ((h : ℕ) → h < n → f h ≡ g h) → below f n ≡ below g n
below_same f g zero same = refl
below_same f g (suc n) same = λ i. below_same f g n (λ h l. same h (omega (arith, l))) i + same n (omega arith) i

-- one more for one of them
below_one : (f g : ℕ → ℕ) (k n : ℕ) → k < n → f k ≡ g k + 1 → ((h : ℕ) → h ≢ k → f h ≡ g h) → below f n ≡ below g n + 1
below_one f g k zero near more same = absurd (omega (arith, near))
below_one f g k (suc n) near more same = ⊎_elim
    (λ (e : n ≡ k).
    let rest : below f n ≡ below g n = below_same f g n (λ h l. same h (λ (e' : h ≡ k). omega (arith, e, e', l))) in
    let last : f n ≡ g n + 1 = ap f e ∙ more ∙ ap (λ m. g m + 1) (sym e) in
    omega (arith, rest, last))
    (λ (apart : n ≢ k).
    let inside : k < n = omega (arith, near, apart) in
    omega (arith, below_one f g k n inside more same, same n apart))
    (cases_eq n k)

-- how many of these have the key
abbrev pub of_key : {X : Type 0} → (X → ℕ) → List X → ℕ → ℕ
of_key key xs h = length (filter (λ x. eqb (key x) h) xs)

-- one more counts for its own key and no other
pub same_key : {X : Type 0} (key : X → ℕ) (x : X) (xs : List X) → of_key key (x ∷ xs) (key x) ≡ of_key key xs (key x) + 1
same_key key x xs =
    ap (λ b. length (cond b (x ∷ filter (λ y. eqb (key y) (key x)) xs) (filter (λ y. eqb (key y) (key x)) xs))) (eq-eqb (key x) (key x) refl) ∙ omega arith

other_key : {X : Type 0} (key : X → ℕ) (x : X) (xs : List X) (h : ℕ) → h ≢ key x → of_key key (x ∷ xs) h ≡ of_key key xs h
other_key key x xs h apart = ap (λ b. length (cond b (x ∷ filter (λ y. eqb (key y) h) xs) (filter (λ y. eqb (key y) h) xs))) (ne_eqb (key x) h (λ e. apart (sym e)))

-- each of these is counted at most once
pub shares_at_most : {X : Type 0} (key : X → ℕ) (xs : List X) (n : ℕ) → below (of_key key xs) n ≤ length xs
shares_at_most key [] n = omega (arith, below_nothing n)
shares_at_most key (x ∷ xs) n =
    let rest = shares_at_most key xs n in
    ⊎_elim
    (λ (near : key x < n). omega (arith, below_one (of_key key (x ∷ xs)) (of_key key xs) (key x) n near (same_key key x xs) (other_key key x xs), rest))
    (λ (past : n ≤ key x).
    omega (arith, below_same (of_key key (x ∷ xs)) (of_key key xs) n (λ h l. other_key key x xs h (λ e. omega (arith, e, l, past))), rest))
    (cases_lt (key x) n)

-- and once where its key is below
pub shares : {X : Type 0} (key : X → ℕ) (xs : List X) (n : ℕ) → All (λ x. key x < n) xs → below (of_key key xs) n ≡ length xs
shares key [] n all = below_nothing n
shares key (x ∷ xs) n all =
    let near : key x < n = All-head (λ y. key y < n) x xs all in
    let rest = shares key xs n (All-tail (λ y. key y < n) x xs all) in
    omega (arith, below_one (of_key key (x ∷ xs)) (of_key key xs) (key x) n near (same_key key x xs) (other_key key x xs), rest)

-- where each has few calls for its records, all together have
pub few_together : (calls logins procs : ℕ → ℕ) (n : ℕ) → ((h : ℕ) → h < n → 1024 * calls h ≤ logins h + procs h + 17408) → 1024 * below calls n ≤ below logins n + below procs n + 17408 * n
few_together calls logins procs zero few = omega arith
few_together calls logins procs (suc n) few =
    let rest = few_together calls logins procs n (λ h l. few h (omega (arith, l))) in
    let last = few n (omega arith) in
    omega (arith, rest, last)
