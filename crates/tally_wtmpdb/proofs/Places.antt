-- The moments of rows, by the places of the rows.
use Rattle.std.proofs.Common.{◌≡◌, ℕ, ◌+◌, ◌<◌, List, [], ◌∷◌, ◌++◌, length, take, get_or, sym, ap, ◌∙◌, arith, append_assoc}
use Rattle.std.proofs.lemmas.List.{append-nil, length-take-le, take_more}
use Rattle.sqlite_value.specs.Order.{Row}
use Rattle.tally_wtmpdb.specs.Moments.{moments, moments_from, moments_of}
use Rattle.tally_wtmpdb.specs.declared.moment.Moment.{Moment}

pub moments_from-append : (n : ℕ) (xs ys : List Row) → moments_from n (xs ++ ys) ≡ moments_from n xs ++ moments_from (n + length xs) ys
moments_from-append n [] ys = ap (λ (k : ℕ). moments_from k ys) (omega arith)
moments_from-append n (x ∷ xs) ys =
    let same : (n + 1) + length xs ≡ n + length (x ∷ xs) = omega arith in
    ap (λ (l : List Moment). moments_of n x ++ l) (moments_from-append (n + 1) xs ys ∙ ap (λ (k : ℕ). moments_from (n + 1) xs ++ moments_from k ys) same)
    ∙ sym (append_assoc (moments_of n x) (moments_from (n + 1) xs) (moments_from (n + length (x ∷ xs)) ys))

-- one row more
pub moments_more : (rows : List Row) (i : ℕ) (row : Row) → i < length rows → row ≡ get_or rows i row → moments (take (i + 1) rows) ≡ moments (take i rows) ++ moments_of i row
moments_more rows i row within is =
    let len : length (take i rows) ≡ i = length-take-le i rows (omega arith) in
    ap moments (take_more rows i row within ∙ ap (λ (r : Row). take i rows ++ r ∷ []) (sym is))
    ∙ moments_from-append 0 (take i rows) (row ∷ [])
    ∙ ap (λ (l : List Moment). moments (take i rows) ++ l) (append-nil (moments_of (0 + length (take i rows)) row))
    ∙ ap (λ (k : ℕ). moments (take i rows) ++ moments_of k row) (omega (arith, len))
