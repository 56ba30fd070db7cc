-- That each row has one login at most, so that what stands before it is all that came before.
use Rattle.std.proofs.Common.{◌≡◌, ℕ, zero, suc, ◌+◌, ◌<◌, ◌≤◌, ◌==◌, Bool, true, false, not, ◌&&◌, ◌||◌, cond, List, [], ◌∷◌, ◌++◌, Option, Some, None, length, take, get_or, refl, sym, ap, ◌∙◌, arith}
use Rattle.std.proofs.lemmas.Bool.Decides.{nat_tests}
use Rattle.std.proofs.lemmas.List.Sorted.{sum_by-IsPermutation}
use Rattle.std.proofs.lemmas.List.Sums.{sum_by-append}
use Rattle.std.specs.List.{count_by, list_any, position_or_len}
use Rattle.std.specs.Prelude.{ℤ}
use Rattle.sqlite_value.specs.Order.{Row}
use Rattle.tally_wtmpdb.proofs.Kept.{front}
use Rattle.tally_wtmpdb.proofs.Opened.{or_true}
use Rattle.tally_wtmpdb.specs.Lines.{begins, ends, is_login, is_of_row, open_logins}
use Rattle.tally_wtmpdb.specs.Moments.{AreInOrder, boot_end, moment, moments, moments_from, moments_of, session_end}
use Rattle.tally_wtmpdb.specs.Rows.{is_boot, is_session, login_of, logout_of}
use Rattle.tally_wtmpdb.specs.declared.moment.Moment.{Moment}
use Rattle.tally_wtmpdb.specs.declared.moment.What.TheVariants.{Logout, Boot, Login, LogoutAtOnce}

joined : (p : Moment → Bool) (xs ys : List Moment) → count_by p (xs ++ ys) ≡ count_by p xs + count_by p ys
joined p xs ys = sum_by-append (λ y. cond (p y) 1 0) xs ys

no_login : (k n : ℕ) (b : Bool) (t : ℤ) → begins k (moment n (cond b Logout LogoutAtOnce) t) ≡ false
no_login k n true t = refl
no_login k n false t = refl

ends_once : (k n : ℕ) (row : Row) (o : Option ℤ) → count_by (begins k) (session_end n row o) ≡ 0
ends_once k n row None = refl
ends_once k n row (Some t) = ap (λ b. 0 + cond b 1 0) (no_login k n _ t)

boots_once : (k n : ℕ) (o : Option ℤ) → count_by (begins k) (boot_end n o) ≡ 0
boots_once k n None = refl
boots_once k n (Some t) = refl

-- a row's moments begin its own session, once at most
of_row : (k n : ℕ) (row : Row) → count_by (begins k) (moments_of n row) ≤ cond (n == k) 1 0
of_row k n row = by (is_session row) (is_boot row)
  where
    by : (session boot : Bool)
        → count_by (begins k) (cond session (moment n Login (login_of row) ∷ session_end n row (logout_of row)) (cond boot (moment n Boot (login_of row) ∷ boot_end n (logout_of row)) [])) ≤ cond (n == k) 1 0
    by true boot = omega (arith, front (begins k) (moment n Login (login_of row)) (session_end n row (logout_of row)), ends_once k n row (logout_of row))
    by false true = omega (arith, front (begins k) (moment n Boot (login_of row)) (boot_end n (logout_of row)), boots_once k n (logout_of row))
    by false false = omega arith

from_place : (k n : ℕ) (rows : List Row) → (count_by (begins k) (moments_from n rows) ≤ 1) × (k < n → count_by (begins k) (moments_from n rows) ≡ 0)
from_place k n [] = (omega arith, λ h. refl)
from_place k n (row ∷ rows) = by (n == k) (own (n == k) refl) (not_below (n == k) refl) (of_row k n row) (from_place k (n + 1) rows)
  where
    own : (b : Bool) → (n == k) ≡ b → b ≡ true → k < n + 1
    own b e h = let f : (n == k) ≡ true = e ∙ h in grind (arith, nat_tests, f)

    not_below : (b : Bool) → (n == k) ≡ b → k < n → b ≡ false
    not_below b e h = sym e ∙ grind (arith, nat_tests, h)

    both : count_by (begins k) (moments_from n (row ∷ rows)) ≡ count_by (begins k) (moments_of n row) + count_by (begins k) (moments_from (n + 1) rows)
    both = joined (begins k) (moments_of n row) (moments_from (n + 1) rows)

    by : (b : Bool) → (b ≡ true → k < n + 1) → (k < n → b ≡ false) → count_by (begins k) (moments_of n row) ≤ cond b 1 0
        → (count_by (begins k) (moments_from (n + 1) rows) ≤ 1) × (k < n + 1 → count_by (begins k) (moments_from (n + 1) rows) ≡ 0)
        → (count_by (begins k) (moments_from n (row ∷ rows)) ≤ 1) × (k < n → count_by (begins k) (moments_from n (row ∷ rows)) ≡ 0)
    by true here below one rest = (omega (arith, one, rest.1 (here refl), both), λ h. absurd (let f : true ≡ false = below h in cc))
    by false here below one rest = (omega (arith, one, rest.0, both), λ h. let later : k < n + 1 = omega (arith, h) in omega (arith, one, rest.1 later, both))

-- each row has one login at most
pub begins_once : (rows : List Row) (ordered : List Moment) → AreInOrder (moments rows) ordered → (k : ℕ) → count_by (begins k) ordered ≤ 1
begins_once rows ordered h k =
    let same : count_by (begins k) ordered ≡ count_by (begins k) (moments rows) = sum_by-IsPermutation (λ y. cond (begins k y) 1 0) (moments rows) ordered h.same in
    omega (arith, same, (from_place k 0 rows).0)

or_either : (a b c : Bool) → (a || b) ≡ true → (b ≡ true → c ≡ true) → (a || c) ≡ true
or_either true b c e h = refl
or_either false b c e h = h e

-- what stands before the only one that passes
abbrev pub OnlyAt : (Moment → Bool) → List Moment → ℕ → Type 0
OnlyAt p xs i = (position_or_len p xs ≡ i) × (list_any p (take i xs) ≡ false)

counted : (b : Bool) → b ≡ true → 1 ≤ cond b 1 0
counted true e = omega arith
counted false e = absurd cc

count_get : (p : Moment → Bool) (xs : List Moment) (i : ℕ) (d : Moment) → i < length xs → p (get_or xs i d) ≡ true → 1 ≤ count_by p xs
count_get p [] i d within passes = absurd (omega (arith, within))
count_get p (x ∷ xs) zero d within passes = omega (arith, counted (p x) passes, front p x xs)
count_get p (x ∷ xs) (suc i) d within passes = omega (arith, count_get p xs i d (omega (arith, within)) passes, front p x xs)

pub only_at : (p : Moment → Bool) (xs : List Moment) (i : ℕ) (d : Moment) → count_by p xs ≤ 1 → i < length xs → p (get_or xs i d) ≡ true → OnlyAt p xs i
only_at p [] i d few within passes = absurd (omega (arith, within))
only_at p (x ∷ xs) zero d few within passes = (ap (λ b. cond (not b) (1 + position_or_len p xs) 0) passes, refl)
only_at p (x ∷ xs) (suc i) d few within passes =
    by (p x) (omega (arith, few, front p x xs)) (count_get p xs i d (omega (arith, within)) passes) (only_at p xs i d (omega (arith, few, front p x xs)) (omega (arith, within)) passes)
  where
    by : (b : Bool) → cond b 1 0 + count_by p xs ≤ 1 → 1 ≤ count_by p xs → OnlyAt p xs i
        → (cond (not b) (1 + position_or_len p xs) 0 ≡ suc i) × ((b || list_any p (take i xs)) ≡ false)
    by true one some rest = absurd (omega (arith, one, some))
    by false one some rest = (omega (arith, rest.0), rest.1)

-- a session that is open was begun
pub begun : (k : ℕ) (xs : List Moment) → list_any (is_of_row k) (open_logins xs) ≡ true → list_any (begins k) xs ≡ true
unfolding open_logins
begun k [] e = e
begun k (x ∷ xs) e = by (is_login x.what) (not (list_any (ends x.place) xs)) e (begun k xs)
  where
    by : (login stays : Bool) → list_any (is_of_row k) (cond (login && stays) (x ∷ open_logins xs) (open_logins xs)) ≡ true
        → (list_any (is_of_row k) (open_logins xs) ≡ true → list_any (begins k) xs ≡ true) → ((login && is_of_row k x) || list_any (begins k) xs) ≡ true
    by true true h rest = or_either (is_of_row k x) _ _ h rest
    by true false h rest = ap (λ b. is_of_row k x || b) (rest h) ∙ or_true (is_of_row k x)
    by false stays h rest = rest h

pub length_open : (xs : List Moment) → length (open_logins xs) ≤ length xs
unfolding open_logins
length_open [] = omega arith
length_open (x ∷ xs) = by (is_login x.what && not (list_any (ends x.place) xs)) (length_open xs)
  where
    by : (b : Bool) → length (open_logins xs) ≤ length xs → length (cond b (x ∷ open_logins xs) (open_logins xs)) ≤ length (x ∷ xs)
    by true rest = omega (arith, rest)
    by false rest = omega (arith, rest)
