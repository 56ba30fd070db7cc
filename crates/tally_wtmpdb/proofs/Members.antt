-- That each login and each logout is of a row that is a session.
use Rattle.std.proofs.Common.{◌≡◌, ◌⊎◌, inl, inr, ℕ, ◌+◌, ◌<◌, ◌≤◌, Bool, true, false, not, ◌||◌, cond, List, [], ◌∷◌, Option, Some, None, length, drop, get_or, refl, sym, ap, ◌∙◌, arith}
use Rattle.std.proofs.lemmas.Bool.{both_ways, cases_lt, or_from}
use Rattle.std.proofs.lemmas.List.{drop-drop, get_or-drop, get_or_past}
use Rattle.std.proofs.lemmas.List.Folds.{list_any-append, list_any_at}
use Rattle.std.proofs.lemmas.List.Sorted.{list_any-IsPermutation}
use Rattle.std.specs.List.{list_any}
use Rattle.std.specs.Prelude.{ℤ, int_lt}
use Rattle.sqlite_value.specs.Order.{Row}
use Rattle.tally_wtmpdb.specs.Lines.{is_halt}
use Rattle.tally_wtmpdb.specs.Moments.{AreInOrder, boot_end, moment, moments, moments_from, moments_of, session_end}
use Rattle.tally_wtmpdb.specs.Rows.{is_boot, is_session, login_of, logout_of}
use Rattle.tally_wtmpdb.specs.declared.moment.Moment.{Moment}
use Rattle.tally_wtmpdb.specs.declared.moment.What.TheVariants.{Logout, Boot, Login, LogoutAtOnce}

-- a moment is not of a row that has it
abbrev is_strange : List Row → Moment → Bool
is_strange rows m = not (is_halt m.what || is_session (get_or rows m.place []))

row_at : (all : List Row) (n : ℕ) (row : Row) (rows : List Row) → drop n all ≡ row ∷ rows → get_or all n [] ≡ row
row_at all n row rows e =
    let same : n ≡ n + 0 = omega arith in
    ap (λ (k : ℕ). get_or all k []) same ∙ sym (get_or-drop n all 0 []) ∙ ap (λ (l : List Row). get_or l 0 []) e

next_rows : (all : List Row) (n : ℕ) (row : Row) (rows : List Row) → drop n all ≡ row ∷ rows → drop (n + 1) all ≡ rows
next_rows all n row rows e = sym (drop-drop 1 n all) ∙ ap (λ (l : List Row). drop 1 l) e

of_row : (all : List Row) (n : ℕ) (row : Row) → get_or all n [] ≡ row → list_any (is_strange all) (moments_of n row) ≡ false
of_row all n row e = by (is_session row) refl (is_boot row)
  where
    session : is_session row ≡ true → is_session (get_or all n []) ≡ true
    session t = ap is_session e ∙ t

    ended : (b : Bool) (t : ℤ) → is_session row ≡ true → is_strange all (moment n (cond b Logout LogoutAtOnce) t) ≡ false
    ended true t h = ap not (session h)
    ended false t h = ap not (session h)

    ends_well : (o : Option ℤ) → is_session row ≡ true → list_any (is_strange all) (session_end n row o) ≡ false
    ends_well None h = refl
    ends_well (Some t) h = or_from _ false (ended (int_lt (login_of row) t) t h) refl

    boots_well : (o : Option ℤ) → list_any (is_strange all) (moment n Boot (login_of row) ∷ boot_end n o) ≡ false
    boots_well None = refl
    boots_well (Some t) = refl

    by : (s : Bool) → is_session row ≡ s → (b : Bool)
        → list_any (is_strange all) (cond s (moment n Login (login_of row) ∷ session_end n row (logout_of row)) (cond b (moment n Boot (login_of row) ∷ boot_end n (logout_of row)) [])) ≡ false
    by true t b = or_from (is_strange all (moment n Login (login_of row))) (list_any (is_strange all) (session_end n row (logout_of row))) (ap not (session t)) (ends_well (logout_of row) t)
    by false t true = boots_well (logout_of row)
    by false t false = refl

from_place : (all : List Row) (n : ℕ) (rows : List Row) → drop n all ≡ rows → list_any (is_strange all) (moments_from n rows) ≡ false
from_place all n [] e = refl
from_place all n (row ∷ rows) e =
    list_any-append (is_strange all) (moments_of n row) (moments_from (n + 1) rows)
    ∙ or_from (list_any (is_strange all) (moments_of n row)) (list_any (is_strange all) (moments_from (n + 1) rows)) (of_row all n row (row_at all n row rows e)) (from_place all (n + 1) rows (next_rows all n row rows e))

either_of : (a b : Bool) → (a || b) ≡ true → a ≡ false → b ≡ true
either_of true b h e = absurd cc
either_of false b h e = h

-- what is no boot and no shutdown is of a session
pub of_session : (rows : List Row) (ms : List Moment) → AreInOrder (moments rows) ms → (i : ℕ) (d : Moment) → i < length ms → is_halt (get_or ms i d).what ≡ false
    → is_session (get_or rows (get_or ms i d).place []) ≡ true
of_session rows ms order i d within e = either_of (is_halt (get_or ms i d).what) (is_session (get_or rows (get_or ms i d).place [])) (by (is_halt (get_or ms i d).what || is_session (get_or rows (get_or ms i d).place [])) refl) e
  where
    none : list_any (is_strange rows) ms ≡ false
    none = sym (list_any-IsPermutation (is_strange rows) (moments rows) ms order.same) ∙ from_place rows 0 rows refl

    by : (b : Bool) → (is_halt (get_or ms i d).what || is_session (get_or rows (get_or ms i d).place [])) ≡ b → b ≡ true
    by true h = refl
    by false h = absurd (both_ways (list_any (is_strange rows) ms) none (list_any_at (is_strange rows) ms i d within (ap not h)))

-- a session is one of the rows
pub place_within : (rows : List Row) (p : ℕ) → is_session (get_or rows p []) ≡ true → p < length rows
place_within rows p e = by (cases_lt p (length rows))
  where
    by : (p < length rows) ⊎ (length rows ≤ p) → p < length rows
    by (inl lt) = lt
    by (inr past) = absurd (both_ways (is_session (get_or rows p [])) (ap is_session (get_or_past rows p [] past)) e)
