-- That of the open sessions on a text one at most has no mark.
use Rattle.std.proofs.Common.{◌≡◌, ℕ, zero, suc, ◌+◌, ◌<◌, ◌≤◌, Bool, true, false, not, ◌&&◌, ◌||◌, cond, List, [], ◌∷◌, ◌++◌, filter, length, take, get_or, refl, sym, subst, ap, ◌∙◌, arith}
use Rattle.std.proofs.lemmas.Slice.Eq.{bytes_eq-Decides}
use Rattle.std.specs.List.{count_by, list_any}
use Rattle.std.specs.Prelude.{pos}
use Rattle.sqlite_value.specs.Order.{Row}
use Rattle.tally_wtmpdb.proofs.Kept.{count-le-filter, count_by-more, count_none, front}
use Rattle.tally_wtmpdb.proofs.Once.{begins_once, only_at}
use Rattle.tally_wtmpdb.proofs.Opened.{is_other, open_logins-halt, open_logins-login, open_logins-logout}
use Rattle.tally_wtmpdb.proofs.Passing.{begins_it, next_taken}
use Rattle.tally_wtmpdb.specs.Laws.{has_line}
use Rattle.tally_wtmpdb.specs.Lines.{begins, has_mark, is_halt, is_logout, is_marked, is_on, is_taken, open_logins, text_of}
use Rattle.tally_wtmpdb.specs.Moments.{AreInOrder, moments}
use Rattle.tally_wtmpdb.specs.declared.moment.Moment.{Moment}
use Rattle.tally_wtmpdb.specs.declared.moment.What.{What}
use Rattle.tally_wtmpdb.specs.declared.moment.What.TheVariants.{Logout, Down, Boot, Login, LogoutAtOnce}

abbrev first : Moment
first = record { micros = pos 0; what = Logout; place = 0 }

fewer : (p q : Moment → Bool) (l : List Moment) → count_by (λ x. p x && q x) l ≤ count_by p l
fewer p q [] = omega arith
fewer p q (x ∷ l) = omega (arith, front (λ y. p y && q y) x l, front p x l, by (p x) (q x), fewer p q l)
  where
    by : (a b : Bool) → cond (a && b) 1 0 ≤ cond a 1 0
    by true true = omega arith
    by true false = omega arith
    by false b = omega arith

either_not : (a b : Bool) → not (a || b) ≡ true → b ≡ false
either_not true b e = absurd cc
either_not false true e = absurd cc
either_not false false e = refl

both_of : (a b : Bool) → (a && b) ≡ true → (a ≡ true) × (b ≡ true)
both_of true true e = (refl, refl)
both_of true false e = absurd cc
both_of false b e = absurd cc

-- where a session has its text as its line, no other on the text is open
none_on : (rows : List Row) (ms : List Moment) (text : List ℕ) (i : ℕ) → AreInOrder (moments rows) ms → i < length ms → (get_or ms i first).what ≡ Login
    → has_line rows ms text (get_or ms i first) ≡ true → list_any (is_on rows text) (open_logins (take i ms)) ≡ false
none_on rows ms text i order within e has =
    let place = (get_or ms i first).place in
    let halves = both_of (is_on rows text (get_or ms i first)) (not (is_marked rows ms place)) has in
    let same : text_of rows place ≡ text = (bytes_eq-Decides (text_of rows place) text).0 halves.0 in
    let before = (only_at (begins place) ms i first (begins_once rows ms order place) within (begins_it ms i first e)).0 in
    ap (λ (t : List ℕ). list_any (is_on rows t) (open_logins (take i ms))) (sym same)
    ∙ ap (λ k. is_taken rows (take k ms) (text_of rows place)) (sym before)
    ∙ either_not (has_mark (text_of rows place)) _ halves.1

-- a moment that ends sessions
ended : (p : Moment → Bool) (ms : List Moment) (i : ℕ) (l : List Moment) → open_logins (take (i + 1) ms) ≡ l → count_by p l ≤ 1 → count_by p (open_logins (take (i + 1) ms)) ≤ 1
ended p ms i l e few = subst (λ (k : List Moment). count_by p k ≤ 1) (sym e) few

step : (rows : List Row) (ms : List Moment) → AreInOrder (moments rows) ms → (text : List ℕ) (i : ℕ) → i < length ms → (w : What) → (get_or ms i first).what ≡ w
    → count_by (has_line rows ms text) (open_logins (take i ms)) ≤ 1 → count_by (has_line rows ms text) (open_logins (take (i + 1) ms)) ≤ 1
step rows ms order text i within Login e few =
    ended (has_line rows ms text) ms i (open_logins (take i ms) ++ get_or ms i first ∷ []) (next_taken ms i first within ∙ open_logins-login (take i ms) (get_or ms i first) e)
    (by (has_line rows ms text (get_or ms i first)) refl)
  where
    by : (b : Bool) → has_line rows ms text (get_or ms i first) ≡ b → count_by (has_line rows ms text) (open_logins (take i ms) ++ get_or ms i first ∷ []) ≤ 1
    by true has =
        let none : count_by (is_on rows text) (open_logins (take i ms)) ≡ 0 = count_none (is_on rows text) (open_logins (take i ms)) (none_on rows ms text i order within e has) in
        let some : count_by (has_line rows ms text) (open_logins (take i ms)) ≤ count_by (is_on rows text) (open_logins (take i ms)) =
        fewer (is_on rows text) (λ m. not (is_marked rows ms m.place)) (open_logins (take i ms)) in
        let more : count_by (has_line rows ms text) (open_logins (take i ms) ++ get_or ms i first ∷ []) ≡ count_by (has_line rows ms text) (open_logins (take i ms)) + 1 =
        count_by-more (has_line rows ms text) (open_logins (take i ms)) (get_or ms i first) ∙ ap (λ b. count_by (has_line rows ms text) (open_logins (take i ms)) + cond b 1 0) has in
        omega (arith, none, some, more)
    by false has =
        let more : count_by (has_line rows ms text) (open_logins (take i ms) ++ get_or ms i first ∷ []) ≡ count_by (has_line rows ms text) (open_logins (take i ms)) + 0 =
        count_by-more (has_line rows ms text) (open_logins (take i ms)) (get_or ms i first) ∙ ap (λ b. count_by (has_line rows ms text) (open_logins (take i ms)) + cond b 1 0) has in
        omega (arith, few, more)
step rows ms order text i within Logout e few =
    ended (has_line rows ms text) ms i (filter (is_other (get_or ms i first)) (open_logins (take i ms))) (next_taken ms i first within ∙ open_logins-logout (take i ms) (get_or ms i first) (ap is_logout e))
    (omega (arith, few, count-le-filter (has_line rows ms text) (is_other (get_or ms i first)) (open_logins (take i ms))))
step rows ms order text i within LogoutAtOnce e few =
    ended (has_line rows ms text) ms i (filter (is_other (get_or ms i first)) (open_logins (take i ms))) (next_taken ms i first within ∙ open_logins-logout (take i ms) (get_or ms i first) (ap is_logout e))
    (omega (arith, few, count-le-filter (has_line rows ms text) (is_other (get_or ms i first)) (open_logins (take i ms))))
step rows ms order text i within Boot e few = ended (has_line rows ms text) ms i [] (next_taken ms i first within ∙ open_logins-halt (take i ms) (get_or ms i first) (ap is_halt e)) (omega arith)
step rows ms order text i within Down e few = ended (has_line rows ms text) ms i [] (next_taken ms i first within ∙ open_logins-halt (take i ms) (get_or ms i first) (ap is_halt e)) (omega arith)

pub apart : (rows : List Row) (ms : List Moment) → AreInOrder (moments rows) ms → (text : List ℕ) (i : ℕ) → i ≤ length ms
    → count_by (has_line rows ms text) (open_logins (take i ms)) ≤ 1
unfolding open_logins
apart rows ms order text zero within = omega arith
apart rows ms order text (suc i) within =
    let next : i + 1 ≡ suc i = omega arith in
    subst (λ (k : ℕ). count_by (has_line rows ms text) (open_logins (take k ms)) ≤ 1) next
    (step rows ms order text i (omega (arith, within)) (get_or ms i first).what refl (apart rows ms order text i (omega (arith, within))))
