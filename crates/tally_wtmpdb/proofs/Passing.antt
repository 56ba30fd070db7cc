-- What a moment makes of what is kept, and what its record has.
use Rattle.std.proofs.Common.{◌≡◌, ℕ, ◌+◌, ◌-◌, ◌<◌, ◌≤◌, ◌==◌, Bool, true, false, ◌&&◌, ◌||◌, cond, List, [], ◌∷◌, ◌++◌, Option, Some, None, length, take, get_or, refl, sym, subst, ap, ◌∙◌, arith}
use Rattle.std.proofs.lemmas.Bool.Decides.{nat_tests}
use Rattle.std.proofs.lemmas.List.{length-take-le, take_more}
use Rattle.std.proofs.lemmas.List.Sums.{count_by-le-length}
use Rattle.std.proofs.lemmas.Option.{slice_get-get_or}
use Rattle.std.specs.List.{count_by, list_any}
use Rattle.std.specs.Prelude.{bytes_eq, if◌then◌else◌, is_some, nat_lt, OnOk, Result, Ok, Err}
use Rattle.sqlite_value.specs.Order.{Row}
use Rattle.tally_wtmpdb.proofs.Kept.{alike, count_none, count_some, kept_begun, kept_ended, kept_none}
use Rattle.tally_wtmpdb.proofs.Once.{begins_once, begun, length_open, only_at}
use Rattle.tally_wtmpdb.proofs.Opened.{open_logins-halt, open_logins-login, open_logins-logout}
use Rattle.tally_wtmpdb.specs.Lines.{begins, has_mark, is_halt, is_login, is_logout, is_marked, is_of_row, is_on, is_open, is_taken, mark_after, mark_at, mark_if, open_logins, text_of}
use Rattle.tally_wtmpdb.specs.Moments.{AreInOrder, moments}
use Rattle.tally_wtmpdb.specs.declared.lines.OpenSessions.{OpenSessions}
use Rattle.tally_wtmpdb.specs.declared.moment.Moment.{Moment}
use Rattle.tally_wtmpdb.specs.declared.moment.What.{What}
use Rattle.tally_wtmpdb.specs.declared.moment.What.TheVariants.{Logout, Down, Boot, Login, LogoutAtOnce}
use Rattle.tally_wtmpdb.specs.inside.Open.{IsKept, count_in, mark_in}

pub on_both : {T E A B C : Type 0} (r : Result T E) → OnOk r A → OnOk r B → (A → B → C) → OnOk r C
on_both (Ok x) a b h = h a b
on_both (Err e) a b h = tt

some_counted : (p : Moment → Bool) (l : List Moment) → nat_lt 0 (count_by p l) ≡ list_any p l
some_counted p l = by (list_any p l) (count_none p l) (count_some p l)
  where
    by : (b : Bool) → (b ≡ false → count_by p l ≡ 0) → (b ≡ true → 1 ≤ count_by p l) → nat_lt 0 (count_by p l) ≡ b
    by true none some = let h : 1 ≤ count_by p l = some refl in grind (arith, nat_tests, h)
    by false none some = let h : count_by p l ≡ 0 = none refl in grind (arith, nat_tests, h)

-- one moment more
pub next_taken : (ms : List Moment) (i : ℕ) (d : Moment) → i < length ms → open_logins (take (i + 1) ms) ≡ open_logins (take i ms ++ get_or ms i d ∷ [])
next_taken ms i d within = ap open_logins (take_more ms i d within)

mark_is : (rows : List Row) (ms : List Moment) (i : ℕ) (d : Moment) → i < length ms
    → mark_at rows ms i ≡ mark_after rows ms (take i ms) (get_or ms i d).place (get_or ms i d).what
mark_is rows ms i d within = ap (mark_if rows ms (take i ms)) (slice_get-get_or ms i d within)

-- ---- a login

pub begins_it : (ms : List Moment) (i : ℕ) (d : Moment) → (get_or ms i d).what ≡ Login → begins (get_or ms i d).place (get_or ms i d) ≡ true
begins_it ms i d e = ap (λ w. is_login w && ((get_or ms i d).place == (get_or ms i d).place)) e ∙ alike (get_or ms i d).place (get_or ms i d).place refl

pub not_open : (rows : List Row) (ms : List Moment) (i : ℕ) (d : Moment) → AreInOrder (moments rows) ms → i < length ms → (get_or ms i d).what ≡ Login
    → list_any (is_of_row (get_or ms i d).place) (open_logins (take i ms)) ≡ false
not_open rows ms i d order within e =
    by (list_any (is_of_row place) (open_logins (take i ms))) (begun place (take i ms)) (only_at (begins place) ms i d (begins_once rows ms order place) within (begins_it ms i d e)).1
  where
    place : ℕ
    place = (get_or ms i d).place

    by : (b : Bool) → (b ≡ true → list_any (begins (get_or ms i d).place) (take i ms) ≡ true) → list_any (begins (get_or ms i d).place) (take i ms) ≡ false → b ≡ false
    by true h none = absurd (let f : true ≡ false = sym (h refl) ∙ none in cc)
    by false h none = refl

pub marked_is : (rows : List Row) (ms : List Moment) (i : ℕ) (d : Moment) (s : OpenSessions) (text : List ℕ) (marked : Bool)
    → AreInOrder (moments rows) ms → i < length ms → (get_or ms i d).what ≡ Login → IsKept rows ms (open_logins (take i ms)) s
    → text ≡ text_of rows (get_or ms i d).place → marked ≡ (has_mark text || nat_lt 0 (count_in s text))
    → marked ≡ is_marked rows ms (get_or ms i d).place
marked_is rows ms i d s text marked order within e kept same is =
    is
    ∙ ap (λ n. has_mark text || nat_lt 0 n) (kept.counts text)
    ∙ ap (λ b. has_mark text || b) (some_counted (is_on rows text) (open_logins (take i ms)))
    ∙ ap (λ (t : List ℕ). has_mark t || is_taken rows (take i ms) t) same
    ∙ ap (λ k. has_mark (text_of rows (get_or ms i d).place) || is_taken rows (take k ms) (text_of rows (get_or ms i d).place))
    (sym (only_at (begins (get_or ms i d).place) ms i d (begins_once rows ms order (get_or ms i d).place) within (begins_it ms i d e)).0)

pub login_mark : (rows : List Row) (ms : List Moment) (i : ℕ) (d : Moment) (marked : Bool) → i < length ms → (get_or ms i d).what ≡ Login
    → marked ≡ is_marked rows ms (get_or ms i d).place → ◌≡◌ {A = Option Bool} (Some marked) (mark_at rows ms i)
login_mark rows ms i d marked within e is =
    ap Some is ∙ sym (ap (mark_after rows ms (take i ms) (get_or ms i d).place) e) ∙ sym (mark_is rows ms i d within)

pub login_kept : (rows : List Row) (ms : List Moment) (i : ℕ) (d : Moment) (s s' : OpenSessions) (text : List ℕ) (marked : Bool)
    → AreInOrder (moments rows) ms → i < length ms → (get_or ms i d).what ≡ Login → IsKept rows ms (open_logins (take i ms)) s
    → text ≡ text_of rows (get_or ms i d).place → marked ≡ is_marked rows ms (get_or ms i d).place
    → ((p : ℕ) → mark_in s' p ≡ (if (get_or ms i d).place == p then Some marked else mark_in s p))
    → ((t : List ℕ) → count_in s' t ≡ (if bytes_eq text t then count_in s text + 1 else count_in s t))
    → IsKept rows ms (open_logins (take (i + 1) ms)) s'
login_kept rows ms i d s s' text marked order within e kept same is marks counts =
    subst (λ (l : List Moment). IsKept rows ms l s') (sym (next_taken ms i d within ∙ open_logins-login (take i ms) (get_or ms i d) e))
    (kept_begun rows ms (open_logins (take i ms)) s s' (get_or ms i d) marked kept (not_open rows ms i d order within e) is marks
    (λ t. counts t ∙ ap (λ (x : List ℕ). cond (bytes_eq x t) (count_in s x + 1) (count_in s t)) same))

-- ---- a logout

logout_after : (rows : List Row) (ms before : List Moment) (place : ℕ) (w : What) → is_logout w ≡ true
    → mark_after rows ms before place w ≡ (if is_open place before then Some (is_marked rows ms place) else None)
logout_after rows ms before place Logout e = refl
logout_after rows ms before place Down e = absurd cc
logout_after rows ms before place Boot e = absurd cc
logout_after rows ms before place Login e = absurd cc
logout_after rows ms before place LogoutAtOnce e = refl

pub logout_mark : (rows : List Row) (ms : List Moment) (i : ℕ) (d : Moment) (s : OpenSessions) → i < length ms → is_logout (get_or ms i d).what ≡ true
    → IsKept rows ms (open_logins (take i ms)) s → mark_in s (get_or ms i d).place ≡ mark_at rows ms i
logout_mark rows ms i d s within e kept =
    kept.marks (get_or ms i d).place ∙ sym (logout_after rows ms (take i ms) (get_or ms i d).place (get_or ms i d).what e) ∙ sym (mark_is rows ms i d within)

pub logout_kept : (rows : List Row) (ms : List Moment) (i : ℕ) (d : Moment) (s s' : OpenSessions) (text : List ℕ) → i < length ms → is_logout (get_or ms i d).what ≡ true
    → IsKept rows ms (open_logins (take i ms)) s → text ≡ text_of rows (get_or ms i d).place
    → ((p : ℕ) → mark_in s' p ≡ (if (get_or ms i d).place == p then None else mark_in s p))
    → ((t : List ℕ) → count_in s' t ≡ (if is_some (mark_in s (get_or ms i d).place) && bytes_eq text t then count_in s text - 1 else count_in s t))
    → IsKept rows ms (open_logins (take (i + 1) ms)) s'
logout_kept rows ms i d s s' text within e kept same marks counts =
    subst (λ (l : List Moment). IsKept rows ms l s') (sym (next_taken ms i d within ∙ open_logins-logout (take i ms) (get_or ms i d) e))
    (kept_ended rows ms (open_logins (take i ms)) s s' (get_or ms i d) kept marks
    (λ t. counts t ∙ ap (λ (x : List ℕ). cond (is_some (mark_in s (get_or ms i d).place) && bytes_eq x t) (count_in s x - 1) (count_in s t)) same))

-- ---- a boot or a shutdown

halt_after : (rows : List Row) (ms before : List Moment) (place : ℕ) (w : What) → is_halt w ≡ true → Some false ≡ mark_after rows ms before place w
halt_after rows ms before place Logout e = absurd cc
halt_after rows ms before place Down e = refl
halt_after rows ms before place Boot e = refl
halt_after rows ms before place Login e = absurd cc
halt_after rows ms before place LogoutAtOnce e = absurd cc

pub halt_mark : (rows : List Row) (ms : List Moment) (i : ℕ) (d : Moment) → i < length ms → is_halt (get_or ms i d).what ≡ true → ◌≡◌ {A = Option Bool} (Some false) (mark_at rows ms i)
halt_mark rows ms i d within e = halt_after rows ms (take i ms) (get_or ms i d).place (get_or ms i d).what e ∙ sym (mark_is rows ms i d within)

pub halt_kept : (rows : List Row) (ms : List Moment) (i : ℕ) (d : Moment) (s : OpenSessions) → i < length ms → is_halt (get_or ms i d).what ≡ true
    → ((p : ℕ) → mark_in s p ≡ None) → ((t : List ℕ) → count_in s t ≡ 0) → IsKept rows ms (open_logins (take (i + 1) ms)) s
halt_kept rows ms i d s within e marks counts =
    subst (λ (l : List Moment). IsKept rows ms l s) (sym (next_taken ms i d within ∙ open_logins-halt (take i ms) (get_or ms i d) e)) (kept_none rows ms s marks counts)

-- ---- counts fit

pub count_small : (rows : List Row) (ms : List Moment) (i : ℕ) (s : OpenSessions) (text : List ℕ) → i < length ms → IsKept rows ms (open_logins (take i ms)) s → count_in s text ≤ i
count_small rows ms i s text within kept =
    omega (arith, kept.counts text, count_by-le-length (is_on rows text) (open_logins (take i ms)), length_open (take i ms), length-take-le i ms (omega (arith, within)))
