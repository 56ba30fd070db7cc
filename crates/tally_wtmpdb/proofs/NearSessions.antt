-- That the seconds of the sessions of rows are near to their microseconds.
use Rattle.std.proofs.Common.{◌≡◌, ℕ, ◌+◌, ℤ, pos, Bool, true, false, not, ◌&&◌, ◌||◌, cond, List, [], ◌∷◌, All, Option, Some, None, filter, length, refl, sym, subst, ap, ◌∙◌}
use Rattle.std.proofs.lemmas.Bool.{and_parts, both_ways, not-false, or_from, or_parts}
use Rattle.std.proofs.lemmas.List.Elements.{All-cons, All-nil}
use Rattle.std.proofs.lemmas.List.Folds.{list_any-append}
use Rattle.std.proofs.lemmas.List.Sorted.{list_any-IsPermutation}
use Rattle.std.proofs.lemmas.List.Sums.{sum_by-cons}
use Rattle.std.specs.Int.{int_max}
use Rattle.std.specs.List.{cons_option, list_any}
use Rattle.std.specs.Prelude.{filter_map, find, int_lt, is_some, option_map, slice_get, slice_index_or, sum_by, unwrap_or}
use Rattle.sqlite_value.specs.Order.{Row}
use Rattle.tally_clock.specs.Days.{seconds_between}
use Rattle.tally_sessions.specs.declared.entry.Stay.{Stay}
use Rattle.tally_wtmpdb.proofs.Near.{near}
use Rattle.tally_wtmpdb.specs.Laws.{AreNear, FitsRecord, SessionsAreNear, is_over, micros_between, spans_among}
use Rattle.tally_wtmpdb.specs.Lines.{ends, is_halt, is_login, is_logout, is_marked, is_of_row}
use Rattle.tally_wtmpdb.specs.Moments.{boot_end, moment, moments, moments_from, moments_of, session_end}
use Rattle.tally_wtmpdb.specs.Rows.{fault_in, fault_of, first_fault, has_second, has_seconds, has_short_user, id_of, int_at, is_boot, is_session, is_told, login_of, logout_of, second_of}
use Rattle.tally_wtmpdb.specs.Sessions.{end_among, end_by, end_how, end_second, ends_begun, last_second, second_at, stay_if, stays_among}
use Rattle.tally_wtmpdb.specs.declared.fault.RowFault.{RowFault}
use Rattle.tally_wtmpdb.specs.declared.fault.RowFault.TheVariants.{LongUser, Time}
use Rattle.tally_wtmpdb.specs.declared.moment.Moment.{Moment}
use Rattle.tally_wtmpdb.specs.declared.moment.What.{What}
use Rattle.tally_wtmpdb.specs.declared.moment.What.TheVariants.{Logout, Down, Boot, Login, LogoutAtOnce}

-- ---- the moments of rows without a fault fit

abbrev is_unfit : Moment → Bool
is_unfit m = not (is_some (second_of m.micros))

fits_if : (o : Option ℤ) → has_second o ≡ true → is_some (second_of (unwrap_or o (pos 0))) ≡ true
fits_if None h = refl
fits_if (Some t) h = h

later_fits : (a t : ℤ) → is_some (second_of a) ≡ true → is_some (second_of t) ≡ true → is_some (second_of (int_max a t)) ≡ true
later_fits a t ha ht = by (int_lt t a)
  where
    by : (b : Bool) → is_some (second_of (cond b a t)) ≡ true
    by true = ha
    by false = ht

end_fits : (n : ℕ) (row : Row) (o : Option ℤ) → is_some (second_of (login_of row)) ≡ true → has_second o ≡ true
    → list_any is_unfit (session_end n row (option_map (int_max (login_of row)) o)) ≡ false
end_fits n row None h g = refl
end_fits n row (Some t) h g = or_from (not (is_some (second_of (int_max (login_of row) t)))) false (ap not (later_fits (login_of row) t h g)) refl

down_fits : (n : ℕ) (row : Row) (o : Option ℤ) → is_some (second_of (login_of row)) ≡ true → has_second o ≡ true
    → list_any is_unfit (boot_end n (option_map (int_max (login_of row)) o)) ≡ false
down_fits n row None h g = refl
down_fits n row (Some t) h g = or_from (not (is_some (second_of (int_max (login_of row) t)))) false (ap not (later_fits (login_of row) t h g)) refl

row_fits : (n : ℕ) (row : Row) → fault_of row ≡ None → list_any is_unfit (moments_of n row) ≡ false
row_fits n row sound = by (is_session row) refl (is_boot row) refl
  where
    from : (a b : Bool) → cond a (cond b None (Some (Time (id_of row)))) (Some (LongUser (id_of row))) ≡ None → b ≡ true
    from true true e = refl
    from true false e = absurd cc
    from false b e = absurd cc

    seconds : is_told row ≡ true → has_seconds row ≡ true
    seconds told = from (has_short_user row) (has_seconds row) (sym (ap (λ (b : Bool). cond b (fault_in row) None) told) ∙ sound)

    parts : has_seconds row ≡ true → (has_second (int_at 4 row) ≡ true) × (has_second (int_at 5 row) ≡ true)
    parts h = and_parts (has_second (int_at 4 row)) (has_second (int_at 5 row)) h

    by : (s : Bool) → is_session row ≡ s → (b : Bool) → is_boot row ≡ b
        → list_any is_unfit (cond s (moment n Login (login_of row) ∷ session_end n row (logout_of row)) (cond b (moment n Boot (login_of row) ∷ boot_end n (logout_of row)) [])) ≡ false
    by true e b f =
        let two = parts (seconds (ap (λ (x : Bool). x || is_boot row) e)) in
        let login = fits_if (int_at 4 row) two.0 in
        or_from (not (is_some (second_of (login_of row)))) (list_any is_unfit (session_end n row (logout_of row))) (ap not login) (end_fits n row (int_at 5 row) login two.1)
    by false e true f =
        let two = parts (seconds (ap (λ (x : Bool). x || is_boot row) e ∙ f)) in
        let login = fits_if (int_at 4 row) two.0 in
        or_from (not (is_some (second_of (login_of row)))) (list_any is_unfit (boot_end n (logout_of row))) (ap not login) (down_fits n row (int_at 5 row) login two.1)
    by false e false f = refl

no_fault : (row : Row) (rows : List Row) → first_fault (row ∷ rows) ≡ None → (fault_of row ≡ None) × (first_fault rows ≡ None)
no_fault row rows e = by (fault_of row) refl e
  where
    by : (o : Option RowFault) → fault_of row ≡ o → slice_get (cons_option o (filter_map fault_of rows)) 0 ≡ None → (fault_of row ≡ None) × (first_fault rows ≡ None)
    by None h g = (h, g)
    by (Some f) h g = absurd cc

rows_fit : (n : ℕ) (rows : List Row) → first_fault rows ≡ None → list_any is_unfit (moments_from n rows) ≡ false
rows_fit n [] e = refl
rows_fit n (row ∷ rows) e =
    let two = no_fault row rows e in
    list_any-append is_unfit (moments_of n row) (moments_from (n + 1) rows)
    ∙ or_from (list_any is_unfit (moments_of n row)) (list_any is_unfit (moments_from (n + 1) rows)) (row_fits n row two.0) (rows_fit (n + 1) rows two.1)

-- ---- what is found

found_passes : (p : Moment → Bool) (l : List Moment) (x : Moment) → list_any is_unfit l ≡ false → find p l ≡ Some x → (p x ≡ true) × (is_unfit x ≡ false)
found_passes p [] x fit e = absurd cc
found_passes p (y ∷ l) x fit e = by (p y) refl e (λ g. found_passes p l x (or_parts (is_unfit y) (list_any is_unfit l) fit).1 g)
  where
    by : (b : Bool) → p y ≡ b → cond b (Some y) (find p l) ≡ Some x → (find p l ≡ Some x → (p x ≡ true) × (is_unfit x ≡ false)) → (p x ≡ true) × (is_unfit x ≡ false)
    by true h g rest =
        let same : y ≡ x = cc in
        (sym (ap p same) ∙ h, sym (ap is_unfit same) ∙ (or_parts (is_unfit y) (list_any is_unfit l) fit).0)
    by false h g rest = rest g

spans_fit : (l : List Moment) → list_any is_unfit l ≡ false → All (λ s. FitsRecord s.0 × FitsRecord s.1) (spans_among l)
spans_fit [] fit = All-nil (λ (s : Moment × Moment). FitsRecord s.0 × FitsRecord s.1)
spans_fit (m ∷ later) fit = by (is_login m.what) (end_among m later) refl (spans_fit later both.1)
  where
    both : (is_unfit m ≡ false) × (list_any is_unfit later ≡ false)
    both = or_parts (is_unfit m) (list_any is_unfit later) fit

    by : (b : Bool) (o : Option Moment) → end_among m later ≡ o → All (λ s. FitsRecord s.0 × FitsRecord s.1) (spans_among later)
        → All (λ s. FitsRecord s.0 × FitsRecord s.1) (cons_option (cond b (option_map (λ end. (m, end)) o) None) (spans_among later))
    by true (Some x) e rest =
        All-cons (λ (s : Moment × Moment). FitsRecord s.0 × FitsRecord s.1) (m, x) (spans_among later)
        (not-false (is_some (second_of m.micros)) both.0, not-false (is_some (second_of x.micros)) (found_passes (ends_begun m.what m.place) later x both.1 e).1) rest
    by true None e rest = rest
    by false o e rest = rest

-- ---- the seconds of sessions that have ended

no_end : (p : ℕ) (m : Moment) → m.what ≡ Login → ends p m ≡ false
no_end p m e = ap (λ w. is_halt w || (is_logout w && is_of_row p m)) e

over_by : (p : ℕ) (m : Moment) → ends p m ≡ true → is_over (end_by m.what) ≡ true
over_by p m h = by m.what refl
  where
    by : (w : What) → m.what ≡ w → is_over (end_by w) ≡ true
    by Login e = absurd (both_ways (ends p m) (no_end p m e) h)
    by Logout e = refl
    by LogoutAtOnce e = refl
    by Down e = refl
    by Boot e = refl

abbrev seconds_over : List Stay → ℕ
seconds_over stays = sum_by (λ (s : Stay). s.length) (filter (λ (s : Stay). is_over s.end) (filter (λ (s : Stay). not s.is_boot) stays))

sums : (host : ℕ) (rows : List Row) (ms : List Moment) (until : Option ℤ) (l : List Moment) → list_any is_unfit l ≡ false
    → seconds_over (stays_among host rows ms until l) ≡ sum_by (λ s. seconds_between (second_at s.0) (second_at s.1)) (spans_among l)
sums host rows ms until [] fit = refl
sums host rows ms until (m ∷ later) fit = by m.what refl (end_among m later) refl (sums host rows ms until later fits)
  where
    fits : list_any is_unfit later ≡ false
    fits = (or_parts (is_unfit m) (list_any is_unfit later) fit).1

    rest : List Stay
    rest = stays_among host rows ms until later

    kept : List Stay
    kept = filter (λ (s : Stay). is_over s.end) (filter (λ (s : Stay). not s.is_boot) (stays_among host rows ms until later))

    of : What → Option Moment → Option Stay
    of w o = stay_if host (is_marked rows ms m.place) (slice_index_or rows m.place []) w (second_at m) (end_how o) (end_second o (last_second rows ms) until)

    by : (w : What) → m.what ≡ w → (o : Option Moment) → end_among m later ≡ o
        → seconds_over rest ≡ sum_by (λ s. seconds_between (second_at s.0) (second_at s.1)) (spans_among later)
        → seconds_over (cons_option (of w o) rest)
        ≡ sum_by (λ s. seconds_between (second_at s.0) (second_at s.1)) (cons_option (cond (is_login w) (option_map (λ end. (m, end)) o) None) (spans_among later))
    by Login e (Some x) f before =
        let over : is_over (end_by x.what) ≡ true =
        over_by m.place x (sym (ap (λ (w : What). ends_begun w m.place x) e) ∙ (found_passes (ends_begun m.what m.place) later x fits f).0) in
        let stay : Stay = unwrap_or_stay (of Login (Some x)) in
        ap (λ (b : Bool). sum_by (λ (s : Stay). s.length) (cond b (stay ∷ kept) kept)) over
        ∙ sum_by-cons (λ (s : Stay). s.length) stay kept
        ∙ ap (λ (n : ℕ). seconds_between (second_at m) (second_at x) + n) before
        ∙ sym (sum_by-cons (λ (s : Moment × Moment). seconds_between (second_at s.0) (second_at s.1)) (m, x) (spans_among later))
      where
        unwrap_or_stay : Option Stay → Stay
        unwrap_or_stay (Some s) = s
        unwrap_or_stay None = record { host = 0; is_boot = false; user = []; line = []; remote = []; start = pos 0; begin = pos 0; end = end_how None; end_time = pos 0; length = 0 }
    by Login e None f before = before
    by Boot e o f before = before
    by Logout e o f before = before
    by LogoutAtOnce e o f before = before
    by Down e o f before = before

pub sessions_near : SessionsAreNear
sessions_near host rows ms until sound order =
    let fit : list_any is_unfit ms ≡ false = sym (list_any-IsPermutation is_unfit (moments rows) ms order.same) ∙ rows_fit 0 rows sound in
    subst (λ (n : ℕ). AreNear (length (spans_among ms)) (sum_by (λ s. micros_between s.0 s.1) (spans_among ms)) n) (sym (sums host rows ms until ms fit)) (near (spans_among ms) (spans_fit ms fit))
