-- The cells of a table, while the sessions ahead are taken into it.
use Rattle.std.proofs.Common.{◌≡◌, ◌≢◌, ◌⊎◌, inl, inr, ℕ, ◌+◌, ◌*◌, ◌<◌, ◌≤◌, ◌^◌, Bool, true, false, cond, eqb, List, [], ◌∷◌, length, get_or, filter, ℤ, pos, ◌+ℤ◌, ◌-ℤ◌, ◌≤ℤ◌, refl, sym, ap, ◌∙◌, arith}
use Rattle.std.proofs.lemmas.Bool.{cases_eq, cases_lt}
use Rattle.std.proofs.lemmas.Bool.Decides.{nat_tests}
use Rattle.std.proofs.lemmas.Cmp.{nat_list_cmp_total}
use Rattle.std.proofs.lemmas.Int.{ints}
use Rattle.std.proofs.lemmas.List.Sums.{sum_by-cons}
use Rattle.std.proofs.lemmas.Map.Text.{is_eq-slice_cmp}
use Rattle.std.proofs.lemmas.Slice.Eq.{bytes_eq-Decides}
use Rattle.std.specs.Cmp.Lexicographic.{slice_cmp}
use Rattle.std.specs.List.Sorted.{IsStrictlySortedBy}
use Rattle.std.specs.Ordering.{is_eq, nat_cmp, ordering_reverse}
use Rattle.std.specs.Prelude.{bytes_eq, int_lt, unsigned_abs}
use Rattle.tally_clock.specs.Days.{seconds_on}
use Rattle.tally_sessions.specs.declared.connect.keys.DayUser.{DayUser}
use Rattle.tally_sessions.specs.declared.sums.Session.{Session}
use Rattle.tally_sessions.specs.inside.Tables.{cell_at, key_at, HasSeconds, IsCovered}
use Rattle.tally_sessions.specs.Days.{IsDay}
use Rattle.tally_sessions.specs.Sums.{seconds_of_day, seconds_of_day_user}
use Rattle.tally_sessions.proofs.connect.CellRows.{sorted_at}
use Rattle.tally_sessions.proofs.days.SpanLemmas.{above, strictly}

-- a user's seconds on a day, by whether a session is the user's
pub user_seconds_cons : (clock : ℤ → ℤ) (day : ℤ) (user : List ℕ) (s : Session) (ss : List Session)
    → seconds_of_day_user clock day user (s ∷ ss) ≡ cond (bytes_eq s.user user) (seconds_on clock day s.begin s.end_time) 0 + seconds_of_day_user clock day user ss
user_seconds_cons clock day user s ss = by (bytes_eq s.user user)
  where
    own : List Session
    own = filter (λ x. bytes_eq x.user user) ss

    nothing : (n : ℕ) → n ≡ 0 + n
    nothing n = omega arith

    by : (b : Bool) → seconds_of_day clock day (cond b (s ∷ own) own) ≡ cond b (seconds_on clock day s.begin s.end_time) 0 + seconds_of_day clock day own
    by true = sum_by-cons (λ (x : Session). seconds_on clock day x.begin x.end_time) s own
    by false = nothing (seconds_of_day clock day own)

-- the cells have what all sessions give but those ahead
pub record HasSecondsBut (clock : ℤ → ℤ) (first : ℤ) (users : List (List ℕ)) (cells : List ℕ) (all ahead : List Session) : Type 0 where
  pub value : (place rank : ℕ) → rank < length users
      → cell_at cells (length users) place rank + seconds_of_day_user clock (key_at first users place rank).day (key_at first users place rank).user ahead
      ≡ seconds_of_day_user clock (key_at first users place rank).day (key_at first users place rank).user all
  pub covered : (k : DayUser) → seconds_of_day_user clock k.day k.user ahead < seconds_of_day_user clock k.day k.user all → IsCovered first users k
  pub days : (k : DayUser) → seconds_of_day_user clock k.day k.user ahead < seconds_of_day_user clock k.day k.user all → IsDay k.day

pub seconds_start : (clock : ℤ → ℤ) (first : ℤ) (users : List (List ℕ)) (cells : List ℕ) (all : List Session) → ((i : ℕ) → get_or cells i 0 ≡ 0) → HasSecondsBut clock first users cells all all
seconds_start clock first users cells all none = record {
  value = λ place rank known. start (cell_at cells (length users) place rank) _ (none (place * length users + rank));
  covered = λ k lt. absurd (omega (arith, lt));
  days = λ k lt. absurd (omega (arith, lt));
}
  where
    start : (m n : ℕ) → m ≡ 0 → m + n ≡ n
    start m n e = omega (arith, e)

pub seconds_end : (clock : ℤ → ℤ) (first : ℤ) (users : List (List ℕ)) (cells : List ℕ) (all : List Session) → HasSecondsBut clock first users cells all [] → HasSeconds clock first users cells all
seconds_end clock first users cells all h = record {
  value = λ place rank known. end (cell_at cells (length users) place rank) _ (h.value place rank known);
  covered = h.covered;
  days = h.days;
}
  where
    end : (m n : ℕ) → m + 0 ≡ n → m ≡ n
    end m n e = omega (arith, e)

-- the table has no more than all
pub cell-le : (clock : ℤ → ℤ) (first : ℤ) (users : List (List ℕ)) (cells : List ℕ) (all ahead : List Session) (place rank : ℕ) → HasSecondsBut clock first users cells all ahead → rank < length users
    → seconds_of_day_user clock (key_at first users place rank).day (key_at first users place rank).user all ≤ 2 ^ 44 → cell_at cells (length users) place rank ≤ 2 ^ 50
cell-le clock first users cells all ahead place rank h known few = at_most _ _ _ (h.value place rank known) few
  where
    at_most : (m n l : ℕ) → m + n ≡ l → l ≤ 2 ^ 44 → m ≤ 2 ^ 50
    at_most m n l e few = omega (arith, e, few)

more : (b b' : Bool) (now new n ahead all : ℕ) → b ≡ b' → new ≡ now + cond b n 0 → now + (cond b' n 0 + ahead) ≡ all → new + ahead ≡ all
more true true now new n ahead all e is had = omega (arith, is, had)
more false false now new n ahead all e is had = omega (arith, is, had)
more true false now new n ahead all e is had = absurd (cc)
more false true now new n ahead all e is had = absurd (cc)

not_negative : (z : ℤ) → pos 0 ≤ℤ z → pos (unsigned_abs z) ≡ z
not_negative z le = grind (arith, ints)

day_of_place : (first day : ℤ) → first ≤ℤ day → first +ℤ pos (unsigned_abs (day -ℤ first)) ≡ day
day_of_place first day le = let is = not_negative (day -ℤ first) (omega (arith, ints, le)) in omega (arith, ints, is)

-- among users in order, only one is this
pub one_rank : (users : List (List ℕ)) (rank q : ℕ) → IsStrictlySortedBy (slice_cmp nat_cmp) users → rank < length users → q < length users → eqb q rank ≡ bytes_eq (get_or users rank []) (get_or users q [])
one_rank users rank q up known lt = by (cases_lt q rank) (cases_lt rank q)
  where
    x : List ℕ
    x = get_or users rank []

    y : List ℕ
    y = get_or users q []

    by : (q < rank) ⊎ (rank ≤ q) → (rank < q) ⊎ (q ≤ rank) → eqb q rank ≡ bytes_eq x y
    by (inl early) h =
        let no : eqb q rank ≡ false = grind (arith, nat_tests) in
        no ∙ sym (sym (is_eq-slice_cmp x y) ∙ ap is_eq (nat_list_cmp_total.antisymm x y ∙ ap ordering_reverse (sorted_at (slice_cmp nat_cmp) users q rank [] up early known)))
    by (inr le) (inl late) =
        let no : eqb q rank ≡ false = grind (arith, nat_tests) in
        no ∙ sym (sym (is_eq-slice_cmp x y) ∙ ap is_eq (sorted_at (slice_cmp nat_cmp) users rank q [] up late lt))
    by (inr le) (inr le') =
        let same : q ≡ rank = omega arith in
        let yes : eqb q rank ≡ true = grind (arith, nat_tests) in
        yes ∙ sym ((bytes_eq-Decides x y).1 (λ i. get_or users (sym same i) []))

-- one session is taken
module _ (clock : ℤ → ℤ) (first : ℤ) (users : List (List ℕ)) (cells new : List ℕ) (all ss : List Session) (s : Session) (rank : ℕ) (known : rank < length users) (user : get_or users rank [] ≡ s.user) where
  pub seconds_more : ((q : ℕ) → q < length users → eqb q rank ≡ bytes_eq s.user (get_or users q [])) → HasSecondsBut clock first users cells all (s ∷ ss)
      → ((p q : ℕ) → q < length users → cell_at new (length users) p q ≡ cell_at cells (length users) p q + cond (eqb q rank) (seconds_on clock (first +ℤ pos p) s.begin s.end_time) 0)
      → ((day : ℤ) → (day +ℤ pos 1) ≤ℤ first → seconds_on clock day s.begin s.end_time ≡ 0) → ((day : ℤ) → 0 < seconds_on clock day s.begin s.end_time → IsDay day)
      → HasSecondsBut clock first users new all ss
  seconds_more only h added early days = record {
    value = λ p q lt. more (eqb q rank) (bytes_eq s.user (get_or users q [])) _ _ _ _ _ (only q lt) (added p q lt)
        (ap (λ n. cell_at cells (length users) p q + n) (sym (user_seconds_cons clock (first +ℤ pos p) (get_or users q []) s ss)) ∙ h.value p q lt);
    covered = λ k lt. by_covered k (bytes_eq s.user k.user) refl (user_seconds_cons clock k.day k.user s ss) lt;
    days = λ k lt. by_days k (bytes_eq s.user k.user) (user_seconds_cons clock k.day k.user s ss) lt;
  }
    where
      at_first : (k : DayUser) → s.user ≡ k.user → first ≤ℤ k.day → IsCovered first users k
      at_first k same le = record {
        place = unsigned_abs (k.day -ℤ first);
        rank = rank;
        known = known;
        is = λ i. record { day = day_of_place first k.day le i; user = (user ∙ same) i };
      }

      covered_day : (k : DayUser) → s.user ≡ k.user → (b : Bool) → int_lt k.day first ≡ b → 0 < seconds_on clock k.day s.begin s.end_time → IsCovered first users k
      covered_day k same true e some = absurd (let none = early k.day (strictly k.day first e) in omega (arith, some, none))
      covered_day k same false e some = at_first k same (above k.day first e)

      by_some : (k : DayUser) → s.user ≡ k.user → (n : ℕ) → seconds_on clock k.day s.begin s.end_time ≡ n → seconds_of_day_user clock k.day k.user (s ∷ ss) ≡ n + seconds_of_day_user clock k.day k.user ss
          → seconds_of_day_user clock k.day k.user ss < seconds_of_day_user clock k.day k.user all → (n ≡ 0) ⊎ (n ≢ 0) → IsCovered first users k
      by_some k same n e is lt (inl none) = h.covered k (omega (arith, is, lt, none))
      by_some k same n e is lt (inr some) = covered_day k same (int_lt k.day first) refl (omega (arith, e, some))

      by_covered : (k : DayUser) (b : Bool) → bytes_eq s.user k.user ≡ b → seconds_of_day_user clock k.day k.user (s ∷ ss) ≡ cond b (seconds_on clock k.day s.begin s.end_time) 0 + seconds_of_day_user clock k.day k.user ss
          → seconds_of_day_user clock k.day k.user ss < seconds_of_day_user clock k.day k.user all → IsCovered first users k
      by_covered k true e is lt = by_some k ((bytes_eq-Decides s.user k.user).0 e) (seconds_on clock k.day s.begin s.end_time) refl is lt (cases_eq (seconds_on clock k.day s.begin s.end_time) 0)
      by_covered k false e is lt = h.covered k (omega (arith, is, lt))

      by_some_days : (k : DayUser) (n : ℕ) → seconds_on clock k.day s.begin s.end_time ≡ n → seconds_of_day_user clock k.day k.user (s ∷ ss) ≡ n + seconds_of_day_user clock k.day k.user ss
          → seconds_of_day_user clock k.day k.user ss < seconds_of_day_user clock k.day k.user all → (n ≡ 0) ⊎ (n ≢ 0) → IsDay k.day
      by_some_days k n e is lt (inl none) = h.days k (omega (arith, is, lt, none))
      by_some_days k n e is lt (inr some) = days k.day (omega (arith, e, some))

      by_days : (k : DayUser) (b : Bool) → seconds_of_day_user clock k.day k.user (s ∷ ss) ≡ cond b (seconds_on clock k.day s.begin s.end_time) 0 + seconds_of_day_user clock k.day k.user ss
          → seconds_of_day_user clock k.day k.user ss < seconds_of_day_user clock k.day k.user all → IsDay k.day
      by_days k true is lt = by_some_days k (seconds_on clock k.day s.begin s.end_time) refl is lt (cases_eq (seconds_on clock k.day s.begin s.end_time) 0)
      by_days k false is lt = h.days k (omega (arith, is, lt))
