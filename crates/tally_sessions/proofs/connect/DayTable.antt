-- A table of the changes from day to day and counts by row, while the sessions ahead are taken into them.
use Rattle.std.proofs.Common.{◌≡◌, ◌≢◌, ◌⊎◌, inl, inr, ℕ, ◌+◌, ◌*◌, ◌<◌, ◌≤◌, ◌^◌, List, ◌∷◌, length, ℤ, pos, neg_ℤ, ◌+ℤ◌, ◌-ℤ◌, ◌≤ℤ◌, ◌∙◌, arith}
use Rattle.std.proofs.lemmas.Bool.{cases_eq, cases_lt}
use Rattle.std.proofs.lemmas.Int.{ints}
use Rattle.std.proofs.lemmas.List.Sums.{sum_by-cons}
use Rattle.std.specs.Prelude.{unsigned_abs}
use Rattle.tally_clock.specs.Days.{seconds_on}
use Rattle.tally_clock.specs.declared.row.Row.{Row}
use Rattle.tally_sessions.specs.declared.sums.Session.{Session}
use Rattle.tally_sessions.specs.inside.Changes.{change_at, change_of_day, change_on, day_at, told_at}
use Rattle.tally_sessions.specs.inside.Counts.{change_since, size_of, stand_for}
use Rattle.tally_sessions.specs.Days.{IsDay}
use Rattle.tally_sessions.specs.Sums.{seconds_of_day}
use Rattle.tally_sessions.proofs.connect.CountLemmas.{change_since-few, size_none, stand_none, stand_small}
use Rattle.tally_sessions.proofs.connect.DayChanges.{changes_high, changes_low, past_end}
use Rattle.tally_sessions.proofs.days.ClockDays.{IsNear}

seconds_cons : (clock : ℤ → ℤ) (day : ℤ) (s : Session) (ss : List Session) → seconds_of_day clock day (s ∷ ss) ≡ seconds_on clock day s.begin s.end_time + seconds_of_day clock day ss
seconds_cons clock day s ss = sum_by-cons (λ (x : Session). seconds_on clock day x.begin x.end_time) s ss

pub change_cons : (clock : ℤ → ℤ) (day : ℤ) (s : Session) (ss : List Session) → change_of_day clock day (s ∷ ss) ≡ change_on clock day s.begin s.end_time +ℤ change_of_day clock day ss
change_cons clock day s ss = omega (arith, ints, seconds_cons clock day s ss, seconds_cons clock (day -ℤ pos 1) s ss)

-- a day with seconds of the session, or of those that were taken before
pub day_taken : (clock : ℤ → ℤ) (day : ℤ) (s : Session) (ss all : List Session) → (0 < seconds_on clock day s.begin s.end_time → IsDay day) → (seconds_of_day clock day (s ∷ ss) < seconds_of_day clock day all → IsDay day)
    → seconds_of_day clock day ss < seconds_of_day clock day all → IsDay day
day_taken clock day s ss all own before lt = by (cases_eq (seconds_on clock day s.begin s.end_time) 0)
  where
    by : (seconds_on clock day s.begin s.end_time ≡ 0) ⊎ (seconds_on clock day s.begin s.end_time ≢ 0) → IsDay day
    by (inl none) = before (omega (arith, seconds_cons clock day s ss, none))
    by (inr some) = own (omega (arith, some))

-- a table and counts have the changes of all sessions but those ahead
pub record HasAllBut (clock : ℤ → ℤ) (rows : List Row) (all ahead : List Session) (table counts : List ℤ) : Type 0 where
  pub all_days : length table ≡ 49717
  pub all_rows : length counts ≡ length rows
  pub few : length ahead ≤ 16777216
  pub small : size_of (change_at counts) (length rows) + 2 * length ahead ≤ 33554432
  pub value : (place : ℕ) → place < 49717 → told_at clock rows table counts place +ℤ change_of_day clock (day_at place) ahead ≡ change_of_day clock (day_at place) all
  pub days : (day : ℤ) → seconds_of_day clock day ahead < seconds_of_day clock day all → IsDay day

start_value : (t s c : ℤ) → t ≡ pos 0 → s ≡ pos 0 → (t +ℤ s) +ℤ c ≡ c
start_value t s c e f = omega (arith, ints)

-- none is taken yet
pub day_table-start : (clock : ℤ → ℤ) (rows : List Row) (all : List Session) (table counts : List ℤ) → length table ≡ 49717 → length counts ≡ length rows → length all ≤ 16777216
    → ((place : ℕ) → place < 49717 → change_at table place ≡ pos 0) → ((row : ℕ) → change_at counts row ≡ pos 0) → HasAllBut clock rows all all table counts
day_table-start clock rows all table counts long long' few zeros none = record {
  all_days = long;
  all_rows = long';
  few = few;
  small = let size = size_none (change_at counts) (length rows) none in omega arith;
  value = λ place lt. start_value (change_at table place) _ (change_of_day clock (day_at place) all) (zeros place lt) (stand_none (change_at counts) (change_since clock rows (day_at place)) (length rows) none);
  days = λ day lt. absurd (omega (arith, lt));
}

more_value : (now new d a b all : ℤ) → new ≡ now +ℤ d → now +ℤ b ≡ all → b ≡ d +ℤ a → new +ℤ a ≡ all
more_value now new d a b all is had parts = omega (arith, ints)

-- one session is taken
pub day_table-more : (clock : ℤ → ℤ) (rows : List Row) (all ss : List Session) (s : Session) (table counts new new_counts : List ℤ) → HasAllBut clock rows all (s ∷ ss) table counts
    → length new ≡ length table → length new_counts ≡ length counts
    → ((place : ℕ) → place < 49717 → told_at clock rows new new_counts place ≡ told_at clock rows table counts place +ℤ change_on clock (day_at place) s.begin s.end_time)
    → size_of (change_at new_counts) (length rows) ≤ size_of (change_at counts) (length rows) + 2
    → ((day : ℤ) → 0 < seconds_on clock day s.begin s.end_time → IsDay day) → HasAllBut clock rows all ss new new_counts
day_table-more clock rows all ss s table counts new new_counts h long long' added two days = record {
  all_days = long ∙ h.all_days;
  all_rows = long' ∙ h.all_rows;
  few = omega (arith, h.few);
  small = omega (arith, h.small, two);
  value = λ place lt. more_value (told_at clock rows table counts place) (told_at clock rows new new_counts place) (change_on clock (day_at place) s.begin s.end_time) (change_of_day clock (day_at place) ss)
      (change_of_day clock (day_at place) (s ∷ ss)) (change_of_day clock (day_at place) all) (added place lt) (h.value place lt) (change_cons clock (day_at place) s ss);
  days = λ day. day_taken clock day s ss all (days day) (h.days day);
}

pub day_table-small : (clock : ℤ → ℤ) (rows : List Row) (all ahead : List Session) (table counts : List ℤ) → HasAllBut clock rows all ahead table counts → size_of (change_at counts) (length rows) ≤ 33554432
day_table-small clock rows all ahead table counts h = omega (arith, h.small)

bounds : (t s a b : ℤ) → (t +ℤ s) +ℤ a ≡ b → unsigned_abs s ≤ 33554432 * 446278 → neg_ℤ (pos (2 ^ 50)) ≤ℤ a → a ≤ℤ pos (2 ^ 50) → neg_ℤ (pos (2 ^ 50)) ≤ℤ b → b ≤ℤ pos (2 ^ 50)
    → (neg_ℤ (pos (2 ^ 61)) ≤ℤ t) × (t ≤ℤ pos (2 ^ 61))
bounds t s a b is few low high low' high' = (omega (arith, ints, abs_low s few), omega (arith, ints, abs_high s few))
  where
    abs_low : (s : ℤ) → unsigned_abs s ≤ 33554432 * 446278 → neg_ℤ (pos (33554432 * 446278)) ≤ℤ s
    abs_low s few = grind (arith, ints)

    abs_high : (s : ℤ) → unsigned_abs s ≤ 33554432 * 446278 → s ≤ℤ pos (33554432 * 446278)
    abs_high s few = grind (arith, ints)

-- the changes of few sessions are small enough for one more
pub day_table-within : (clock : ℤ → ℤ) (rows : List Row) (all ahead : List Session) (table counts : List ℤ) → IsNear clock → length all ≤ 16777216 → HasAllBut clock rows all ahead table counts
    → (place : ℕ) → (neg_ℤ (pos (2 ^ 61)) ≤ℤ change_at table place) × (change_at table place ≤ℤ pos (2 ^ 61))
day_table-within clock rows all ahead table counts near few h place = by (cases_lt place 49717)
  where
    by : (place < 49717) ⊎ (49717 ≤ place) → (neg_ℤ (pos (2 ^ 61)) ≤ℤ change_at table place) × (change_at table place ≤ℤ pos (2 ^ 61))
    by (inl lt) =
        let day = day_at place in
        let x = change_since clock rows day in
        let size = day_table-small clock rows all ahead table counts h in
        let stand = stand_small (change_at counts) x 446278 (length rows) (λ k. change_since-few clock rows day k near) in
        bounds (change_at table place) (stand_for (change_at counts) x (length rows)) (change_of_day clock day ahead) (change_of_day clock day all) (h.value place lt) (omega (arith, stand, size))
        (changes_low clock day ahead near h.few) (changes_high clock day ahead near h.few) (changes_low clock day all near few) (changes_high clock day all near few)
    by (inr le) = let none = past_end table place h.all_days le in (omega (arith, ints, none), omega (arith, ints, none))
