-- Changes of users from day to day and counts by row, while the sessions ahead are taken into them.
use Rattle.std.proofs.Common.{◌≡◌, ◌+◌, ◌*◌, ◌<◌, ◌≤◌, ◌^◌, ℕ, Bool, true, false, cond, List, ◌∷◌, length, filter, ℤ, pos, neg_ℤ, ◌+ℤ◌, ◌≤ℤ◌, arith}
use Rattle.std.proofs.lemmas.Int.{ints}
use Rattle.std.specs.Prelude.{bytes_eq, unsigned_abs}
use Rattle.tally_clock.specs.Days.{seconds_on}
use Rattle.tally_clock.specs.declared.row.Row.{Row}
use Rattle.tally_sessions.specs.declared.connect.keys.DayUser.{DayUser}
use Rattle.tally_sessions.specs.declared.connect.keys.RowUser.{RowUser}
use Rattle.tally_sessions.specs.declared.sums.Session.{Session}
use Rattle.tally_sessions.specs.inside.Changes.{AreWithin, change_of_day, change_of_day_user, change_on, count_of, day_change, told_of}
use Rattle.tally_sessions.specs.inside.Counts.{change_since, size_of, stand_for}
use Rattle.tally_sessions.specs.Days.{IsDay}
use Rattle.tally_sessions.specs.Sums.{seconds_of_day, seconds_of_day_user}
use Rattle.tally_sessions.proofs.connect.CountLemmas.{change_since-few, size_none, stand_none, stand_small}
use Rattle.tally_sessions.proofs.connect.DayTable.{change_cons, day_taken}
use Rattle.tally_sessions.proofs.connect.UserChanges.{changes_high, changes_low}
use Rattle.tally_sessions.proofs.days.ClockDays.{IsNear}

-- a user's changes, by whether a session is the user's
pub user_change_cons : (clock : ℤ → ℤ) (k : DayUser) (s : Session) (ss : List Session)
    → change_of_day_user clock k (s ∷ ss) ≡ cond (bytes_eq s.user k.user) (change_on clock k.day s.begin s.end_time) (pos 0) +ℤ change_of_day_user clock k ss
user_change_cons clock k s ss = by (bytes_eq s.user k.user)
  where
    own : List Session
    own = filter (λ x. bytes_eq x.user k.user) ss

    by : (b : Bool) → change_of_day clock k.day (cond b (s ∷ own) own) ≡ cond b (change_on clock k.day s.begin s.end_time) (pos 0) +ℤ change_of_day clock k.day own
    by true = change_cons clock k.day s own
    by false = omega (arith, ints)

-- changes and counts have what all sessions give but those ahead
pub record HasUsersBut (clock : ℤ → ℤ) (rows : List Row) (all ahead : List Session) (changes : List (DayUser × ℤ)) (counts : List (RowUser × ℤ)) : Type 0 where
  pub few : length ahead ≤ 16777216
  pub within : AreWithin counts (length rows)
  pub small : (name : List ℕ) → size_of (count_of counts name) (length rows) + 2 * length ahead ≤ 33554432
  pub value : (k : DayUser) → told_of clock rows changes counts k +ℤ change_of_day_user clock k ahead ≡ change_of_day_user clock k all
  pub days : (k : DayUser) → seconds_of_day_user clock k.day k.user ahead < seconds_of_day_user clock k.day k.user all → IsDay k.day

start_value : (t s c : ℤ) → t ≡ pos 0 → s ≡ pos 0 → (t +ℤ s) +ℤ c ≡ c
start_value t s c e f = omega (arith, ints)

-- none is taken yet
pub user_table-start : (clock : ℤ → ℤ) (rows : List Row) (all : List Session) (changes : List (DayUser × ℤ)) (counts : List (RowUser × ℤ)) → length all ≤ 16777216 → AreWithin counts (length rows)
    → ((k : DayUser) → day_change changes k ≡ pos 0) → ((name : List ℕ) (row : ℕ) → count_of counts name row ≡ pos 0) → HasUsersBut clock rows all all changes counts
user_table-start clock rows all changes counts few within none none' = record {
  few = few;
  within = within;
  small = λ name. let size = size_none (count_of counts name) (length rows) (none' name) in omega arith;
  value = λ k. start_value (day_change changes k) _ (change_of_day_user clock k all) (none k) (stand_none (count_of counts k.user) (change_since clock rows k.day) (length rows) (none' k.user));
  days = λ k lt. absurd (omega (arith, lt));
}

more_value : (now new d a b all : ℤ) → new ≡ now +ℤ d → now +ℤ b ≡ all → b ≡ d +ℤ a → new +ℤ a ≡ all
more_value now new d a b all is had parts = omega (arith, ints)

-- one session is taken
pub user_table-more : (clock : ℤ → ℤ) (rows : List Row) (all ss : List Session) (s : Session) (changes new : List (DayUser × ℤ)) (counts new_counts : List (RowUser × ℤ)) → HasUsersBut clock rows all (s ∷ ss) changes counts
    → ((k : DayUser) → told_of clock rows new new_counts k ≡ told_of clock rows changes counts k +ℤ cond (bytes_eq s.user k.user) (change_on clock k.day s.begin s.end_time) (pos 0))
    → ((name : List ℕ) → size_of (count_of new_counts name) (length rows) ≤ size_of (count_of counts name) (length rows) + 2) → AreWithin new_counts (length rows)
    → ((day : ℤ) → 0 < seconds_on clock day s.begin s.end_time → IsDay day) → HasUsersBut clock rows all ss new new_counts
user_table-more clock rows all ss s changes new counts new_counts h added two within days = record {
  few = omega (arith, h.few);
  within = within;
  small = λ name. let was = h.small name in let more = two name in omega (arith, was, more);
  value = λ k. more_value (told_of clock rows changes counts k) (told_of clock rows new new_counts k) (cond (bytes_eq s.user k.user) (change_on clock k.day s.begin s.end_time) (pos 0)) (change_of_day_user clock k ss)
      (change_of_day_user clock k (s ∷ ss)) (change_of_day_user clock k all) (added k) (h.value k) (user_change_cons clock k s ss);
  days = λ k. by k (bytes_eq s.user k.user) (h.days k);
}
  where
    own : DayUser → List Session → List Session
    own k xs = filter (λ x. bytes_eq x.user k.user) xs

    by : (k : DayUser) (b : Bool) → (seconds_of_day clock k.day (cond b (s ∷ own k ss) (own k ss)) < seconds_of_day clock k.day (own k all) → IsDay k.day)
        → seconds_of_day clock k.day (own k ss) < seconds_of_day clock k.day (own k all) → IsDay k.day
    by k true before = day_taken clock k.day s (own k ss) (own k all) (days k.day) before
    by k false before = before

pub user_table-small : (clock : ℤ → ℤ) (rows : List Row) (all ahead : List Session) (changes : List (DayUser × ℤ)) (counts : List (RowUser × ℤ)) → HasUsersBut clock rows all ahead changes counts
    → (name : List ℕ) → size_of (count_of counts name) (length rows) ≤ 33554432
user_table-small clock rows all ahead changes counts h name = let was = h.small name in omega (arith, was)

bounds : (t s a b : ℤ) → (t +ℤ s) +ℤ a ≡ b → unsigned_abs s ≤ 33554432 * 446278 → neg_ℤ (pos (2 ^ 50)) ≤ℤ a → a ≤ℤ pos (2 ^ 50) → neg_ℤ (pos (2 ^ 50)) ≤ℤ b → b ≤ℤ pos (2 ^ 50)
    → (neg_ℤ (pos (2 ^ 60)) ≤ℤ t) × (t ≤ℤ pos (2 ^ 60))
bounds t s a b is few low high low' high' = (omega (arith, ints, abs_low s few), omega (arith, ints, abs_high s few))
  where
    abs_low : (s : ℤ) → unsigned_abs s ≤ 33554432 * 446278 → neg_ℤ (pos (33554432 * 446278)) ≤ℤ s
    abs_low s few = grind (arith, ints)

    abs_high : (s : ℤ) → unsigned_abs s ≤ 33554432 * 446278 → s ≤ℤ pos (33554432 * 446278)
    abs_high s few = grind (arith, ints)

-- the changes of few sessions are small enough for one more
pub user_table-within : (clock : ℤ → ℤ) (rows : List Row) (all ahead : List Session) (changes : List (DayUser × ℤ)) (counts : List (RowUser × ℤ)) → IsNear clock → length all ≤ 16777216
    → HasUsersBut clock rows all ahead changes counts → (k : DayUser) → (neg_ℤ (pos (2 ^ 60)) ≤ℤ day_change changes k) × (day_change changes k ≤ℤ pos (2 ^ 60))
user_table-within clock rows all ahead changes counts near few h k =
    let x = change_since clock rows k.day in
    let size = user_table-small clock rows all ahead changes counts h k.user in
    let stand = stand_small (count_of counts k.user) x 446278 (length rows) (λ row. change_since-few clock rows k.day row near) in
    bounds (day_change changes k) (stand_for (count_of counts k.user) x (length rows)) (change_of_day_user clock k ahead) (change_of_day_user clock k all) (h.value k) (omega (arith, stand, size))
    (changes_low clock k ahead near h.few) (changes_high clock k ahead near h.few) (changes_low clock k all near few) (changes_high clock k all near few)

told_value : (t a b : ℤ) → t +ℤ a ≡ b → neg_ℤ (pos (2 ^ 50)) ≤ℤ a → a ≤ℤ pos (2 ^ 50) → neg_ℤ (pos (2 ^ 50)) ≤ℤ b → b ≤ℤ pos (2 ^ 50) → (neg_ℤ (pos (2 ^ 60)) ≤ℤ t) × (t ≤ℤ pos (2 ^ 60))
told_value t a b is low high low' high' = (omega (arith, ints), omega (arith, ints))

-- and so is what they say together
pub user_table-told : (clock : ℤ → ℤ) (rows : List Row) (all ahead : List Session) (changes : List (DayUser × ℤ)) (counts : List (RowUser × ℤ)) → IsNear clock → length all ≤ 16777216
    → HasUsersBut clock rows all ahead changes counts → (k : DayUser) → (neg_ℤ (pos (2 ^ 60)) ≤ℤ told_of clock rows changes counts k) × (told_of clock rows changes counts k ≤ℤ pos (2 ^ 60))
user_table-told clock rows all ahead changes counts near few h k =
    told_value (told_of clock rows changes counts k) (change_of_day_user clock k ahead) (change_of_day_user clock k all) (h.value k)
    (changes_low clock k ahead near h.few) (changes_high clock k ahead near h.few) (changes_low clock k all near few) (changes_high clock k all near few)
