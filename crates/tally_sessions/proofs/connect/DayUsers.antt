-- Users on days: their order, their sums and their rows.
use Rattle.std.proofs.Common.{◌≡◌, ℕ, ◌+◌, ◌<◌, ◌≢◌, ◌⊎◌, inl, inr, Bool, true, false, cond, List, [], ◌∷◌, ℤ, pos, map, filter, All, refl, sym, ap, subst, ◌∙◌, arith}
use Rattle.std.proofs.lemmas.Bool.{cases_eq}
use Rattle.std.proofs.lemmas.Bool.Decides.{Decides-int_eq}
use Rattle.std.proofs.lemmas.Cmp.{int_cmp_total, nat_list_cmp_total, on_total, then_total}
use Rattle.std.proofs.lemmas.List.Sums.{sum_by-cons}
use Rattle.std.proofs.lemmas.Map.Text.{is_eq-slice_cmp}
use Rattle.std.proofs.lemmas.Slice.Eq.{bytes_eq-Decides}
use Rattle.std.specs.Cmp.{IsTotalOrder}
use Rattle.std.specs.Cmp.Lexicographic.{slice_cmp}
use Rattle.std.specs.List.Sorted.{IsStrictlySortedBy}
use Rattle.std.specs.Map.{keys_of}
use Rattle.std.specs.Ordering.{int_cmp, is_eq, nat_cmp, ordering_then}
use Rattle.std.specs.Prelude.{bytes_eq, nat_lt}
use Rattle.std.specs.declared.cmp.Ordering.{Ordering}
use Rattle.std.specs.declared.cmp.Ordering.TheVariants.{Less, Equal, Greater}
use Rattle.tally_records.proofs.Members.{Member, Member-append_left, Member-append_right, Member-map}
use Rattle.tally_sessions.specs.declared.connect.keys.DayUser.{DayUser}
use Rattle.tally_sessions.specs.declared.sums.Session.{Session}
use Rattle.tally_sessions.specs.declared.times.DayUserTime.{DayUserTime}
use Rattle.tally_sessions.specs.Rows.{day_user_time, day_user_times}
use Rattle.tally_sessions.specs.inside.Changes.{day_users_of}
use Rattle.tally_clock.specs.Days.{days_of_seconds, seconds_on}
use Rattle.tally_sessions.specs.Days.{IsDay}
use Rattle.tally_sessions.specs.inside.Sums.{above_zero, day_user_time_of, day_user_cmp, sum_at}
use Rattle.tally_sessions.specs.Rows.{day_user_time_cmp}
use Rattle.tally_records.specs.Sorted.{in_order}
use Rattle.tally_sessions.specs.Sums.{seconds_of_day, seconds_of_day_user}
use Rattle.tally_sessions.proofs.connect.Candidates.{rows_of_keys}
use Rattle.tally_sessions.proofs.days.ClockDays.{day_among}
use Rattle.tally_sessions.proofs.connect.RowLemmas.{rows_are, each_row}

both_equal : (r s : Ordering) (n : ℤ) → cond (is_eq (ordering_then r s)) n (pos 0) ≡ cond (is_eq r) (cond (is_eq s) n (pos 0)) (pos 0)
both_equal Less s n = refl
both_equal Equal s n = refl
both_equal Greater s n = refl

-- what is added at a key, by day and user
pub one_day_of_user : (day d : ℤ) (name user : List ℕ) (n : ℤ) → cond (is_eq (ordering_then (int_cmp day d) (slice_cmp nat_cmp name user))) n (pos 0) ≡ cond (is_eq (int_cmp day d)) (cond (bytes_eq name user) n (pos 0)) (pos 0)
one_day_of_user day d name user n = both_equal (int_cmp day d) (slice_cmp nat_cmp name user) n ∙ ap (λ b. cond (is_eq (int_cmp day d)) (cond b n (pos 0)) (pos 0)) (is_eq-slice_cmp name user)

pub day_user_total : IsTotalOrder day_user_cmp
day_user_total = then_total (on_total (λ (k : DayUser). k.day) int_cmp_total) (on_total (λ (k : DayUser). k.user) nat_list_cmp_total)

-- keys that tie are one
pub same_day_user : (a b : DayUser) → day_user_cmp a b ≡ Equal → a ≡ b
same_day_user a b e =
    let parts = by (int_cmp a.day b.day) (slice_cmp nat_cmp a.user b.user) e in
    let day : a.day ≡ b.day = (Decides-int_eq a.day b.day).0 (ap is_eq parts.0) in
    let user : a.user ≡ b.user = (bytes_eq-Decides a.user b.user).0 (sym (is_eq-slice_cmp a.user b.user) ∙ ap is_eq parts.1) in
    λ i. record { day = day i; user = user i }
  where
    by : (r s : Ordering) → ordering_then r s ≡ Equal → (r ≡ Equal) × (s ≡ Equal)
    by Less s h = cc
    by Equal s h = (refl, h)
    by Greater s h = cc

-- a user with connect time on a day has a session on it
pub day_user_counted : (clock : ℤ → ℤ) (k : DayUser) (ss : List Session) → 0 < seconds_of_day_user clock k.day k.user ss → Member k (day_users_of clock ss)
day_user_counted clock k [] lt = absurd (omega (arith, lt))
day_user_counted clock k (s ∷ ss) lt = by_user (bytes_eq s.user k.user) refl lt (day_user_counted clock k ss)
  where
    at : s.user ≡ k.user → 0 < seconds_on clock k.day s.begin s.end_time → Member k (day_users_of clock (s ∷ ss))
    at same some =
        let day = Member-map (λ (d : ℤ). record { day = d; user = s.user }) (days_of_seconds clock s.begin s.end_time) k.day (day_among clock k.day s.begin s.end_time some) in
        Member-append_left (map (λ (d : ℤ). record { day = d; user = s.user }) (days_of_seconds clock s.begin s.end_time)) (day_users_of clock ss) k (let at_user : List ℕ → DayUser = λ u. record { day = k.day; user = u } in subst (λ u. Member (at_user u) (map (λ (d : ℤ). record { day = d; user = s.user }) (days_of_seconds clock s.begin s.end_time))) same day)

    by_time : s.user ≡ k.user → (seconds_on clock k.day s.begin s.end_time ≡ 0) ⊎ (seconds_on clock k.day s.begin s.end_time ≢ 0) → 0 < seconds_on clock k.day s.begin s.end_time + seconds_of_day_user clock k.day k.user ss
        → (0 < seconds_of_day_user clock k.day k.user ss → Member k (day_users_of clock ss)) → Member k (day_users_of clock (s ∷ ss))
    by_time same (inl none) l rest = Member-append_right (map (λ (d : ℤ). record { day = d; user = s.user }) (days_of_seconds clock s.begin s.end_time)) (day_users_of clock ss) k (rest (omega arith))
    by_time same (inr some) l rest = at same (omega arith)

    by_user : (b : Bool) → bytes_eq s.user k.user ≡ b → 0 < seconds_of_day clock k.day (cond b (s ∷ filter (λ (x : Session). bytes_eq x.user k.user) ss) (filter (λ (x : Session). bytes_eq x.user k.user) ss))
        → (0 < seconds_of_day_user clock k.day k.user ss → Member k (day_users_of clock ss)) → Member k (day_users_of clock (s ∷ ss))
    by_user true e l rest =
        let whole = sum_by-cons (λ (x : Session). seconds_on clock k.day x.begin x.end_time) s (filter (λ (x : Session). bytes_eq x.user k.user) ss) in
        by_time ((bytes_eq-Decides s.user k.user).0 e) (cases_eq (seconds_on clock k.day s.begin s.end_time) 0) (subst (λ n. 0 < n) whole l) rest
    by_user false e l rest = Member-append_right (map (λ (d : ℤ). record { day = d; user = s.user }) (days_of_seconds clock s.begin s.end_time)) (day_users_of clock ss) k (rest l)

abbrev row : DayUser → ℕ → DayUserTime
row k n = record { day = k.day; user = k.user; seconds = n }

abbrev key : DayUserTime → DayUser
key r = record { day = r.day; user = r.user }

pub day_user_rows_are : (clock : ℤ → ℤ) (ss : List Session) (sums : List (DayUser × ℕ)) → IsStrictlySortedBy day_user_cmp (keys_of sums) → ((k : DayUser) → sum_at day_user_cmp sums k ≡ seconds_of_day_user clock k.day k.user ss)
    → map day_user_time_of (filter above_zero sums) ≡ day_user_times clock ss
day_user_rows_are clock ss sums up at =
    rows_are day_user_total same_day_user row key (λ (r : DayUserTime). r.seconds) (λ k n. refl) (λ k n. refl)
    sums (λ (k : DayUser). seconds_of_day_user clock k.day k.user ss) (day_users_of clock ss) up at (λ k lt. day_user_counted clock k ss lt)
    ∙ ap (λ rs. in_order day_user_time_cmp (filter (λ (r : DayUserTime). nat_lt 0 r.seconds) rs))
    (sym (rows_of_keys (λ (k : DayUser). day_user_time clock ss k.user k.day) (λ (s : Session) (d : ℤ). let at : DayUser = record { day = d; user = s.user } in at) (λ (s : Session). days_of_seconds clock s.begin s.end_time) ss))

pub day_user_rows_days : (sums : List (DayUser × ℕ)) → IsStrictlySortedBy day_user_cmp (keys_of sums) → ((k : DayUser) → 0 < sum_at day_user_cmp sums k → IsDay k.day) → All (λ (r : DayUserTime). IsDay r.day) (map day_user_time_of (filter above_zero sums))
day_user_rows_days sums up days =
    each_row day_user_total same_day_user row key (λ (r : DayUserTime). r.seconds) (λ k n. refl) (λ k n. refl) (λ (r : DayUserTime). IsDay r.day) sums up days
