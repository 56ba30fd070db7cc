-- The rows by day are of the sessions in whatever order.
use Rattle.std.proofs.Common.{◌≡◌, ◌∙◌, ℕ, ◌<◌, Bool, true, cond, List, [], ◌∷◌, ℤ, length, map, filter, sum_by, refl, sym, ap, subst, arith}
use Rattle.std.proofs.lemmas.Bool.{ltb-true}
use Rattle.std.proofs.lemmas.Cmp.{int_cmp_total, on_total}
use Rattle.std.proofs.lemmas.List.Sums.{sum_by-cons}
use Rattle.std.specs.Cmp.{IsTotalOrder}
use Rattle.std.specs.Prelude.{bytes_eq, nat_lt}
use Rattle.std.specs.declared.cmp.Ordering.{Ordering}
use Rattle.std.specs.declared.cmp.Ordering.TheVariants.{Equal}
use Rattle.tally_clock.specs.Days.{days_of_seconds, seconds_on}
use Rattle.tally_records.proofs.Members.{Member, Member-filter, Member-from_filter, Member-from_map, Member-map}
use Rattle.tally_records.proofs.SortedLemmas.{in_order-ascends, in_order-from, in_order-has, is_in_order}
use Rattle.tally_records.specs.Sorted.{in_order}
use Rattle.tally_sessions.specs.declared.connect.keys.DayUser.{DayUser}
use Rattle.tally_sessions.specs.declared.sums.Session.{Session}
use Rattle.tally_sessions.specs.declared.times.DayTime.{DayTime}
use Rattle.tally_sessions.specs.declared.times.DayUserTime.{DayUserTime}
use Rattle.tally_sessions.specs.inside.Alike.{AreAlike}
use Rattle.tally_sessions.specs.inside.Changes.{day_users_of}
use Rattle.tally_sessions.specs.Rows.{day_time, day_time_cmp, day_times, day_user_time, day_user_time_cmp, day_user_times}
use Rattle.tally_sessions.specs.Sums.{seconds_of_day, seconds_of_day_user}
use Rattle.tally_sessions.proofs.connect.Candidates.{rows_of_keys}
use Rattle.tally_sessions.proofs.connect.DayRows.{day_counted, days_of, same_day}
use Rattle.tally_sessions.proofs.connect.DayUsers.{day_user_counted, day_user_total, same_day_user}
use Rattle.tally_sessions.proofs.sums.Additive.{of_user_is}

-- rows with a key each, which name it
module _ {K Row : Type 0} {cmp : K → K → Ordering} (o : IsTotalOrder cmp) (exact : (x y : K) → cmp x y ≡ Equal → x ≡ y)
    (row : K → Row) (key : Row → K) (seconds : Row → ℕ) (row-key : (k : K) → key (row k) ≡ k) where
  abbrev has_time : Row → Bool
  has_time r = nat_lt 0 (seconds r)

  -- the rows of keys that have any time
  abbrev timed : List K → List Row
  timed ks = filter has_time (map row ks)

  abbrev row_cmp : Row → Row → Ordering
  row_cmp a b = cmp (key a) (key b)

  from_key : (ks : List K) (r : Row) → Member r (timed ks) → r ≡ row (key r)
  from_key ks r m =
      let from = Member-from_map row ks r (Member-from_filter has_time (map row ks) r m).0 in
      from.2 ∙ ap row (sym (row-key from.0) ∙ ap key (sym from.2))

  ties : (ks : List K) (x y : Row) → Member x (timed ks) → Member y (timed ks) → row_cmp x y ≡ Equal → x ≡ y
  ties ks x y m n e = from_key ks x m ∙ ap row (exact (key x) (key y) e) ∙ sym (from_key ks y n)

  -- a row of some keys is one of others, where these have each key with time
  among : (ks ls : List K) → ((k : K) → 0 < seconds (row k) → Member k ls) → (r : Row) → Member r (timed ks) → Member r (timed ls)
  among ks ls has r m =
      let kept = Member-from_filter has_time (map row ks) r m in
      let from = Member-from_map row ks r kept.0 in
      let time : has_time (row from.0) ≡ true = ap has_time (sym from.2) ∙ kept.1 in
      subst (λ x. Member x (timed ls)) (sym from.2)
      (Member-filter has_time (map row ls) (row from.0) time (Member-map row ls from.0 (has from.0 (ltb-true 0 (seconds (row from.0)) time))))

  -- keys that have each key with time give the same rows
  pub same_rows : (ks ls : List K) → ((k : K) → 0 < seconds (row k) → Member k ks) → ((k : K) → 0 < seconds (row k) → Member k ls)
      → in_order row_cmp (filter has_time (map row ks)) ≡ in_order row_cmp (filter has_time (map row ls))
  same_rows ks ls has has' =
      is_in_order (on_total key o) (timed ls) (in_order row_cmp (timed ks)) (ties ls) (in_order-ascends (on_total key o) (timed ks))
      (λ r m. among ks ls has' r (in_order-from (on_total key o) r (timed ks) m))
      (λ r m. in_order-has (on_total key o) r (timed ks) (ties ks) (among ls ks has r m))

-- a user on a day has as much time
same_seconds : (clock : ℤ → ℤ) (xs ys : List Session) → AreAlike xs ys → (day : ℤ) (user : List ℕ) → seconds_of_day_user clock day user xs ≡ seconds_of_day_user clock day user ys
same_seconds clock xs ys alike day user =
    let seconds : Session → ℕ = λ s. seconds_on clock day s.begin s.end_time in
    of_user_is seconds user xs ∙ alike (λ s. cond (bytes_eq s.user user) (seconds s) 0) ∙ sym (of_user_is seconds user ys)

abbrev days_timed : List DayTime → List DayTime
days_timed rows = in_order day_time_cmp (filter (λ (r : DayTime). nat_lt 0 r.seconds) rows)

-- the rows by day of the days of sessions
days_are : (clock : ℤ → ℤ) (ss : List Session) → day_times clock ss ≡ days_timed (map (day_time clock ss) (days_of clock ss))
days_are clock ss = ap days_timed (rows_of_keys (day_time clock ss) (λ (s : Session) (d : ℤ). d) (λ (s : Session). days_of_seconds clock s.begin s.end_time) ss)

pub alike_days : (clock : ℤ → ℤ) (xs ys : List Session) → AreAlike xs ys → day_times clock xs ≡ day_times clock ys
alike_days clock xs ys alike =
    let seconds : (day : ℤ) → seconds_of_day clock day xs ≡ seconds_of_day clock day ys = λ day. alike (λ s. seconds_on clock day s.begin s.end_time) in
    let rows : day_time clock xs ≡ day_time clock ys = λ i day. record { day = day; seconds = seconds day i } in
    days_are clock xs
    ∙ ap (λ (row : ℤ → DayTime). days_timed (map row (days_of clock xs))) rows
    ∙ same_rows int_cmp_total same_day (day_time clock ys) (λ (r : DayTime). r.day) (λ (r : DayTime). r.seconds) (λ day. refl) (days_of clock xs) (days_of clock ys)
    (λ day some. day_counted clock day xs (subst (λ n. 0 < n) (sym (seconds day)) some)) (λ day some. day_counted clock day ys some)
    ∙ sym (days_are clock ys)

abbrev day_users_timed : List DayUserTime → List DayUserTime
day_users_timed rows = in_order day_user_time_cmp (filter (λ (r : DayUserTime). nat_lt 0 r.seconds) rows)

-- the row of a user on a day
abbrev row_of : (ℤ → ℤ) → List Session → DayUser → DayUserTime
row_of clock ss k = day_user_time clock ss k.user k.day

-- the rows of the users on days of sessions
day_users_are : (clock : ℤ → ℤ) (ss : List Session) → day_user_times clock ss ≡ day_users_timed (map (row_of clock ss) (day_users_of clock ss))
day_users_are clock ss =
    ap day_users_timed (rows_of_keys (row_of clock ss) (λ (s : Session) (d : ℤ). let at : DayUser = record { day = d; user = s.user } in at) (λ (s : Session). days_of_seconds clock s.begin s.end_time) ss)

pub alike_day_users : (clock : ℤ → ℤ) (xs ys : List Session) → AreAlike xs ys → day_user_times clock xs ≡ day_user_times clock ys
alike_day_users clock xs ys alike =
    let seconds : (k : DayUser) → seconds_of_day_user clock k.day k.user xs ≡ seconds_of_day_user clock k.day k.user ys = λ k. same_seconds clock xs ys alike k.day k.user in
    let rows : row_of clock xs ≡ row_of clock ys = λ i k. record { day = k.day; user = k.user; seconds = seconds k i } in
    day_users_are clock xs
    ∙ ap (λ (row : DayUser → DayUserTime). day_users_timed (map row (day_users_of clock xs))) rows
    ∙ same_rows day_user_total same_day_user (row_of clock ys) (λ (r : DayUserTime). record { day = r.day; user = r.user }) (λ (r : DayUserTime). r.seconds) (λ k. refl) (day_users_of clock xs) (day_users_of clock ys)
    (λ k some. day_user_counted clock k xs (subst (λ n. 0 < n) (sym (seconds k)) some)) (λ k some. day_user_counted clock k ys some)
    ∙ sym (day_users_are clock ys)

-- each session weighs 1
length_is : (ss : List Session) → sum_by (λ (s : Session). 1) ss ≡ length ss
length_is [] = refl
length_is (s ∷ ss) = omega (arith, sum_by-cons (λ (x : Session). 1) s ss, length_is ss)

pub alike_length : (xs ys : List Session) → AreAlike xs ys → length xs ≡ length ys
alike_length xs ys alike = sym (length_is xs) ∙ alike (λ s. 1) ∙ length_is ys
