-- Each user, day, and user on a day with connect time has a row.
use Rattle.std.proofs.Common.{◌≡◌, ◌<◌, ◌∙◌, ℕ, ℤ, List, Contains, map, filter, sym, ap, subst, refl}
use Rattle.std.proofs.lemmas.Bool.{lt-ltb}
use Rattle.std.proofs.lemmas.Cmp.{int_cmp_total, nat_list_cmp_total, on_total}
use Rattle.std.specs.Cmp.{IsTotalOrder}
use Rattle.std.specs.Prelude.{nat_lt}
use Rattle.std.specs.declared.cmp.Ordering.{Ordering}
use Rattle.std.specs.declared.cmp.Ordering.TheVariants.{Equal}
use Rattle.tally_records.proofs.Members.{Contains-from_Member, Member, Member-filter, Member-from_filter, Member-from_map, Member-map}
use Rattle.tally_records.proofs.SortedLemmas.{in_order-has}
use Rattle.tally_records.specs.Sorted.{in_order}
use Rattle.tally_sessions.specs.declared.connect.keys.DayUser.{DayUser}
use Rattle.tally_sessions.specs.declared.sums.Session.{Session}
use Rattle.tally_sessions.specs.declared.times.DayTime.{DayTime}
use Rattle.tally_sessions.specs.declared.times.DayUserTime.{DayUserTime}
use Rattle.tally_sessions.specs.declared.times.UserTime.{UserTime}
use Rattle.tally_sessions.specs.Laws.{HaveRows}
use Rattle.tally_clock.specs.Days.{days_of_seconds}
use Rattle.tally_sessions.specs.Rows.{day_time, day_time_cmp, day_user_time, day_user_time_cmp, user_time, user_times}
use Rattle.tally_sessions.specs.inside.Changes.{day_users_of}
use Rattle.tally_sessions.proofs.connect.Candidates.{rows_of_keys}
use Rattle.tally_sessions.proofs.connect.DayRows.{day_counted, days_of, same_day}
use Rattle.tally_sessions.proofs.connect.DayUsers.{day_user_counted, day_user_total, same_day_user}
use Rattle.tally_sessions.proofs.sums.SumLemmas.{user_of_session}
use Rattle.tally_sessions.proofs.connect.UserRows.{same_user}

-- rows with a key each, which name it
module _ {C K Row : Type 0} {cmp : K → K → Ordering} (o : IsTotalOrder cmp) (exact : (x y : K) → cmp x y ≡ Equal → x ≡ y)
    (row : K → Row) (key : Row → K) (seconds : Row → ℕ) (row-key : (k : K) → key (row k) ≡ k) (of : C → K) (candidates : List C) where
  abbrev timed : List Row
  timed = filter (λ r. nat_lt 0 (seconds r)) (map (λ c. row (of c)) candidates)

  from_key : (r : Row) → Member r timed → r ≡ row (key r)
  from_key r m =
      let from = Member-from_map (λ c. row (of c)) candidates r (Member-from_filter (λ x. nat_lt 0 (seconds x)) (map (λ c. row (of c)) candidates) r m).0 in
      from.2 ∙ ap row (sym (row-key (of from.0)) ∙ ap key (sym from.2))

  ties : (x y : Row) → Member x timed → Member y timed → cmp (key x) (key y) ≡ Equal → x ≡ y
  ties x y m n e = from_key x m ∙ ap row (exact (key x) (key y) e) ∙ sym (from_key y n)

  pub has_row : (c : C) → Member c candidates → 0 < seconds (row (of c)) → Contains (in_order (λ a b. cmp (key a) (key b)) timed) (row (of c))
  has_row c m some =
      Contains-from_Member _ _ (in_order-has (on_total key o) _ timed ties
      (Member-filter (λ x. nat_lt 0 (seconds x)) (map (λ d. row (of d)) candidates) (row (of c)) (lt-ltb 0 _ some) (Member-map (λ d. row (of d)) candidates c m)))

pub rows_are_complete : (ss : List Session) → HaveRows ss
rows_are_complete ss = record {
  users = λ user some.
      let from = Member-from_map (λ (s : Session). s.user) ss user (user_of_session user ss some) in
      subst (λ u. Contains (user_times ss) (user_time ss u)) (sym from.2)
      (has_row nat_list_cmp_total same_user (user_time ss) (λ (r : UserTime). r.user) (λ (r : UserTime). r.seconds) (λ u. refl) (λ (s : Session). s.user) ss from.0 from.1
      (subst (λ u. 0 < (user_time ss u).seconds) from.2 some));
  days = λ clock day some.
      let row = day_time clock ss in
      let among = rows_of_keys row (λ (s : Session) (d : ℤ). d) (λ (s : Session). days_of_seconds clock s.begin s.end_time) ss in
      subst (λ rs. Contains (in_order day_time_cmp (filter (λ (r : DayTime). nat_lt 0 r.seconds) rs)) (row day)) (sym among)
      (has_row int_cmp_total same_day row (λ (r : DayTime). r.day) (λ (r : DayTime). r.seconds) (λ d. refl) (λ (d : ℤ). d) (days_of clock ss) day (day_counted clock day ss some) some);
  day_users = λ clock day user some.
      let k : DayUser = record { day = day; user = user } in
      let row : DayUser → DayUserTime = λ j. day_user_time clock ss j.user j.day in
      let among = rows_of_keys row (λ (s : Session) (d : ℤ). let at : DayUser = record { day = d; user = s.user } in at) (λ (s : Session). days_of_seconds clock s.begin s.end_time) ss in
      subst (λ rs. Contains (in_order day_user_time_cmp (filter (λ (r : DayUserTime). nat_lt 0 r.seconds) rs)) (row k)) (sym among)
      (has_row day_user_total same_day_user row (λ (r : DayUserTime). record { day = r.day; user = r.user }) (λ (r : DayUserTime). r.seconds) (λ j. refl) (λ (j : DayUser). j) (day_users_of clock ss) k (day_user_counted clock k ss some) some);
}
