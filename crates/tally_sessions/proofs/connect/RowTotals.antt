-- The rows of the users add up to the total.
use Rattle.std.proofs.Common.{◌≡◌, ℕ, zero, suc, ◌+◌, ◌<◌, ◌≤◌, Bool, true, false, cond, List, [], ◌∷◌, map, filter, sum_by, refl, sym, ap, ◌∙◌, inl, inr, arith}
use Rattle.std.proofs.lemmas.Cmp.{nat_list_cmp_total, on_total}
use Rattle.std.proofs.lemmas.List.Sums.{sum_by-cons}
use Rattle.std.proofs.lemmas.Map.Text.{is_eq-slice_cmp}
use Rattle.std.proofs.lemmas.Slice.Eq.{bytes_eq-Decides}
use Rattle.std.specs.Cmp.Lexicographic.{slice_cmp}
use Rattle.std.specs.List.{AllByRecursion}
use Rattle.std.specs.List.Sorted.{IsStrictlySortedBy}
use Rattle.std.specs.Ordering.{is_eq, nat_cmp, ordering_reverse}
use Rattle.std.specs.Prelude.{bytes_eq, nat_lt}
use Rattle.std.specs.declared.cmp.Ordering.TheVariants.{Less}
use Rattle.tally_clock.specs.Days.{seconds_between}
use Rattle.tally_records.proofs.Members.{All-Member, Member, Member-from_Contains, Member-from_filter, Member-from_map, Member-map}
use Rattle.tally_records.proofs.SortedLemmas.{in_order-ascends, in_order-from}
use Rattle.tally_sessions.specs.declared.sums.Session.{Session}
use Rattle.tally_sessions.specs.declared.times.UserTime.{UserTime}
use Rattle.tally_sessions.specs.Laws.{RowsAddUp}
use Rattle.tally_sessions.specs.Rows.{user_time, user_time_cmp, user_times}
use Rattle.tally_sessions.specs.Sums.{seconds_in, seconds_of_user}
use Rattle.tally_sessions.proofs.connect.CompleteRows.{rows_are_complete}
use Rattle.tally_sessions.proofs.sums.Additive.{of_user_is}
use Rattle.tally_sessions.proofs.track.LineSums.{sum_same}

abbrev seconds : Session → ℕ
seconds s = seconds_between s.begin s.end_time

-- the users of rows
abbrev users : List UserTime → List (List ℕ)
users rows = map (λ (row : UserTime). row.user) rows

-- what a row has of some seconds of a user
abbrev share : List ℕ → ℕ → UserTime → ℕ
share user n row = cond (bytes_eq user row.user) n 0

other_user : (user : List ℕ) (row : UserTime) → slice_cmp nat_cmp row.user user ≡ Less → bytes_eq user row.user ≡ false
other_user user row less = sym (is_eq-slice_cmp user row.user) ∙ ap is_eq (nat_list_cmp_total.antisymm user row.user ∙ ap ordering_reverse less)

-- rows of later users have nothing of a user's seconds
none_after : (user : List ℕ) (n : ℕ) (rows : List UserTime) → AllByRecursion (λ (row : UserTime). slice_cmp nat_cmp user row.user ≡ Less) rows → sum_by (share user n) rows ≡ 0
none_after user n [] after = refl
none_after user n (row ∷ rows) after =
    let other : bytes_eq user row.user ≡ false = sym (is_eq-slice_cmp user row.user) ∙ ap is_eq after.0 in
    sum_by-cons (share user n) row rows ∙ (λ i. cond (other i) n 0 + none_after user n rows after.1 i)

-- where a user has a row, it has all of the user's seconds
one_has_all : (user : List ℕ) (n : ℕ) (rows : List UserTime) → IsStrictlySortedBy user_time_cmp rows → Member user (users rows) → sum_by (share user n) rows ≡ n
unfolding IsStrictlySortedBy
one_has_all user n [] up has = absurd has
one_has_all user n (row ∷ rows) up has = elim has [
  | inl same ↦
      let own : bytes_eq user row.user ≡ true = (bytes_eq-Decides user row.user).1 same in
      let none : sum_by (share user n) rows ≡ 0 = (λ i. sum_by (share (same i) n) rows) ∙ none_after row.user n rows up.0 in
      let all : cond (bytes_eq user row.user) n 0 ≡ n = ap (λ b. cond b n 0) own in
      omega (arith, sum_by-cons (share user n) row rows, none, all)
  | inr later ↦
      let from = Member-from_map (λ (r : UserTime). r.user) rows user later in
      let less : slice_cmp nat_cmp row.user user ≡ Less = ap (slice_cmp nat_cmp row.user) from.2 ∙ All-Member (λ (r : UserTime). slice_cmp nat_cmp row.user r.user ≡ Less) rows from.0 up.0 from.1 in
      let none : cond (bytes_eq user row.user) n 0 ≡ 0 = ap (λ b. cond b n 0) (other_user user row less) in
      omega (arith, sum_by-cons (share user n) row rows, none, one_has_all user n rows up.1 later)
]

-- no row has anything of no seconds
none_of_none : (user : List ℕ) (rows : List UserTime) → sum_by (share user 0) rows ≡ 0
none_of_none user [] = refl
none_of_none user (row ∷ rows) = omega (arith, sum_by-cons (share user 0) row rows, nothing (bytes_eq user row.user), none_of_none user rows)
  where
    nothing : (b : Bool) → cond b zero zero ≡ zero
    nothing true = refl
    nothing false = refl

-- the seconds of a user are the session's, where it is theirs, and those of the other sessions
of_user-cons : (user : List ℕ) (s : Session) (ss : List Session) → seconds_of_user user (s ∷ ss) ≡ cond (bytes_eq s.user user) (seconds s) 0 + seconds_of_user user ss
of_user-cons user s ss =
    let own : Session → ℕ = λ x. cond (bytes_eq x.user user) (seconds x) 0 in
    of_user_is seconds user (s ∷ ss) ∙ sum_by-cons own s ss ∙ ap (λ n. own s + n) (sym (of_user_is seconds user ss))

-- a session's seconds are among its user's
session-le-user : (s : Session) (ss : List Session) → Member s ss → seconds s ≤ seconds_of_user s.user ss
session-le-user s [] m = absurd m
session-le-user s (x ∷ xs) m = elim m [
  | inl same ↦
      let own : bytes_eq x.user s.user ≡ true = (bytes_eq-Decides x.user s.user).1 (ap (λ (y : Session). y.user) (sym same)) in
      let all : cond (bytes_eq x.user s.user) (seconds x) 0 ≡ seconds s = ap (λ b. cond b (seconds x) 0) own ∙ ap seconds (sym same) in
      omega (arith, of_user-cons s.user x xs, all)
  | inr later ↦ omega (arith, of_user-cons s.user x xs, session-le-user s xs later)
]

sum_by-plus : {X : Type 0} (f g : X → ℕ) (xs : List X) → sum_by (λ x. f x + g x) xs ≡ sum_by f xs + sum_by g xs
sum_by-plus f g [] = refl
sum_by-plus {X} f g (x ∷ xs) =
    omega (arith, sum_by-cons (λ (y : X). f y + g y) x xs, sum_by-cons f x xs, sum_by-cons g x xs, sum_by-plus f g xs)

sum_by-nothing : {X : Type 0} (xs : List X) → sum_by (λ (x : X). 0) xs ≡ 0
sum_by-nothing [] = refl
sum_by-nothing {X} (x ∷ xs) = omega (arith, sum_by-cons (λ (y : X). 0) x xs, sum_by-nothing xs)

module _ (rows : List UserTime) (up : IsStrictlySortedBy user_time_cmp rows) where
  shares : (user : List ℕ) (n : ℕ) → (0 < n → Member user (users rows)) → sum_by (share user n) rows ≡ n
  shares user zero has = none_of_none user rows
  shares user (suc n) has = one_has_all user (suc n) rows up (has (omega arith))

  -- sessions whose users have rows are counted once by these
  counted_once : (ss : List Session) → ((s : Session) → Member s ss → 0 < seconds s → Member s.user (users rows)) → sum_by (λ row. seconds_of_user row.user ss) rows ≡ seconds_in ss
  counted_once [] has = sum_by-nothing rows
  counted_once (s ∷ ss) has =
      (λ i. sum_by (λ row. of_user-cons row.user s ss i) rows)
      ∙ sum_by-plus (share s.user (seconds s)) (λ row. seconds_of_user row.user ss) rows
      ∙ (λ i. shares s.user (seconds s) (has s (inl refl)) i + counted_once ss (λ x m. has x (inr m)) i)
      ∙ sym (sum_by-cons seconds s ss)

-- a row has the seconds of its user
row_has : (ss : List Session) (row : UserTime) → Member row (user_times ss) → row.seconds ≡ seconds_of_user row.user ss
row_has ss row m =
    let rows : List UserTime = map (λ (s : Session). user_time ss s.user) ss in
    let timed : List UserTime = filter (λ (r : UserTime). nat_lt 0 r.seconds) rows in
    let among : Member row timed = in_order-from (on_total (λ (r : UserTime). r.user) nat_list_cmp_total) row timed m in
    let from = Member-from_map (λ (s : Session). user_time ss s.user) ss row (Member-from_filter (λ (r : UserTime). nat_lt 0 r.seconds) rows row among).0 in
    ap (λ (r : UserTime). r.seconds) from.2 ∙ ap (λ (r : UserTime). seconds_of_user r.user ss) (sym from.2)

pub user_rows_add_up : RowsAddUp
user_rows_add_up ss =
    let rows : List UserTime = user_times ss in
    let up : IsStrictlySortedBy user_time_cmp rows = in_order-ascends (on_total (λ (r : UserTime). r.user) nat_list_cmp_total) _ in
    sum_same (λ (row : UserTime). row.seconds) (λ row. seconds_of_user row.user ss) rows (row_has ss)
    ∙ counted_once rows up ss (λ s m some.
    let has = (rows_are_complete ss).users s.user (omega (arith, some, session-le-user s ss m)) in
    Member-map (λ (row : UserTime). row.user) rows (user_time ss s.user) (Member-from_Contains rows (user_time ss s.user) has))
