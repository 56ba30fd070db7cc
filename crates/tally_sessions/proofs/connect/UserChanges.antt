-- The changes of users' seconds from day to day, while those of sessions are added to a table.
use Rattle.std.proofs.Common.{◌≡◌, ◌+◌, ◌<◌, ◌≤◌, ◌^◌, Bool, true, false, cond, List, [], ◌∷◌, length, filter, ℤ, pos, neg_ℤ, ◌+ℤ◌, ◌-ℤ◌, ◌≤ℤ◌, refl, sym, subst, arith}
use Rattle.std.proofs.lemmas.Int.{ints, clamps}
use Rattle.std.specs.Int.{int_max}
use Rattle.std.specs.Prelude.{bytes_eq, unsigned_abs}
use Rattle.std.proofs.lemmas.List.Sums.{sum_by-cons}
use Rattle.tally_sessions.specs.declared.connect.keys.DayUser.{DayUser}
use Rattle.tally_sessions.specs.declared.sums.Session.{Session}
use Rattle.tally_sessions.specs.inside.Changes.{change_of_day_user, days_ahead, days_from}
use Rattle.tally_sessions.specs.Sums.{seconds_of_day_user}
use Rattle.tally_sessions.proofs.connect.DayChanges.{seconds_of_day-le}
use Rattle.tally_sessions.proofs.days.ClockDays.{IsNear}

pub no_more : (n : ℤ) → n ≡ n +ℤ pos 0
no_more n = omega (arith, ints)

-- nothing, whoever the user is
pub none_if : (b : Bool) (n : ℤ) → n ≡ pos 0 → cond b n (pos 0) ≡ pos 0
none_if true n h = h
none_if false n h = refl

pub days_ahead-cons : (e : DayUser × ℤ) (es : List (DayUser × ℤ)) → days_ahead (e ∷ es) ≡ days_from e.0.day + days_ahead es
days_ahead-cons e es = sum_by-cons (λ (x : DayUser × ℤ). days_from x.0.day) e es

-- what is left to walk
pub walk_nearer : (day next : ℤ) → next ≡ day +ℤ pos 1 → day ≤ℤ pos 24857 → unsigned_abs (int_max (pos 24858 -ℤ next) (pos 0)) < unsigned_abs (int_max (pos 24858 -ℤ day) (pos 0))
walk_nearer day next e le = subst (λ (z : ℤ). unsigned_abs (int_max (pos 24858 -ℤ z) (pos 0)) < unsigned_abs (int_max (pos 24858 -ℤ day) (pos 0))) (sym e) (by day le)
  where
    by : (z : ℤ) → z ≤ℤ pos 24857 → unsigned_abs (int_max (pos 24858 -ℤ (z +ℤ pos 1)) (pos 0)) < unsigned_abs (int_max (pos 24858 -ℤ z) (pos 0))
    by z le = grind (arith, ints, clamps)

at_most : (p : Session → Bool) (ss : List Session) → length (filter p ss) ≤ length ss
at_most p [] = omega arith
at_most p (s ∷ ss) = by (p s) (at_most p ss)
  where
    by : (b : Bool) → length (filter p ss) ≤ length ss → length (cond b (s ∷ filter p ss) (filter p ss)) ≤ length (s ∷ ss)
    by true le = omega arith
    by false le = omega arith

-- the seconds of a user on a day are few
pub seconds_of_day_user-le : (clock : ℤ → ℤ) (k : DayUser) (ss : List Session) → IsNear clock → length ss ≤ 16777216 → seconds_of_day_user clock k.day k.user ss ≤ 2 ^ 44
seconds_of_day_user-le clock k ss near few =
    let p : Session → Bool = λ s. bytes_eq s.user k.user in
    let n = seconds_of_day-le clock k.day (filter p ss) near in
    let some = at_most p ss in
    omega (arith, n, some, few)

pub changes_low : (clock : ℤ → ℤ) (k : DayUser) (ss : List Session) → IsNear clock → length ss ≤ 16777216 → neg_ℤ (pos (2 ^ 50)) ≤ℤ change_of_day_user clock k ss
changes_low clock k ss near few = let n = seconds_of_day_user-le clock (record { day = k.day -ℤ pos 1; user = k.user }) ss near few in omega (arith, ints, n)

pub changes_high : (clock : ℤ → ℤ) (k : DayUser) (ss : List Session) → IsNear clock → length ss ≤ 16777216 → change_of_day_user clock k ss ≤ℤ pos (2 ^ 50)
changes_high clock k ss near few = let n = seconds_of_day_user-le clock k ss near few in omega (arith, ints, n)
