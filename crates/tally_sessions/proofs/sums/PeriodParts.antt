-- Two periods that follow each other have all seconds of both, of each session.
use Rattle.std.proofs.Common.{◌≡◌, ◌∙◌, ◌⊎◌, inl, inr, ℕ, ℤ, ◌+◌, ◌≤ℤ◌, Bool, true, false, cond, List, Option, Some, None, refl, sym, ap, arith}
use Rattle.std.proofs.lemmas.Int.{ints, clamps}
use borrow.Author.Differences.{le-true, le-false}
use Rattle.std.specs.Int.{int_max, int_min}
use Rattle.std.specs.Prelude.{IfSome, bytes_eq, int_le}
use Rattle.tally_clock.specs.Days.{seconds_between, seconds_from, seconds_on}
use Rattle.tally_clock.proofs.DayLemmas.{parts_add_up}
use Rattle.tally_records.specs.declared.choice.LoginChoice.{LoginChoice}
use Rattle.tally_sessions.specs.Choice.{begin_in, end_time_in, is_counted}
use Rattle.tally_sessions.specs.ChoiceLaws.{PeriodsAddUp, in_period}
use Rattle.tally_sessions.specs.Stays.{clamped}
use Rattle.tally_sessions.specs.Sums.{session_in, sessions_of}
use Rattle.tally_sessions.specs.declared.entry.Stay.{Stay}
use Rattle.tally_sessions.specs.declared.sums.Session.{Session}
use Rattle.tally_sessions.proofs.sums.Additive.{of_user_is, part_of, sums_add}

-- a count of seconds from one time to another that adds up, and is 0 where they go back
record IsMeasure (f : ℤ → ℤ → ℕ) : Type 0 where
  adds : (b m e : ℤ) → b ≤ℤ m → m ≤ℤ e → f b m + f m e ≡ f b e
  back : (b e : ℤ) → e ≤ℤ b → f b e ≡ 0

length_measures : IsMeasure seconds_between
length_measures = record {
  adds = λ b m e le le'. omega (arith, ints, clamps, le, le');
  back = λ b e le. omega (arith, ints, clamps, le);
}

day_measures : (clock : ℤ → ℤ) (day : ℤ) → IsMeasure (seconds_on clock day)
unfolding seconds_from
day_measures clock day = record {
  adds = λ b m e le le'. parts_add_up clock day b m e le le';
  back = λ b e le. let none : seconds_between b e ≡ 0 = omega (arith, ints, clamps, le) in ap (seconds_from clock day b) none;
}

cases : (a b : ℤ) → (a ≤ℤ b) ⊎ (b ≤ℤ a)
cases a b = by (int_le a b) refl
  where
    by : (before : Bool) → int_le a b ≡ before → (a ≤ℤ b) ⊎ (b ≤ℤ a)
    by true e = inl (let before = le-true a b e in omega (arith, ints))
    by false e = inr (let later = le-false a b e in omega (arith, ints))

module _ (f : ℤ → ℤ → ℕ) (h : IsMeasure f) where
  -- cut at a moment, wherever that is
  cut_adds : (x y m : ℤ) → f x (int_min y m) + f (int_max x m) y ≡ f x y
  cut_adds x y m = elim (cases x m) [
    | inl from ↦ elim (cases m y) [
      | inl to ↦
          let e : int_min y m ≡ m = omega (arith, ints, clamps, to) in
          let b : int_max x m ≡ m = omega (arith, ints, clamps, from) in
          (λ i. f x (e i) + f (b i) y) ∙ h.adds x m y from to
      | inr past ↦
          let e : int_min y m ≡ y = omega (arith, ints, clamps, past) in
          let b : int_max x m ≡ m = omega (arith, ints, clamps, from) in
          (λ i. f x (e i) + f (b i) y) ∙ (let none = h.back m y past in omega (arith, none))
    ]
    | inr before ↦
        let b : int_max x m ≡ x = omega (arith, ints, clamps, before) in
        let none = h.back x (int_min y m) (omega (arith, ints, clamps, before)) in
        ap (λ z. f x (int_min y m) + f z y) b ∙ omega (arith, none)
  ]

  abbrev measured : Session → ℕ
  measured s = f s.begin s.end_time

  -- and of a stay in the two periods
  parts : (from to : Option ℤ) (moment : ℤ) → IfSome from (λ begin. begin ≤ℤ moment) → IfSome to (λ end. moment ≤ℤ end) → (s : Stay)
      → measured (session_in (record { from = from; to = Some moment }) s) + measured (session_in (record { from = Some moment; to = to }) s) ≡ measured (session_in (record { from = from; to = to }) s)
  parts from to moment low high s =
      let m = clamped moment in
      let x = begin_in (record { from = from; to = to }) s.begin in
      let y = end_time_in (record { from = from; to = to }) s.end_time in
      (λ i. f x (ends to high i) + f (begins from low i) y) ∙ cut_adds x y m
    where
      begins : (from : Option ℤ) → IfSome from (λ begin. begin ≤ℤ moment) → int_max s.begin (clamped moment) ≡ int_max (begin_in (record { from = from; to = to }) s.begin) (clamped moment)
      begins None l = refl
      begins (Some begin) l = omega (arith, ints, clamps, l)

      ends : (to : Option ℤ) → IfSome to (λ end. moment ≤ℤ end) → int_min s.end_time (clamped moment) ≡ int_min (end_time_in (record { from = from; to = to }) s.end_time) (clamped moment)
      ends None l = refl
      ends (Some end) l = omega (arith, ints, clamps, l)

  add_parts : (choice : LoginChoice) (from to : Option ℤ) (moment : ℤ) → IfSome from (λ begin. begin ≤ℤ moment) → IfSome to (λ end. moment ≤ℤ end) → (s : Stay)
      → part_of measured (in_period from (Some moment) choice) s + part_of measured (in_period (Some moment) to choice) s ≡ part_of measured (in_period from to choice) s
  add_parts choice from to moment low high s = by (is_counted choice s)
    where
      by : (b : Bool) → cond b (measured (session_in (record { from = from; to = Some moment }) s)) 0 + cond b (measured (session_in (record { from = Some moment; to = to }) s)) 0 ≡ cond b (measured (session_in (record { from = from; to = to }) s)) 0
      by true = parts from to moment low high s
      by false = refl

  add_users : (user : List ℕ) (choice : LoginChoice) (from to : Option ℤ) (moment : ℤ) → IfSome from (λ begin. begin ≤ℤ moment) → IfSome to (λ end. moment ≤ℤ end) → (s : Stay)
      → let own : Session → ℕ = λ t. cond (bytes_eq t.user user) (measured t) 0 in
      part_of own (in_period from (Some moment) choice) s + part_of own (in_period (Some moment) to choice) s ≡ part_of own (in_period from to choice) s
  add_users user choice from to moment low high s = by (is_counted choice s) (bytes_eq s.user user)
    where
      by : (b own : Bool) → cond b (cond own (measured (session_in (record { from = from; to = Some moment }) s)) 0) 0 + cond b (cond own (measured (session_in (record { from = Some moment; to = to }) s)) 0) 0 ≡ cond b (cond own (measured (session_in (record { from = from; to = to }) s)) 0) 0
      by true true = parts from to moment low high s
      by true false = refl
      by false own = refl

pub periods_add_up : PeriodsAddUp
periods_add_up choice from to moment low high clock day user es until =
    let some = in_period from (Some moment) choice in
    let others = in_period (Some moment) to choice in
    let all = in_period from to choice in
    let length = measured seconds_between length_measures in
    let on = measured (seconds_on clock day) (day_measures clock day) in
    record {
      total = sums_add length some others all (add_parts seconds_between length_measures choice from to moment low high) es until;
      of_user = (λ i. of_user_is length user (sessions_of some es until) i + of_user_is length user (sessions_of others es until) i)
          ∙ sums_add (λ s. cond (bytes_eq s.user user) (length s) 0) some others all (add_users seconds_between length_measures user choice from to moment low high) es until
          ∙ sym (of_user_is length user (sessions_of all es until));
      on_day = sums_add on some others all (add_parts (seconds_on clock day) (day_measures clock day) choice from to moment low high) es until;
      of_user_on_day = (λ i. of_user_is on user (sessions_of some es until) i + of_user_is on user (sessions_of others es until) i)
          ∙ sums_add (λ s. cond (bytes_eq s.user user) (on s) 0) some others all (add_users (seconds_on clock day) (day_measures clock day) user choice from to moment low high) es until
          ∙ sym (of_user_is on user (sessions_of all es until));
    }
