-- The search for the second at which a clock reaches a local time.
use Rattle.std.proofs.Common.{cond, int_lt, ◌≡◌, ℕ, zero, suc, ◌+◌, ◌-◌, ◌<◌, ◌≤◌, ◌==◌, ◌⊎◌, ℤ, pos, ◌+ℤ◌, ◌-ℤ◌, ◌*ℤ◌, ◌≤ℤ◌, ◌<ℤ◌, false, length, ◌∙◌, ◌^◌, FitsSigned, of_z, to_z, to_z-of_z, w32, w64, refl, ap, ap₂, sym, subst, arith, inl, inr}
use Rattle.std.proofs.lemmas.Bool.Decides.{leb_tells, nat_tests}
use Rattle.std.proofs.lemmas.Int.{by_lt_z, clamps, ints}
use Rattle.std.specs.Int.{int_max}
use Rattle.jiff_core.proofs.SignedLemmas.{signed_arith}
use Rattle.jiff_core.specs.Calendar.{IsWithin}
use Rattle.tally_clock.specs.Rows.{ClockRows, IsRising, count_at, row_at}
use Rattle.tally_moments.specs.Seconds.{IsFirstAt, IsShownAt, SecondsAgree, local, shown_at}
use Rattle.tally_moments.specs.declared.moment.Moment.TheVariants.{Day, Now, Second, Time}
use Rattle.tally_moments.specs.inside.Reach.{IsNotReached, ahead_after, reach_in}
use Rattle.tally_clock.proofs.RowLemmas.{count_fits, count_is, passed, rises, stopped}

-- what the second from which an offset would show a local time is
record Reaches (clock : ClockRows) (minutes wanted : ℤ) (count : ℕ) : Type 0 where
  late : wanted ≤ℤ (reach_in clock minutes wanted count +ℤ ahead_after clock minutes count)
  from_row : (k : ℕ) → count ≡ suc k → (row_at clock.rows k).from ≤ℤ reach_in clock minutes wanted count
  early : (t : ℤ) → t <ℤ reach_in clock minutes wanted count → ((k : ℕ) → count ≡ suc k → (row_at clock.rows k).from ≤ℤ t) → (t +ℤ ahead_after clock minutes count) <ℤ wanted

-- the same of a second that is the later one of two
max_late : (reach wanted ahead from : ℤ) → reach ≡ int_max (wanted -ℤ ahead) from → wanted ≤ℤ (reach +ℤ ahead)
max_late reach wanted ahead from e = omega (arith, ints, clamps)

max_from : (reach reached from : ℤ) → reach ≡ int_max reached from → from ≤ℤ reach
max_from reach reached from e = omega (arith, ints, clamps)

max_early : (reach wanted ahead from t : ℤ) → reach ≡ int_max (wanted -ℤ ahead) from → t <ℤ reach → from ≤ℤ t → (t +ℤ ahead) <ℤ wanted
max_early reach wanted ahead from t e l f = omega (arith, ints, clamps)

after_row : (clock : ClockRows) (minutes wanted : ℤ) (k : ℕ) → reach_in clock minutes wanted (suc k) ≡ int_max (wanted -ℤ ahead_after clock minutes (suc k)) (row_at clock.rows k).from
after_row clock minutes wanted k =
    let some : (suc k == 0) ≡ false = grind (arith, nat_tests) in
    let back : suc k - 1 ≡ k = omega arith in
    rw (some, back) refl

-- that second, as it is worked out
pub reach_is : (clock : ClockRows) (minutes wanted : ℤ) (count : ℕ) (ahead begin later : ℤ) → FitsSigned w32 minutes → IsWithin (2 ^ 48) wanted → (count ≡ 0 → ⊥)
    → ahead ≡ ahead_after clock (to_z w32 (of_z w32 minutes)) count → IsWithin (2 ^ 38) ahead → begin ≡ (row_at clock.rows (count - 1)).from → IsWithin (2 ^ 31) begin
    → later ≡ int_max (to_z w64 (of_z w64 (to_z w64 (of_z w64 wanted) -ℤ to_z w64 (of_z w64 ahead)))) (to_z w64 (of_z w64 begin))
    → to_z w64 (of_z w64 later) ≡ reach_in clock minutes wanted count
reach_is clock minutes wanted zero ahead begin later fits near some ahead_is ahead_near begin_is begin_near later_is = absurd (some refl)
reach_is clock minutes wanted (suc k) ahead begin later fits near some ahead_is ahead_near begin_is begin_near later_is =
    let held : to_z w32 (of_z w32 minutes) ≡ minutes = omega (arith, signed_arith) in
    let back : suc k - 1 ≡ k = omega arith in
    let kept : to_z w64 (of_z w64 later) ≡ later = omega (arith, ints, clamps, near, ahead_near, begin_near, later_is) in
    let reached : to_z w64 (of_z w64 (to_z w64 (of_z w64 wanted) -ℤ to_z w64 (of_z w64 ahead))) ≡ wanted -ℤ ahead = omega (arith, signed_arith, near, ahead_near) in
    let begun : to_z w64 (of_z w64 begin) ≡ begin = omega (arith, signed_arith, begin_near) in
    kept ∙ later_is ∙ ap₂ int_max (reached ∙ ap (λ z. wanted -ℤ z) (ahead_is ∙ ap (λ m. ahead_after clock m (suc k)) held)) (begun ∙ begin_is ∙ ap (λ i. (row_at clock.rows i).from) back)
    ∙ sym (after_row clock minutes wanted k)

reaches : (clock : ClockRows) (minutes wanted : ℤ) (count : ℕ) → Reaches clock minutes wanted count
reaches clock minutes wanted zero = record {
  late = omega (arith, ints);
  from_row = λ k e. absurd (omega (arith, e));
  early = λ t l h. omega (arith, ints);
}
reaches clock minutes wanted (suc k) = record {
  late = max_late _ wanted (ahead_after clock minutes (suc k)) _ (after_row clock minutes wanted k);
  from_row = λ j e.
      let same : k ≡ j = omega (arith, e) in
      subst (λ i. (row_at clock.rows i).from ≤ℤ reach_in clock minutes wanted (suc k)) same (max_from _ _ _ (after_row clock minutes wanted k));
  early = λ t l h. max_early _ wanted (ahead_after clock minutes (suc k)) _ t (after_row clock minutes wanted k) l (h k refl);
}

module _ (clock : ClockRows) (rising : IsRising clock.rows) (minutes wanted : ℤ) where
  -- a second after so many rows is before the next row
  before_next : (t : ℤ) (count : ℕ) → count_at clock.rows t ≡ count → count < length clock.rows → t <ℤ (row_at clock.rows count).from
  before_next t count is l = subst (λ k. t <ℤ (row_at clock.rows k).from) is (stopped clock.rows t (omega (arith, is)))

  -- no second reaches the local time after so many rows, where that would be in the next row
  pub not_in : (count : ℕ) → count < length clock.rows → IsNotReached clock minutes wanted count
      → (row_at clock.rows count).from ≤ℤ reach_in clock minutes wanted count → IsNotReached clock minutes wanted (count + 1)
  not_in count l so_far over t below = elim (leb_tells count (count_at clock.rows t)) [
    | inl at ↦
        let is : count_at clock.rows t ≡ count = omega arith in
        let next = before_next t count is l in
        let early = (reaches clock minutes wanted count).early t (omega (arith, ints))
        (λ k e. passed clock.rows t k (omega (arith, is, e))) in
        subst (λ n. (t +ℤ ahead_after clock minutes n) <ℤ wanted) (sym is) early
    | inr under ↦ so_far t under.1
  ]

  -- the second at which an offset shows the local time is the first, where it holds then
  pub is_first : (count : ℕ) → count ≤ length clock.rows → IsNotReached clock minutes wanted count
      → (count < length clock.rows → reach_in clock minutes wanted count <ℤ (row_at clock.rows count).from)
      → IsFirstAt (local clock minutes) wanted (reach_in clock minutes wanted count)
  is_first count l so_far within =
      let reach = reaches clock minutes wanted count in
      let is : count_at clock.rows (reach_in clock minutes wanted count) ≡ count = counted count l within in
      record {
        reached = subst (λ n. wanted ≤ℤ (reach_in clock minutes wanted count +ℤ ahead_after clock minutes n)) (sym is) reach.late;
        none_before = λ t before. earlier t before (elim (leb_tells (count_at clock.rows t) count) [ inl under ↦ inl under.1 | inr over ↦ inr over.1 ]);
      }
    where
      counted : (count : ℕ) → count ≤ length clock.rows → (count < length clock.rows → reach_in clock minutes wanted count <ℤ (row_at clock.rows count).from)
          → count_at clock.rows (reach_in clock minutes wanted count) ≡ count
      counted zero l within = count_is clock.rows _ zero l (λ i below. absurd (omega arith)) within
      counted (suc k) l within = count_is clock.rows _ (suc k) l
          (λ i below.
          let up = rises clock.rows rising i k (omega arith) (omega arith) in
          let from = (reaches clock minutes wanted (suc k)).from_row k refl in
          omega (arith, ints))
          within

      earlier : (t : ℤ) → t <ℤ reach_in clock minutes wanted count → (count_at clock.rows t ≤ count) ⊎ (count < count_at clock.rows t) → (t +ℤ local clock minutes t) <ℤ wanted
      earlier t before (inl under) = elim (leb_tells count (count_at clock.rows t)) [
        | inl at ↦
            let is : count_at clock.rows t ≡ count = omega arith in
            subst (λ n. (t +ℤ ahead_after clock minutes n) <ℤ wanted) (sym is)
            ((reaches clock minutes wanted count).early t before (λ k e. passed clock.rows t k (omega (arith, is, e))))
        | inr less ↦ so_far t less.1
      ]
      earlier t before (inr over) =
          let fits = count_fits clock.rows t in
          let next = within (omega arith) in
          let begun = passed clock.rows t count over in
          absurd (omega (arith, ints))

-- ---- the seconds of moments

-- no clock has two first seconds
firsts_agree : (clock : ℤ → ℤ) (wanted one other : ℤ) → IsFirstAt clock wanted one → IsFirstAt clock wanted other → one ≡ other
firsts_agree clock wanted one other first again =
    let late = first.reached in
    let late_too = again.reached in
    by_lt_z one other
    (λ before. let early = again.none_before one before in absurd (omega (arith, ints)))
    (λ not_before. by_lt_z other one
    (λ after. let early = first.none_before other after in absurd (omega (arith, ints)))
    (λ not_after. omega (arith, ints)))

pub seconds_agree : SecondsAgree
seconds_agree clock now (Second second) one other is also = is ∙ sym also
seconds_agree clock now (Day day) one other is also = firsts_agree clock (pos 86400 *ℤ day) one other is also
seconds_agree clock now (Time day second) one other is also =
    is.2 ∙ ap (shown_at clock (pos 86400 *ℤ day +ℤ pos second)) (firsts_agree clock _ is.0 also.0 is.1 also.1) ∙ sym also.2
seconds_agree clock now Now one other is also = is ∙ sym also

-- ---- the same of numbers that come back from their bits

abbrev pub held : ℤ → ℤ
held z = to_z w32 (of_z w32 z)

abbrev pub kept : ℤ → ℤ
kept z = to_z w64 (of_z w64 z)

pub kept_is : (z : ℤ) → IsWithin (2 ^ 50) z → kept z ≡ z
kept_is z near = omega (arith, signed_arith, near)

-- what was not reached
pub not_reached : (clock : ClockRows) (minutes wanted : ℤ) (count : ℕ) → held minutes ≡ minutes → kept wanted ≡ wanted → IsNotReached clock (held minutes) (kept wanted) count → IsNotReached clock minutes wanted count
not_reached clock minutes wanted count m w h = subst (λ a. IsNotReached clock a wanted count) m (subst (λ b. IsNotReached clock (held minutes) b count) w h)

pub still_not_reached : (clock : ClockRows) (minutes wanted : ℤ) (count : ℕ) → held minutes ≡ minutes → kept wanted ≡ wanted → IsNotReached clock minutes wanted count → IsNotReached clock (held minutes) (kept wanted) count
still_not_reached clock minutes wanted count m w h = subst (λ b. IsNotReached clock (held minutes) b count) (sym w) (subst (λ a. IsNotReached clock a wanted count) (sym m) h)

-- the second that was worked out
pub worked_out : (clock : ClockRows) (minutes wanted : ℤ) (count : ℕ) (time : ℤ) → held minutes ≡ minutes → kept wanted ≡ wanted → IsWithin (2 ^ 50) time
    → time ≡ reach_in clock (held minutes) (kept wanted) count → kept time ≡ reach_in clock minutes wanted count
worked_out clock minutes wanted count time m w near is = kept_is time near ∙ is ∙ ap₂ (λ a b. reach_in clock a b count) m w

-- the second that was found, by the first and what the clock is ahead
pub shown_found : (clock : ℤ → ℤ) (wanted first ahead before found : ℤ) → IsFirstAt clock wanted first → IsWithin (2 ^ 50) first → FitsSigned w64 found
    → ahead ≡ clock first → before ≡ clock (kept (kept first -ℤ pos 1)) → found ≡ cond (int_lt wanted (first +ℤ ahead)) (wanted -ℤ before) first → IsShownAt clock wanted (kept found)
shown_found clock wanted first ahead before found is near fits ahead_is before_is found_is =
    let back : kept (kept first -ℤ pos 1) ≡ first -ℤ pos 1 = omega (arith, signed_arith, near) in
    (first, is, to_z-of_z fits ∙ found_is ∙ ap₂ (λ a b. cond (int_lt wanted (first +ℤ a)) (wanted -ℤ b) first) ahead_is (before_is ∙ ap clock back))

-- the difference of a time and what the clock is ahead fits
pub left_out_fits : (wanted before : ℤ) → IsWithin (2 ^ 48) wanted → IsWithin (2 ^ 38) before → FitsSigned w64 (wanted -ℤ before)
left_out_fits wanted before near near_too = omega (arith, signed_arith, near, near_too)

-- the first second that was found, and the offset at a second
pub first_found : (clock : ClockRows) (minutes wanted first : ℤ) → held minutes ≡ minutes → kept wanted ≡ wanted → IsFirstAt (local clock (held minutes)) (kept wanted) first → IsFirstAt (local clock minutes) wanted first
first_found clock minutes wanted first m w is = subst (λ a. IsFirstAt (local clock a) wanted first) m (subst (λ b. IsFirstAt (local clock (held minutes)) b first) w is)

pub ahead_found : (clock : ClockRows) (minutes time at ahead : ℤ) → held minutes ≡ minutes → at ≡ time → ahead ≡ local clock (held minutes) at → ahead ≡ local clock minutes time
ahead_found clock minutes time at ahead m at_is is = is ∙ ap₂ (λ a b. local clock a b) m at_is
