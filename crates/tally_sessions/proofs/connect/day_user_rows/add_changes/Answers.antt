use Rattle.std.proofs.Common.{◌≡◌, ◌∙◌, ◌<◌, ◌^◌, ℕ, ℤ, cond, List, pos, neg_ℤ, ◌+ℤ◌, ◌-ℤ◌, ◌*ℤ◌, ◌≤ℤ◌, FitsSigned, sym, ap, subst, arith, rules, to_z, of_z, w32, w64}
use Rattle.std.proofs.lemmas.Int.{clamps, ints, to_z-of_z}
use Rattle.std.specs.Int.{int_max}
use Rattle.std.specs.Ordering.{int_cmp, is_eq}
use Rattle.std.specs.Prelude.{bytes_eq, unsigned_abs}
use Rattle.tally_sessions.specs.declared.connect.keys.DayUser.{DayUser}
use Rattle.tally_sessions.specs.inside.Changes.{day_change}
use Rattle.tally_sessions.specs.inside.Spans.{span_change, span_day}
use Rattle.tally_sessions.specs.inside.Sums.{day_user_cmp}
use Rattle.tally_sessions.proofs.days.SpanLemmas.{no_change_after, no_change_before, no_change_within, not_over, over}
use Rattle.tally_sessions.proofs.connect.DayUsers.{one_day_of_user}
use Rattle.tally_sessions.proofs.connect.Weights.{times_none}
use Rattle.tally_sessions.proofs.connect.UserChanges.{no_more, none_if}
use Rattle.tally_sessions.proofs.connect.Walked.{IsWalked, walk_end, walk_jump, walk_start, walk_step}
use Rattle.tally_sessions.proofs.connect.day_user_rows.add_changes.Goals as goal

abbrev held : ℤ → ℤ
held z = to_z w32 (of_z w32 z)

abbrev kept : ℤ → ℤ
kept z = to_z w64 (of_z w64 z)

-- what a span adds to the changes of a user, by day
abbrev amount : ℤ → ℤ → ℤ → List ℕ → List ℕ → ℤ → ℤ
amount times b e name user day = cond (bytes_eq name user) (times *ℤ span_change day b e) (pos 0)

-- the changes of a user in a table, by day
abbrev by_day : List (DayUser × ℤ) → List ℕ → ℤ → ℤ
by_day changes user day = day_change changes (record { day = day; user = user })

time_is : (t : ℤ) → FitsSigned w64 t → kept t ≡ t
time_is t fits = omega (arith, ints)

pub loop-day-init : goal.loop-day-init
loop-day-init c = record {
  from = omega (arith, ints);
  moved = λ user.
      let s = c.args.span.now in
      let times = kept c.args.times in
      let begin : kept s.begin ≡ s.begin = time_is s.begin (search rules) in
      let first : held c.day_of-first.result ≡ span_day s.begin = to_z-of_z w32 c.day_of-first.result (search rules) ∙ c.day_of-first.ensures.value ∙ ap span_day begin in
      let added : ℤ → ℤ = amount times s.begin s.end_time c.args.user user in
      let old : ℤ → ℤ = by_day c.args.changes.now.entries user in
      subst (IsWalked ◌+ℤ◌ added old old) (sym first)
      (walk_start ◌+ℤ◌ (pos 0) no_more added old (span_day s.begin) (λ d le. none_if (bytes_eq c.args.user user) _ (times_none times _ (no_change_before d s.begin s.end_time le))));
}

pub change_on-requires-clause-after_first : goal.change_on-requires-clause-after_first
change_on-requires-clause-after_first c =
    let first = c.day_of-first.ensures.range in
    omega (arith, ints, first.low, c.loop-day.invariant.from)

pub add_on_day-requires-clause-low : goal.add_on_day-requires-clause-low
add_on_day-requires-clause-low c =
    let s = c.args.span.now in
    let day = to_z w32 c.loop-day.day-bits in
    subst (λ z. neg_ℤ (pos (2 ^ 61)) ≤ℤ z) (sym ((c.loop-day.invariant.moved c.args.user).rest day (omega (arith, ints)))) (c.requires.low (record { day = day; user = c.args.user }))

pub add_on_day-requires-clause-high : goal.add_on_day-requires-clause-high
add_on_day-requires-clause-high c =
    let s = c.args.span.now in
    let day = to_z w32 c.loop-day.day-bits in
    subst (λ z. z ≤ℤ pos (2 ^ 61)) (sym ((c.loop-day.invariant.moved c.args.user).rest day (omega (arith, ints)))) (c.requires.high (record { day = day; user = c.args.user }))

few_low : (z : ℤ) → neg_ℤ (pos 2899102924800) ≤ℤ z → z ≤ℤ pos 2899102924800 → neg_ℤ (pos (2 ^ 61)) ≤ℤ kept z
few_low z low high = omega (arith, ints)

few_high : (z : ℤ) → neg_ℤ (pos 2899102924800) ≤ℤ z → z ≤ℤ pos 2899102924800 → kept z ≤ℤ pos (2 ^ 61)
few_high z low high = omega (arith, ints)

few_kept : (z x : ℤ) → z ≡ x → neg_ℤ (pos 2899102924800) ≤ℤ z → z ≤ℤ pos 2899102924800 → kept z ≡ x
few_kept z x is low high = same z low high ∙ is
  where
    same : (y : ℤ) → neg_ℤ (pos 2899102924800) ≤ℤ y → y ≤ℤ pos 2899102924800 → kept y ≡ y
    same y low high = omega (arith, ints)

one_more : (times b e : ℤ) (name user : List ℕ) (old now next : List (DayUser × ℤ)) (day seconds : ℤ)
    → IsWalked ◌+ℤ◌ (amount times b e name user) (by_day old user) (by_day now user) day → seconds ≡ times *ℤ span_change day b e
    → ((d : ℤ) → by_day next user d ≡ by_day now user d +ℤ cond (is_eq (day_user_cmp (record { day = day; user = name }) (record { day = d; user = user }))) seconds (pos 0))
    → IsWalked ◌+ℤ◌ (amount times b e name user) (by_day old user) (by_day next user) (day +ℤ pos 1)
one_more times b e name user old now next day seconds h is added =
    walk_step ◌+ℤ◌ (pos 0) no_more (amount times b e name user) (by_day old user) (by_day now user) (by_day next user) day h
    (λ d. added d ∙ ap (λ m. by_day now user d +ℤ m) (one_day_of_user day d name user seconds)
    ∙ ap (λ m. by_day now user d +ℤ cond (is_eq (int_cmp day d)) (cond (bytes_eq name user) m (pos 0)) (pos 0)) is)

pub add_on_day-requires-clause-more_low : goal.add_on_day-requires-clause-more_low
add_on_day-requires-clause-more_low c = few_low c.change_on.result c.change_on.ensures.low c.change_on.ensures.high

pub add_on_day-requires-clause-more_high : goal.add_on_day-requires-clause-more_high
add_on_day-requires-clause-more_high c = few_high c.change_on.result c.change_on.ensures.low c.change_on.ensures.high

nearer : (day next : ℤ) → (day +ℤ pos 1) ≤ℤ next → day ≤ℤ pos 24858 → unsigned_abs (int_max (pos 24859 -ℤ next) (pos 0)) < unsigned_abs (int_max (pos 24859 -ℤ day) (pos 0))
nearer day next le few = grind (arith, ints, clamps)

pub loop-day-smaller-then-day-first : goal.loop-day-smaller-then-day-first
loop-day-smaller-then-day-first c =
    let day = to_z w32 c.loop-day.day-bits in
    let last = c.day_of-last.ensures.range in
    let within = not_over day (held (held c.day_of-last.result +ℤ pos 1)) c.loop-day-test.true in
    nearer day (held c.max-day.result) (omega (arith, ints, c.max-day.ensures, last.low, last.high, within)) (omega (arith, ints, last.low, last.high, within))

up_to_last : (last day d : ℤ) → (d +ℤ pos 1) ≤ℤ int_max last (day +ℤ pos 1) → (day +ℤ pos 1) ≤ℤ d → (d +ℤ pos 1) ≤ℤ last
up_to_last last day d to from = grind (arith, ints, clamps)

pub loop-day-preserved-then-day-first : goal.loop-day-preserved-then-day-first
loop-day-preserved-then-day-first c =
    let s = c.args.span.now in
    let times = kept c.args.times in
    let day = to_z w32 c.loop-day.day-bits in
    let last = c.day_of-last.ensures.range in
    let within = not_over day (held (held c.day_of-last.result +ℤ pos 1)) c.loop-day-test.true in
    let begin : kept s.begin ≡ s.begin = time_is s.begin (search rules) in
    let end_time : kept s.end_time ≡ s.end_time = time_is s.end_time (search rules) in
    let first : c.day_of-first.result ≡ span_day s.begin = c.day_of-first.ensures.value ∙ ap span_day begin in
    let last_is : held c.day_of-last.result ≡ span_day s.end_time = to_z-of_z w32 c.day_of-last.result (search rules) ∙ c.day_of-last.ensures.value ∙ ap span_day end_time in
    let next_day : held (day +ℤ pos 1) ≡ day +ℤ pos 1 = omega (arith, ints, last.low, last.high, within) in
    let next : held c.max-day.result ≡ int_max (span_day s.end_time) (day +ℤ pos 1) = to_z-of_z w32 c.max-day.result (search rules) ∙ c.max-day.ensures.value ∙ (λ i. int_max (last_is i) (next_day i)) in record {
      from = omega (arith, ints, c.max-day.ensures, last.low, last.high, within, c.loop-day.invariant.from);
      moved = λ user.
          walk_jump ◌+ℤ◌ (pos 0) no_more (amount times s.begin s.end_time c.args.user user) (by_day c.args.changes.now.entries user) (by_day c.add_on_day.new.changes.entries user) (day +ℤ pos 1) (held c.max-day.result) (omega (arith, ints, c.max-day.ensures, last.low, last.high, within))
          (one_more times s.begin s.end_time c.args.user user c.args.changes.now.entries c.loop-day.changes.entries c.add_on_day.new.changes.entries day (kept c.change_on.result) (c.loop-day.invariant.moved user)
          (few_kept c.change_on.result _ c.change_on.ensures.value c.change_on.ensures.low c.change_on.ensures.high)
          (λ d. c.in_ok-add_on_day.ensures (record { day = d; user = user })))
          (λ d from to. none_if (bytes_eq c.args.user user) _ (times_none times _ (no_change_within d s.begin s.end_time (omega (arith, ints, first, c.if-day-first.true, from)) (up_to_last (span_day s.end_time) day d (subst (λ z. (d +ℤ pos 1) ≤ℤ z) next to) from))));
    }

pub loop-day-smaller : goal.loop-day-smaller
loop-day-smaller c =
    let day = to_z w32 c.loop-day.day-bits in
    let last = c.day_of-last.ensures.range in
    let within = not_over day (held (held c.day_of-last.result +ℤ pos 1)) c.loop-day-test.true in
    nearer day (held (day +ℤ pos 1)) (omega (arith, ints, last.low, last.high, within)) (omega (arith, ints, last.low, last.high, within))

pub loop-day-preserved : goal.loop-day-preserved
loop-day-preserved c =
    let s = c.args.span.now in
    let times = kept c.args.times in
    let day = to_z w32 c.loop-day.day-bits in
    let last = c.day_of-last.ensures.range in
    let within = not_over day (held (held c.day_of-last.result +ℤ pos 1)) c.loop-day-test.true in
    let next : held (day +ℤ pos 1) ≡ day +ℤ pos 1 = omega (arith, ints, last.low, last.high, within) in record {
      from = omega (arith, ints, next, c.loop-day.invariant.from);
      moved = λ user.
          subst (IsWalked ◌+ℤ◌ (amount times s.begin s.end_time c.args.user user) (by_day c.args.changes.now.entries user) (by_day c.add_on_day.new.changes.entries user)) (sym next)
          (one_more times s.begin s.end_time c.args.user user c.args.changes.now.entries c.loop-day.changes.entries c.add_on_day.new.changes.entries day (kept c.change_on.result) (c.loop-day.invariant.moved user)
          (few_kept c.change_on.result _ c.change_on.ensures.value c.change_on.ensures.low c.change_on.ensures.high)
          (λ d. c.in_ok-add_on_day.ensures (record { day = d; user = user })));
    }

pub returns : goal.returns
returns c k =
    let s = c.args.span.now in
    let times = kept c.args.times in
    let day = to_z w32 c.loop-day.day-bits in
    let end_time : kept s.end_time ≡ s.end_time = time_is s.end_time (search rules) in
    let last_is : c.day_of-last.result ≡ span_day s.end_time = c.day_of-last.ensures.value ∙ ap span_day end_time in
    let last = c.day_of-last.ensures.range in
    let past = over day (held (held c.day_of-last.result +ℤ pos 1)) c.loop-day-test.false in
    let times_is : times ≡ c.args.times = to_z-of_z w64 c.args.times c.ranges.times in
    walk_end ◌+ℤ◌ (pos 0) no_more (amount times s.begin s.end_time c.args.user k.user) (by_day c.args.changes.now.entries k.user) (by_day c.loop-day.changes.entries k.user) day (c.loop-day.invariant.moved k.user)
    (λ d le. none_if (bytes_eq c.args.user k.user) _ (times_none times _ (no_change_after d s.begin s.end_time (omega (arith, ints, last_is, last.low, last.high, past, le))))) k.day
    ∙ ap (λ (z : ℤ). day_change c.args.changes.now.entries k +ℤ cond (bytes_eq c.args.user k.user) (z *ℤ span_change k.day s.begin s.end_time) (pos 0)) times_is
