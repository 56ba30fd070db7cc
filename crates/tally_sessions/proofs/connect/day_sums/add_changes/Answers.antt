use Rattle.std.proofs.Common.{◌≡◌, ◌∙◌, ◌+◌, ◌<◌, ◌^◌, ℕ, ℤ, List, pos, neg_ℤ, ◌+ℤ◌, ◌*ℤ◌, ◌≤ℤ◌, FitsSigned, length, set, sym, ap, subst, arith, rules, to_z, of_z, w32, w64}
use Rattle.std.proofs.lemmas.Int.{ints, to_z-of_z}
use Rattle.tally_sessions.specs.inside.Changes.{change_at, day_at}
use Rattle.tally_sessions.specs.inside.Spans.{span_change, span_day}
use Rattle.tally_sessions.proofs.connect.DayChanges.{IsChanged, changed_end, changed_jump, changed_start, changed_step, changes_of, none_after_place, none_before_place, none_within_places}
use Rattle.tally_sessions.proofs.connect.day_sums.add_changes.Goals as goal

abbrev held : ℤ → ℤ
held z = to_z w32 (of_z w32 z)

abbrev kept : ℤ → ℤ
kept z = to_z w64 (of_z w64 z)

-- what a table can hold, so that one change more still fits
record IsLow (table : List ℤ) : Type 0 where
  low : (k : ℕ) → neg_ℤ (pos (2 ^ 62)) ≤ℤ change_at table k
  high : (k : ℕ) → change_at table k ≤ℤ pos (2 ^ 62)

-- a change that is small
record IsChange (y x : ℤ) : Type 0 where
  value : y ≡ x
  low : neg_ℤ (pos 2899102924800) ≤ℤ y
  high : y ≤ℤ pos 2899102924800

sum_in_range : (x y : ℤ) → neg_ℤ (pos (2 ^ 62)) ≤ℤ x → x ≤ℤ pos (2 ^ 62) → neg_ℤ (pos 2899102924800) ≤ℤ y → y ≤ℤ pos 2899102924800 → FitsSigned w64 (kept x +ℤ kept y)
sum_in_range x y a b c d = omega (arith, ints)

sum_is : (x y : ℤ) → neg_ℤ (pos (2 ^ 62)) ≤ℤ x → x ≤ℤ pos (2 ^ 62) → neg_ℤ (pos 2899102924800) ≤ℤ y → y ≤ℤ pos 2899102924800 → kept (kept x +ℤ kept y) ≡ x +ℤ y
sum_is x y a b c d = omega (arith, ints)

one_more_fits : (times b e : ℤ) (old now : List ℤ) (place : ℕ) (y : ℤ) → IsLow old → IsChanged (changes_of times b e) old now place → IsChange y (changes_of times b e place)
    → FitsSigned w64 (kept (change_at now place) +ℤ kept y)
one_more_fits times b e old now place y bounds h is =
    let rest = h.rest place (omega arith) in
    sum_in_range (change_at now place) y
    (subst (λ z. neg_ℤ (pos (2 ^ 62)) ≤ℤ z) (sym rest) (bounds.low place)) (subst (λ z. z ≤ℤ pos (2 ^ 62)) (sym rest) (bounds.high place)) is.low is.high

one_more : (times b e : ℤ) (old now : List ℤ) (place : ℕ) (y : ℤ) → IsLow old → place < length now → IsChanged (changes_of times b e) old now place → IsChange y (changes_of times b e place)
    → IsChanged (changes_of times b e) old (set now place (kept (kept (change_at now place) +ℤ kept y))) (place + 1)
one_more times b e old now place y bounds within h is =
    let rest = h.rest place (omega arith) in
    changed_step (changes_of times b e) old now place _ within h
    (sum_is (change_at now place) y
    (subst (λ z. neg_ℤ (pos (2 ^ 62)) ≤ℤ z) (sym rest) (bounds.low place)) (subst (λ z. z ≤ℤ pos (2 ^ 62)) (sym rest) (bounds.high place)) is.low is.high
    ∙ ap (λ z. change_at now place +ℤ z) is.value)

day_is : (z : ℤ) (day time : ℤ) → day ≡ held z → z ≡ span_day time → FitsSigned w32 z → day ≡ span_day time
day_is z day time is at fits = is ∙ to_z-of_z w32 z fits ∙ at

time_is : (t : ℤ) → FitsSigned w64 t → kept t ≡ t
time_is t fits = omega (arith, ints)

pub loop-place-init : goal.loop-place-init
loop-place-init c =
    let s = c.args.span.now in
    let begin : kept s.begin ≡ s.begin = time_is s.begin (search rules) in
    let first : day_at c.place_of-first.result ≡ span_day s.begin = c.place_of-first.ensures.day ∙ to_z-of_z w32 c.day_of.result (search rules) ∙ c.day_of.ensures.value ∙ ap span_day begin in record {
      all_days = c.requires.all_days;
      changed = changed_start (changes_of (kept c.args.times) s.begin s.end_time) c.args.table.now c.place_of-first.result (none_before_place (kept c.args.times) s.begin s.end_time c.place_of-first.result first);
    }

change : (times : ℤ) (place : ℕ) (d y b e : ℤ) → held d ≡ day_at place → y ≡ times *ℤ span_change (held d) b e → neg_ℤ (pos 2899102924800) ≤ℤ y → y ≤ℤ pos 2899102924800 → IsChange y (changes_of times b e place)
change times place d y b e day is low high = record { value = is ∙ ap (λ (z : ℤ). times *ℤ span_change z b e) day; low = low; high = high }

pub overflow_add-table : goal.overflow_add-table
overflow_add-table c =
    let s = c.args.span.now in
    let day : held c.day_at.result ≡ day_at c.loop-place.place = to_z-of_z w32 c.day_at.result (search rules) ∙ c.day_at.ensures in
    let e = c.change_on.ensures in
    one_more_fits (kept c.args.times) s.begin s.end_time c.args.table.now c.loop-place.table c.loop-place.place c.change_on.result (record { low = c.requires.low; high = c.requires.high }) c.loop-place.invariant.changed
    (change (kept c.args.times) c.loop-place.place c.day_at.result c.change_on.result s.begin s.end_time day e.value e.low e.high)

pub loop-place-preserved-then-place-first : goal.loop-place-preserved-then-place-first
loop-place-preserved-then-place-first c =
    let s = c.args.span.now in
    let times = kept c.args.times in
    let place = c.loop-place.place in
    let begin : kept s.begin ≡ s.begin = time_is s.begin (search rules) in
    let end_time : kept s.end_time ≡ s.end_time = time_is s.end_time (search rules) in
    let first : day_at c.place_of-first.result ≡ span_day s.begin = c.place_of-first.ensures.day ∙ to_z-of_z w32 c.day_of.result (search rules) ∙ c.day_of.ensures.value ∙ ap span_day begin in
    let last : day_at c.place_of-last.result ≡ span_day s.end_time = c.place_of-last.ensures.day ∙ to_z-of_z w32 c.day_of-2.result (search rules) ∙ c.day_of-2.ensures.value ∙ ap span_day end_time in
    let day : held c.day_at.result ≡ day_at place = to_z-of_z w32 c.day_at.result (search rules) ∙ c.day_at.ensures in
    let e = c.change_on.ensures in
    let within : place < length c.loop-place.table = omega (arith, c.loop-place-test.true, c.place_of-last.ensures.in_table, c.loop-place.invariant.all_days) in
    let more = one_more times s.begin s.end_time c.args.table.now c.loop-place.table place c.change_on.result (record { low = c.requires.low; high = c.requires.high }) within c.loop-place.invariant.changed
    (change times place c.day_at.result c.change_on.result s.begin s.end_time day e.value e.low e.high) in record {
      all_days = search rules;
      changed = changed_jump (changes_of times s.begin s.end_time) c.args.table.now _ (place + 1) c.max-place.result (omega (arith, c.max-place.ensures)) more
          (λ k from to. none_within_places times s.begin s.end_time c.place_of-first.result c.place_of-last.result place first last c.if-place-first.true k from (omega (arith, c.max-place.ensures, from, to)));
    }

pub loop-place-preserved : goal.loop-place-preserved
loop-place-preserved c =
    let s = c.args.span.now in
    let times = kept c.args.times in
    let place = c.loop-place.place in
    let day : held c.day_at.result ≡ day_at place = to_z-of_z w32 c.day_at.result (search rules) ∙ c.day_at.ensures in
    let e = c.change_on.ensures in
    let within : place < length c.loop-place.table = omega (arith, c.loop-place-test.true, c.place_of-last.ensures.in_table, c.loop-place.invariant.all_days) in record {
      all_days = search rules;
      changed = one_more times s.begin s.end_time c.args.table.now c.loop-place.table place c.change_on.result (record { low = c.requires.low; high = c.requires.high }) within c.loop-place.invariant.changed
          (change times place c.day_at.result c.change_on.result s.begin s.end_time day e.value e.low e.high);
    }

pub returns : goal.returns
returns c k lt =
    let s = c.args.span.now in
    let times = kept c.args.times in
    let end_time : kept s.end_time ≡ s.end_time = time_is s.end_time (search rules) in
    let last : day_at c.place_of-last.result ≡ span_day s.end_time = c.place_of-last.ensures.day ∙ to_z-of_z w32 c.day_of-2.result (search rules) ∙ c.day_of-2.ensures.value ∙ ap span_day end_time in
    let times_is : times ≡ c.args.times = omega (arith, ints, c.requires.times_low, c.requires.times_high) in
    changed_end (changes_of times s.begin s.end_time) c.args.table.now c.loop-place.table c.loop-place.place c.loop-place.invariant.changed
    (none_after_place times s.begin s.end_time c.place_of-last.result c.loop-place.place last c.loop-place-test.false) k
    ∙ ap (λ (z : ℤ). change_at c.args.table.now k +ℤ z *ℤ span_change (day_at k) s.begin s.end_time) times_is
