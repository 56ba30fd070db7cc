use Rattle.std.proofs.Common.{◌≡◌, ◌∙◌, ◌⊎◌, inl, inr, ◌+◌, ◌<◌, ◌≤◌, ◌^◌, ℕ, ℤ, List, pos, neg_ℤ, ◌+ℤ◌, ◌-ℤ◌, ◌*ℤ◌, ◌≤ℤ◌, length, ap, subst, arith, to_z, of_z, w32}
use Rattle.std.proofs.lemmas.Bool.{cases_lt}
use Rattle.std.proofs.lemmas.Int.{ints, to_z-of_z}
use Rattle.std.specs.Option.{IfNone, IfSome}
use Rattle.tally_clock.specs.Days.{seconds_on}
use Rattle.tally_sessions.proofs.connect.CutChanges.{no_rest, one_change, one_rest, several_change}
use Rattle.tally_sessions.proofs.connect.DayChanges.{past_end}
use Rattle.tally_sessions.proofs.connect.Weights.{once}
use Rattle.tally_sessions.proofs.days.SpanLemmas.{span_on-le}
use Rattle.tally_sessions.specs.Days.{local}
use Rattle.tally_sessions.specs.inside.Changes.{change_at, change_on, day_at}
use Rattle.tally_sessions.specs.inside.Counts.{change_since, seconds_since, stand_for}
use Rattle.tally_sessions.specs.inside.Spans.{span_change, span_on}
use Rattle.tally_sessions.proofs.connect.day_sums.add_session.Goals as goal

abbrev held : ℤ → ℤ
held z = to_z w32 (of_z w32 z)

-- a table with one span more
record HasSpan (old new : List ℤ) (b e : ℤ) : Type 0 where
  all_days : length new ≡ 49717
  added : (place : ℕ) → place < 49717 → change_at new place ≡ change_at old place +ℤ span_change (day_at place) b e

has_span : (old new : List ℤ) (b e : ℤ) → length old ≡ 49717 → length new ≡ length old → ((place : ℕ) → place < 49717 → change_at new place ≡ change_at old place +ℤ pos 1 *ℤ span_change (day_at place) b e) → HasSpan old new b e
has_span old new b e long same added = record { all_days = same ∙ long; added = λ place lt. added place lt ∙ ap (λ (z : ℤ). change_at old place +ℤ z) (once (span_change (day_at place) b e)) }

-- it is small enough for one more
within : (old new : List ℤ) (b e : ℤ) → ((place : ℕ) → neg_ℤ (pos (2 ^ 61)) ≤ℤ change_at old place) → ((place : ℕ) → change_at old place ≤ℤ pos (2 ^ 61)) → HasSpan old new b e
    → (place : ℕ) → (neg_ℤ (pos (2 ^ 62)) ≤ℤ change_at new place) × (change_at new place ≤ℤ pos (2 ^ 62))
within old new b e low high h place = by (cases_lt place 49717)
  where
    by : (place < 49717) ⊎ (49717 ≤ place) → (neg_ℤ (pos (2 ^ 62)) ≤ℤ change_at new place) × (change_at new place ≤ℤ pos (2 ^ 62))
    by (inl lt) =
        let is = h.added place lt in
        let few = span_on-le (day_at place) b e in
        let few' = span_on-le (day_at place -ℤ pos 1) b e in
        (omega (arith, ints, is, few, few', low place), omega (arith, ints, is, few, few', high place))
    by (inr past) = let none = past_end new place h.all_days past in (omega (arith, ints, none), omega (arith, ints, none))

one_told : (t m t' s c d : ℤ) → m ≡ t +ℤ c → t' ≡ m +ℤ pos 0 → d ≡ c → t' +ℤ s ≡ (t +ℤ s) +ℤ d
one_told t m t' s c d is last same = omega (arith, ints)

several_told : (t m t' s s' c c' f l d : ℤ) → m ≡ t +ℤ c → t' ≡ m +ℤ c' → s' ≡ (s +ℤ f) -ℤ l → d +ℤ l ≡ (c +ℤ c') +ℤ f → t' +ℤ s' ≡ (t +ℤ s) +ℤ d
several_told t m t' s s' c c' f l d first last stands same = omega (arith, ints)

pub add_last-requires-clause-low : goal.add_last-requires-clause-low
add_last-requires-clause-low c place =
    (within c.args.table.now c.add_changes.new.table _ _ c.requires.low c.requires.high
    (has_span c.args.table.now c.add_changes.new.table c.of-cut.result.first.begin c.of-cut.result.first.end_time c.requires.all_days c.add_changes.auto.table c.add_changes.ensures) place).0

pub add_last-requires-clause-high : goal.add_last-requires-clause-high
add_last-requires-clause-high c place =
    (within c.args.table.now c.add_changes.new.table _ _ c.requires.low c.requires.high
    (has_span c.args.table.now c.add_changes.new.table c.of-cut.result.first.begin c.of-cut.result.first.end_time c.requires.all_days c.add_changes.auto.table c.add_changes.ensures) place).1

pub returns-in-None-clause-value : goal.returns-in-None-clause-value
returns-in-None-clause-value c place lt =
    let clock = local c.args.clock.now c.args.offset in
    let s = c.args.session.now in
    let first = c.of-cut.result.first in
    let offset = to_z-of_z w32 c.args.offset c.ranges.offset in
    let has = has_span c.args.table.now c.add_changes.new.table first.begin first.end_time c.requires.all_days c.add_changes.auto.table c.add_changes.ensures in
    let one = subst (λ o. IfNone o ((day : ℤ) → seconds_on (local c.args.clock.now (held c.args.offset)) day s.begin s.end_time ≡ span_on day first.begin first.end_time)) c.in-None.is c.of-cut.ensures.one in
    let same = subst (λ (z : ℤ). (day : ℤ) → seconds_on (local c.args.clock.now z) day s.begin s.end_time ≡ span_on day first.begin first.end_time) offset one in
    one_told (change_at c.args.table.now place) (change_at c.add_changes.new.table place) (change_at c.add_last.new.table place) (stand_for (change_at c.args.counts.now) (change_since clock c.args.clock.now.rows (day_at place)) (length c.args.clock.now.rows))
    (span_change (day_at place) first.begin first.end_time) (change_on clock (day_at place) s.begin s.end_time) (has.added place lt)
    (c.add_last.ensures place lt ∙ ap (λ (z : ℤ). change_at c.add_changes.new.table place +ℤ z) (no_rest (day_at place) c.of-cut.result.rest c.in-None.is)) (one_change clock s.begin s.end_time first.begin first.end_time same (day_at place))

pub returns-in-Some-clause-value : goal.returns-in-Some-clause-value
returns-in-Some-clause-value c place lt =
    let rows = c.args.clock.now.rows in
    let clock = local c.args.clock.now c.args.offset in
    let s = c.args.session.now in
    let first = c.of-cut.result.first in
    let rest = c.in-Some.rest in
    let last = rest.last in
    let x = change_since clock rows (day_at place) in
    let offset = to_z-of_z w32 c.args.offset c.ranges.offset in
    let has = has_span c.args.table.now c.add_changes.new.table first.begin first.end_time c.requires.all_days c.add_changes.auto.table c.add_changes.ensures in
    let several = subst (λ o. IfSome o (λ r. (day : ℤ) → seconds_on (local c.args.clock.now (held c.args.offset)) day s.begin s.end_time + seconds_since (local c.args.clock.now (held c.args.offset)) rows day r.to
    ≡ span_on day first.begin first.end_time + span_on day r.last.begin r.last.end_time + seconds_since (local c.args.clock.now (held c.args.offset)) rows day r.from)) c.in-Some.is c.of-cut.ensures.several in
    let same = subst (λ (z : ℤ). (day : ℤ) → seconds_on (local c.args.clock.now z) day s.begin s.end_time + seconds_since (local c.args.clock.now z) rows day rest.to
    ≡ span_on day first.begin first.end_time + span_on day last.begin last.end_time + seconds_since (local c.args.clock.now z) rows day rest.from) offset several in
    let counted = subst (λ (n : ℕ). stand_for (change_at c.count_rows.new.counts) x n ≡ (stand_for (change_at c.args.counts.now) x n +ℤ x rest.from) -ℤ x rest.to) c.requires.all_rows (c.count_rows.ensures.value x) in
    several_told (change_at c.args.table.now place) (change_at c.add_changes.new.table place) (change_at c.add_last.new.table place)
    (stand_for (change_at c.args.counts.now) x (length rows)) (stand_for (change_at c.count_rows.new.counts) x (length rows))
    (span_change (day_at place) first.begin first.end_time) (span_change (day_at place) last.begin last.end_time) (x rest.from) (x rest.to) (change_on clock (day_at place) s.begin s.end_time)
    (has.added place lt)
    (c.add_last.ensures place lt ∙ ap (λ (z : ℤ). change_at c.add_changes.new.table place +ℤ z) (one_rest (day_at place) c.of-cut.result.rest rest c.in-Some.is)) counted
    (several_change clock rows s.begin s.end_time first.begin first.end_time last.begin last.end_time rest.from rest.to same (day_at place))
