use Rattle.std.proofs.Common.{◌≡◌, ◌∙◌, ◌+◌, ◌<◌, ◌^◌, ℕ, ℤ, Bool, true, false, cond, List, pos, neg_ℤ, ◌+ℤ◌, ◌-ℤ◌, ◌*ℤ◌, ◌≤ℤ◌, length, ap, subst, arith, to_z, of_z, w32}
use Rattle.std.proofs.lemmas.Int.{ints, to_z-of_z}
use Rattle.std.specs.Option.{IfNone, IfSome}
use Rattle.std.specs.Prelude.{bytes_eq}
use Rattle.tally_clock.specs.Days.{seconds_on}
use Rattle.tally_sessions.proofs.connect.CutChanges.{one_change, several_change}
use Rattle.tally_sessions.proofs.connect.UserCounts.{count_few}
use Rattle.tally_sessions.proofs.connect.Weights.{once}
use Rattle.tally_sessions.proofs.days.SpanLemmas.{span_on-le}
use Rattle.tally_sessions.specs.Days.{local}
use Rattle.tally_sessions.specs.declared.connect.keys.DayUser.{DayUser}
use Rattle.tally_sessions.specs.inside.Changes.{change_on, count_of, day_change}
use Rattle.tally_sessions.specs.inside.Counts.{change_since, seconds_since, stand_for}
use Rattle.tally_sessions.specs.inside.Spans.{span_change, span_on}
use Rattle.tally_sessions.proofs.connect.day_user_rows.add_session.Goals as goal

abbrev held : ℤ → ℤ
held z = to_z w32 (of_z w32 z)

-- changes with one span more
abbrev HasSpan : List (DayUser × ℤ) → List (DayUser × ℤ) → List ℕ → ℤ → ℤ → Type 0
HasSpan old new user b e = (k : DayUser) → day_change new k ≡ day_change old k +ℤ cond (bytes_eq user k.user) (span_change k.day b e) (pos 0)

has_span : (old new : List (DayUser × ℤ)) (key user : List ℕ) (b e : ℤ) → key ≡ user → ((k : DayUser) → day_change new k ≡ day_change old k +ℤ cond (bytes_eq key k.user) (pos 1 *ℤ span_change k.day b e) (pos 0)) → HasSpan old new user b e
has_span old new key user b e is added k =
    added k ∙ (λ i. day_change old k +ℤ cond (bytes_eq (is i) k.user) (once (span_change k.day b e) i) (pos 0))

-- they are small enough for one more
within : (old new day : ℤ) (p : Bool) (b e : ℤ) → neg_ℤ (pos (2 ^ 60)) ≤ℤ old → old ≤ℤ pos (2 ^ 60) → new ≡ old +ℤ cond p (span_change day b e) (pos 0) → (neg_ℤ (pos (2 ^ 61)) ≤ℤ new) × (new ≤ℤ pos (2 ^ 61))
within old new day true b e low high is =
    let few = span_on-le day b e in
    let few' = span_on-le (day -ℤ pos 1) b e in
    (omega (arith, ints, is, few, few', low), omega (arith, ints, is, few, few', high))
within old new day false b e low high is = (omega (arith, ints), omega (arith, ints))

pub add_changes-requires-in-Some-clause-low : goal.add_changes-requires-in-Some-clause-low
add_changes-requires-in-Some-clause-low c k =
    let first = c.of-cut.result.first in
    (within (day_change c.args.changes.now.entries k) (day_change c.add_changes.new.changes.entries k) k.day (bytes_eq c.args.session.now.user k.user) first.begin first.end_time (c.requires.low k) (c.requires.high k)
    (has_span c.args.changes.now.entries c.add_changes.new.changes.entries c.of-user.result c.args.session.now.user first.begin first.end_time c.of-user.ensures c.in_ok-add_changes.ensures k)).0

pub add_changes-requires-in-Some-clause-high : goal.add_changes-requires-in-Some-clause-high
add_changes-requires-in-Some-clause-high c k =
    let first = c.of-cut.result.first in
    (within (day_change c.args.changes.now.entries k) (day_change c.add_changes.new.changes.entries k) k.day (bytes_eq c.args.session.now.user k.user) first.begin first.end_time (c.requires.low k) (c.requires.high k)
    (has_span c.args.changes.now.entries c.add_changes.new.changes.entries c.of-user.result c.args.session.now.user first.begin first.end_time c.of-user.ensures c.in_ok-add_changes.ensures k)).1

pub count_rows-requires : goal.count_rows-requires
count_rows-requires c = record {
  few = λ row. let few = count_few c.args.counts.now.entries c.of-user.result (length c.args.clock.now.rows) 33554432 c.requires.within (c.requires.small c.of-user.result) row in omega (arith, few);
}

one_told : (t t' s c d : ℤ) (p : Bool) → t' ≡ t +ℤ cond p c (pos 0) → d ≡ c → t' +ℤ s ≡ (t +ℤ s) +ℤ cond p d (pos 0)
one_told t t' s c d true is same = omega (arith, ints)
one_told t t' s c d false is same = omega (arith, ints)

pub returns-in-None-clause-value : goal.returns-in-None-clause-value
returns-in-None-clause-value c k =
    let rows = c.args.clock.now.rows in
    let clock = local c.args.clock.now c.args.offset in
    let s = c.args.session.now in
    let first = c.of-cut.result.first in
    let offset = to_z-of_z w32 c.args.offset c.ranges.offset in
    let has = has_span c.args.changes.now.entries c.add_changes.new.changes.entries c.of-user.result s.user first.begin first.end_time c.of-user.ensures c.in_ok-add_changes.ensures in
    let one = subst (λ o. IfNone o ((day : ℤ) → seconds_on (local c.args.clock.now (held c.args.offset)) day s.begin s.end_time ≡ span_on day first.begin first.end_time)) c.in-None.is c.of-cut.ensures.one in
    let same = subst (λ (z : ℤ). (day : ℤ) → seconds_on (local c.args.clock.now z) day s.begin s.end_time ≡ span_on day first.begin first.end_time) offset one in
    one_told (day_change c.args.changes.now.entries k) (day_change c.add_changes.new.changes.entries k) (stand_for (count_of c.args.counts.now.entries k.user) (change_since clock rows k.day) (length rows))
    (span_change k.day first.begin first.end_time) (change_on clock k.day s.begin s.end_time) (bytes_eq s.user k.user) (has k) (one_change clock s.begin s.end_time first.begin first.end_time same k.day)

several_told : (t m t' s s' c c' f l d : ℤ) (p : Bool) → m ≡ t +ℤ cond p c (pos 0) → t' ≡ m +ℤ cond p c' (pos 0) → s' ≡ s +ℤ cond p (f -ℤ l) (pos 0) → d +ℤ l ≡ (c +ℤ c') +ℤ f → t' +ℤ s' ≡ (t +ℤ s) +ℤ cond p d (pos 0)
several_told t m t' s s' c c' f l d true first last stands same = omega (arith, ints)
several_told t m t' s s' c c' f l d false first last stands same = omega (arith, ints)

pub returns-in_ok-count_rows-in-Some-clause-value : goal.returns-in_ok-count_rows-in-Some-clause-value
returns-in_ok-count_rows-in-Some-clause-value c k =
    let rows = c.args.clock.now.rows in
    let clock = local c.args.clock.now c.args.offset in
    let s = c.args.session.now in
    let first = c.of-cut.result.first in
    let rest = c.in-Some.rest in
    let last = rest.last in
    let x = change_since clock rows k.day in
    let offset = to_z-of_z w32 c.args.offset c.ranges.offset in
    let old = c.args.changes.now.entries in
    let mid = c.add_changes.new.changes.entries in
    let new = c.add_changes-in-Some.new.changes.entries in
    let has = has_span old mid c.of-user.result s.user first.begin first.end_time c.of-user.ensures c.in_ok-add_changes.ensures in
    let has_last = has_span mid new c.of-user.result s.user last.begin last.end_time c.of-user.ensures c.in_ok-add_changes-in-Some.ensures in
    let several = subst (λ o. IfSome o (λ r. (day : ℤ) → seconds_on (local c.args.clock.now (held c.args.offset)) day s.begin s.end_time + seconds_since (local c.args.clock.now (held c.args.offset)) rows day r.to
    ≡ span_on day first.begin first.end_time + span_on day r.last.begin r.last.end_time + seconds_since (local c.args.clock.now (held c.args.offset)) rows day r.from)) c.in-Some.is c.of-cut.ensures.several in
    let same = subst (λ (z : ℤ). (day : ℤ) → seconds_on (local c.args.clock.now z) day s.begin s.end_time + seconds_since (local c.args.clock.now z) rows day rest.to
    ≡ span_on day first.begin first.end_time + span_on day last.begin last.end_time + seconds_since (local c.args.clock.now z) rows day rest.from) offset several in
    let from_in = subst (λ o. IfSome o (λ r. r.from < length rows)) c.in-Some.is c.of-cut.ensures.from_in in
    let to_in = subst (λ o. IfSome o (λ r. r.to < length rows)) c.in-Some.is c.of-cut.ensures.to_in in
    let counted = c.in_ok-count_rows-in-Some.ensures.value x k.user (length rows) from_in to_in
    ∙ ap (λ u. stand_for (count_of c.args.counts.now.entries k.user) x (length rows) +ℤ cond (bytes_eq u k.user) (x rest.from -ℤ x rest.to) (pos 0)) c.of-user.ensures in
    several_told (day_change old k) (day_change mid k) (day_change new k)
    (stand_for (count_of c.args.counts.now.entries k.user) x (length rows)) (stand_for (count_of c.count_rows.new.counts.entries k.user) x (length rows))
    (span_change k.day first.begin first.end_time) (span_change k.day last.begin last.end_time) (x rest.from) (x rest.to) (change_on clock k.day s.begin s.end_time) (bytes_eq s.user k.user)
    (has k) (has_last k) counted
    (several_change clock rows s.begin s.end_time first.begin first.end_time last.begin last.end_time rest.from rest.to same k.day)

pub returns-in_ok-count_rows-in-Some-clause-within : goal.returns-in_ok-count_rows-in-Some-clause-within
returns-in_ok-count_rows-in-Some-clause-within c =
    let rows = c.args.clock.now.rows in
    let from_in = subst (λ o. IfSome o (λ r. r.from < length rows)) c.in-Some.is c.of-cut.ensures.from_in in
    let to_in = subst (λ o. IfSome o (λ r. r.to < length rows)) c.in-Some.is c.of-cut.ensures.to_in in
    c.in_ok-count_rows-in-Some.ensures.within (length rows) from_in to_in c.requires.within
