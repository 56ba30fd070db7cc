use Rattle.std.proofs.Common.{◌≡◌, ◌∙◌, ◌+◌, ◌≤◌, ◌^◌, ℕ, ℤ, Bool, true, false, cond, eqb, refl, pos, ◌+ℤ◌, List, Option, Some, sym, ap, subst, arith, to_z, of_z, w32}
use Rattle.std.proofs.lemmas.Int.{to_z-of_z}
use Rattle.std.specs.Option.{IfNone, IfSome}
use Rattle.tally_clock.specs.Days.{seconds_on}
use Rattle.tally_clock.specs.declared.row.Row.{Row}
use Rattle.tally_sessions.specs.declared.connect.cut.Rest.{Rest}
use Rattle.tally_sessions.specs.declared.connect.span.Span.{Span}
use Rattle.tally_sessions.proofs.days.SpanLemmas.{span_on-le}
use Rattle.tally_sessions.specs.Days.{local}
use Rattle.tally_sessions.specs.inside.Counts.{seconds_since}
use Rattle.tally_sessions.specs.inside.Spans.{span_on}
use Rattle.tally_sessions.specs.inside.Tables.{cell_at}
use Rattle.tally_sessions.proofs.connect.day_table.add_session.Goals as goal

abbrev held : ℤ → ℤ
held z = to_z w32 (of_z w32 z)

few_more : (x y n : ℕ) (b : Bool) → x ≡ y + cond b n 0 → y ≤ 2 ^ 50 → n ≤ 86400 → x ≤ 2 ^ 60
few_more x y n true is few small = omega (arith, is, few, small)
few_more x y n false is few small = omega (arith, is, few)

pub add_span-requires-then-rest-clause-few : goal.add_span-requires-then-rest-clause-few
add_span-requires-then-rest-clause-few c place =
    let first = c.of-cut.result.first in
    few_more _ _ _ _ (c.if-not-add_span.ensures.cells refl place c.args.column.rank c.requires.rank_in) (c.requires.few place) (span_on-le (c.args.column.first +ℤ pos place) first.begin first.end_time)

pub returns-in-None-clause-cells : goal.returns-in-None-clause-cells
returns-in-None-clause-cells c done place rank lt =
    let s = c.args.session.now in
    let first = c.of-cut.result.first in
    let offset = to_z-of_z w32 c.args.offset c.ranges.offset in
    let one = subst (λ o. IfNone o ((day : ℤ) → seconds_on (local c.args.clock.now (held c.args.offset)) day s.begin s.end_time ≡ span_on day first.begin first.end_time)) c.in-None.is c.of-cut.ensures.one in
    let same = subst (λ (z : ℤ). (day : ℤ) → seconds_on (local c.args.clock.now z) day s.begin s.end_time ≡ span_on day first.begin first.end_time) offset one in
    c.if-not-add_span.ensures.cells refl place rank lt
    ∙ ap (λ (n : ℕ). cell_at c.args.cells.now c.args.column.width place rank + cond (eqb rank c.args.column.rank) n 0) (sym (same (c.args.column.first +ℤ pos place)))

-- a session that has no row whole
whole : (s f l from to : ℕ) → s + to ≡ f + l + from → from ≡ to → s ≡ f + l
whole s f l from to is same = omega (arith, is, same)

two_more : (new mid old f l s : ℕ) (b : Bool) → mid ≡ old + cond b f 0 → new ≡ mid + cond b l 0 → s ≡ f + l → new ≡ old + cond b s 0
two_more new mid old f l s true one two is = omega (arith, one, two, is)
two_more new mid old f l s false one two is = omega (arith, one, two)

-- the seconds of a session in the row in which it begins and in that in which it ends are all that it has
parts : (clock : ℤ → ℤ → ℤ) (rows : List Row) (b e : ℤ) (first : Span) (found : Option Rest) (rest : Rest) (z offset : ℤ) → z ≡ offset
    → IfSome found (λ r. (d : ℤ) → seconds_on (clock z) d b e + seconds_since (clock z) rows d r.to ≡ span_on d first.begin first.end_time + span_on d r.last.begin r.last.end_time + seconds_since (clock z) rows d r.from)
    → found ≡ Some rest → rest.from ≡ rest.to → (day : ℤ) → seconds_on (clock offset) day b e ≡ span_on day first.begin first.end_time + span_on day rest.last.begin rest.last.end_time
parts clock rows b e first found rest z offset is several some none day =
    let at = subst (λ o. IfSome o (λ r. (d : ℤ) → seconds_on (clock z) d b e + seconds_since (clock z) rows d r.to ≡ span_on d first.begin first.end_time + span_on d r.last.begin r.last.end_time + seconds_since (clock z) rows d r.from)) some several in
    ap (λ (w : ℤ). seconds_on (clock w) day b e) (sym is) ∙ whole _ _ _ _ _ (at day) (ap (seconds_since (clock z) rows day) none)

pub returns-then-rest-clause-cells : goal.returns-then-rest-clause-cells
returns-then-rest-clause-cells c done place rank lt =
    two_more _ _ _ _ _ _ (eqb rank c.args.column.rank) (c.if-not-add_span.ensures.cells refl place rank lt) (c.add_span-then-rest.ensures.cells done place rank lt)
    (parts (local c.args.clock.now) c.args.clock.now.rows c.args.session.now.begin c.args.session.now.end_time c.of-cut.result.first c.of-cut.result.rest c.in-Some.rest (held c.args.offset) c.args.offset
    (to_z-of_z w32 c.args.offset c.ranges.offset) c.of-cut.ensures.several c.in-Some.is c.if-rest.true (c.args.column.first +ℤ pos place))

none_of : (s f l : ℕ) → s ≡ f + l → f ≡ 0 → l ≡ 0 → s ≡ 0
none_of s f l is none none' = omega (arith, is, none, none')

pub returns-then-rest-clause-from_first : goal.returns-then-rest-clause-from_first
returns-then-rest-clause-from_first c done day le =
    none_of _ _ _
    (parts (local c.args.clock.now) c.args.clock.now.rows c.args.session.now.begin c.args.session.now.end_time c.of-cut.result.first c.of-cut.result.rest c.in-Some.rest (held c.args.offset) c.args.offset
    (to_z-of_z w32 c.args.offset c.ranges.offset) c.of-cut.ensures.several c.in-Some.is c.if-rest.true day)
    (c.if-not-add_span.ensures.from_first refl day le) (c.add_span-then-rest.ensures.from_first done day le)
