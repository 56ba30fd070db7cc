use Rattle.std.proofs.Common.{◌≡◌, ◌∙◌, ◌+◌, ◌*◌, ◌<◌, ◌≤◌, ◌^◌, ℕ, ℤ, Bool, true, false, refl, pos, ◌+ℤ◌, ◌≤ℤ◌, FitsSigned, get_or, sym, ap, subst, arith, rules, to_z, of_z, w32, w64}
use Rattle.std.proofs.lemmas.Int.{ints, to_z-of_z}
use Rattle.std.specs.Prelude.{int_lt, unsigned_abs}
use Rattle.tally_sessions.specs.Days.{IsDay}
use Rattle.tally_sessions.specs.inside.Spans.{span_day, span_on}
use Rattle.tally_sessions.proofs.connect.Cells.{IsAdded, added_end, added_start, added_step}
use Rattle.tally_sessions.proofs.days.SpanLemmas.{above, strictly, none_on_earlier, none_on_later}
use Rattle.tally_sessions.proofs.connect.day_table.add_span.Goals as goal

abbrev held : ℤ → ℤ
held z = to_z w32 (of_z w32 z)

abbrev kept : ℤ → ℤ
kept z = to_z w64 (of_z w64 z)

time_is : (t : ℤ) → FitsSigned w64 t → kept t ≡ t
time_is t fits = omega (arith, ints)

held_day : (d : ℤ) → IsDay d → held d ≡ d
held_day d is = let low = is.low in let high = is.high in omega (arith, ints)

-- the day at a place before the span's first is an earlier one
before_span : (f d : ℤ) (n p : ℕ) → IsDay f → IsDay d → int_lt (held d) (held f) ≡ false → (held f ≤ℤ held d → held f +ℤ pos n ≡ held d) → p < n → (f +ℤ pos p +ℤ pos 1) ≤ℤ d
before_span f d n p f-is d-is test up lt =
    let same = held_day f f-is in
    let same' = held_day d d-is in
    let place = up (above (held d) (held f) test) in
    omega (arith, ints, same, same', place, lt)

-- and that at a place past its last is a later one
after_span : (f d : ℤ) (n p : ℕ) → IsDay f → IsDay d → (held f ≤ℤ held (held d +ℤ pos 1) → held f +ℤ pos n ≡ held (held d +ℤ pos 1)) → n ≤ p → (d +ℤ pos 1) ≤ℤ (f +ℤ pos p)
after_span f d n p f-is d-is up le = by (int_lt (held (held d +ℤ pos 1)) (held f)) refl
  where
    same : held f ≡ f
    same = held_day f f-is

    next : held (held d +ℤ pos 1) ≡ d +ℤ pos 1
    next = let low = d-is.low in let high = d-is.high in omega (arith, ints, low, high)

    by : (b : Bool) → int_lt (held (held d +ℤ pos 1)) (held f) ≡ b → (d +ℤ pos 1) ≤ℤ (f +ℤ pos p)
    by true e = let lt = strictly (held (held d +ℤ pos 1)) (held f) e in omega (arith, ints, same, next, lt)
    by false e = let is = up (above (held (held d +ℤ pos 1)) (held f) e) in omega (arith, ints, same, next, is, le)

small : (x y n m : ℕ) (z : ℤ) → x ≡ y → y ≤ 2 ^ 60 → z ≡ pos n → pos 0 ≤ℤ z → z ≤ℤ pos 86400 → x + unsigned_abs (kept z) < 2 ^ 64
small x y n m z is few same low high = omega (arith, ints, is, few, same, low, high)

added : (x n : ℕ) (z : ℤ) → z ≡ pos n → pos 0 ≤ℤ z → z ≤ℤ pos 86400 → x + unsigned_abs (kept z) ≡ x + n
added x n z same low high = omega (arith, ints, same, low, high)

pub loop-place-init : goal.loop-place-init
loop-place-init c =
    let begin : kept c.args.span.now.begin ≡ c.args.span.now.begin = time_is c.args.span.now.begin (search rules) in
    let first : c.day_of-first.result ≡ span_day c.args.span.now.begin = c.day_of-first.ensures.value ∙ ap span_day begin in
    added_start _ _ _ _ _ (λ p lt. none_on_earlier _ _ _
    (subst (λ (z : ℤ). (c.args.column.first +ℤ pos p +ℤ pos 1) ≤ℤ z) first
    (before_span c.args.column.first c.day_of-first.result c.days_between-from.result p c.requires.first_in c.day_of-first.ensures.range c.if-first-column.false c.days_between-from.ensures.up lt)))

pub add_at-requires : goal.add_at-requires
add_at-requires c =
    let e = c.seconds_on-seconds.ensures in
    small _ _ _ 0 c.seconds_on-seconds.result (c.loop-place.invariant.rest c.loop-place.place c.args.column.rank c.requires.rank_in (omega arith)) (c.requires.few c.loop-place.place) e.value e.low e.high

pub loop-place-preserved : goal.loop-place-preserved
loop-place-preserved c =
    let e = c.seconds_on-seconds.ensures in
    let first = c.args.column.first in
    let place = c.loop-place.place in
    let at = place * c.args.column.width + c.args.column.rank in
    let b = c.args.span.now.begin in
    let t = c.args.span.now.end_time in
    let day : held c.day_at.result ≡ first +ℤ pos place = to_z-of_z w32 c.day_at.result (search rules) ∙ c.day_at.ensures ∙ ap (λ (z : ℤ). z +ℤ pos place) (held_day first c.requires.first_in) in
    let more = added (get_or c.loop-place.cells at 0) _ c.seconds_on-seconds.result (e.value ∙ ap (λ (z : ℤ). pos (span_on z b t)) day) e.low e.high in
    subst (λ now. IsAdded (λ (p : ℕ). span_on (first +ℤ pos p) b t) c.args.column.width c.args.column.rank c.args.cells.now now (place + 1)) (sym (c.if-not-add_at.ensures.set refl))
    (added_step (λ (p : ℕ). span_on (first +ℤ pos p) b t) c.args.column.width c.args.column.rank c.args.cells.now c.loop-place.cells place _ c.requires.rank_in
    (c.if-not-add_at.ensures.within refl) c.loop-place.invariant more)

pub returns-clause-cells : goal.returns-clause-cells
returns-clause-cells c done =
    let end_time : kept c.args.span.now.end_time ≡ c.args.span.now.end_time = time_is c.args.span.now.end_time (search rules) in
    let last : c.day_of.result ≡ span_day c.args.span.now.end_time = c.day_of.ensures.value ∙ ap span_day end_time in
    added_end _ _ _ _ _ _ c.loop-place.invariant (λ p le. none_on_later _ _ _
    (subst (λ (z : ℤ). (z +ℤ pos 1) ≤ℤ (c.args.column.first +ℤ pos p)) last
    (after_span c.args.column.first c.day_of.result c.days_between-to.result p c.requires.first_in c.day_of.ensures.range c.days_between-to.ensures.up (omega (arith, le, c.loop-place-test.false)))))

earlier : (f d day : ℤ) → IsDay f → IsDay d → int_lt (held d) (held f) ≡ false → (day +ℤ pos 1) ≤ℤ f → (day +ℤ pos 1) ≤ℤ d
earlier f d day f-is d-is test le =
    let same = held_day f f-is in
    let same' = held_day d d-is in
    let up = above (held d) (held f) test in
    omega (arith, ints, same, same', up, le)

pub returns-clause-from_first : goal.returns-clause-from_first
returns-clause-from_first c done day le =
    let begin : kept c.args.span.now.begin ≡ c.args.span.now.begin = time_is c.args.span.now.begin (search rules) in
    let first : c.day_of-first.result ≡ span_day c.args.span.now.begin = c.day_of-first.ensures.value ∙ ap span_day begin in
    none_on_earlier _ _ _ (subst (λ (z : ℤ). (day +ℤ pos 1) ≤ℤ z) first (earlier c.args.column.first c.day_of-first.result day c.requires.first_in c.day_of-first.ensures.range c.if-first-column.false le))
