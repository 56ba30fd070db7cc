use Rattle.std.proofs.Common.{◌≡◌, ◌∙◌, ◌+◌, ◌<◌, ◌≤◌, ◌^◌, ℕ, ℤ, pos, neg_ℤ, ◌≤ℤ◌, FitsSigned, List, length, sym, ap, subst, arith, rules, w32, w64, to_z, of_z}
use Rattle.std.proofs.lemmas.Int.{ints, to_z-of_z}
use Rattle.tally_clock.specs.Days.{seconds_on}
use Rattle.tally_clock.specs.Rows.{count_at, IsRising}
use Rattle.tally_clock.specs.declared.row.Row.{Row}
use Rattle.tally_sessions.proofs.connect.CutLemmas.{after_begun, before_later, count_at_start, over_rows}
use Rattle.tally_sessions.proofs.days.ClockDays.{day_is_one, near_local}
use Rattle.tally_sessions.specs.Days.{local}
use Rattle.tally_sessions.specs.inside.Counts.{seconds_since, start_of}
use Rattle.tally_sessions.proofs.connect.cut.Cut.of.Goals as goal

abbrev held : ℤ → ℤ
held z = to_z w32 (of_z w32 z)

abbrev kept : ℤ → ℤ
kept z = to_z w64 (of_z w64 z)

time_is : (z t : ℤ) → FitsSigned w32 t → z ≡ held t → kept z ≡ t
time_is z t fits is = omega (arith, ints)

time_high : (t : ℤ) → FitsSigned w32 t → t ≤ℤ pos (2 ^ 31)
time_high t fits = omega (arith, ints)

time_low : (t : ℤ) → FitsSigned w32 t → neg_ℤ (pos (2 ^ 31)) ≤ℤ t
time_low t fits = omega (arith, ints)

start_is : (z : ℤ) (here rows : List Row) (row : ℕ) → neg_ℤ (pos (2 ^ 31)) ≤ℤ z → z ≤ℤ pos (2 ^ 31) → z ≡ start_of here row → here ≡ rows → kept z ≡ start_of rows row
start_is z here rows row low high is same = (let k : kept z ≡ z = omega (arith, ints) in k) ∙ is ∙ ap (λ (rs : List Row). start_of rs row) same

-- how many rows have begun at a time
count_is : (n : ℕ) (rows : List Row) (t : ℤ) → FitsSigned w32 t → n ≡ count_at rows (held t) → n ≡ count_at rows t
count_is n rows t fits is = is ∙ ap (count_at rows) (to_z-of_z w32 t fits)

pub span_in-requires-in-Some-clause-count : goal.span_in-requires-in-Some-clause-count
span_in-requires-in-Some-clause-count c =
    let rows = c.args.clock.now.rows in
    let e = c.start_of-in-Some.ensures in
    let row = c.in-Some.ensures in
    let within : c.in-Some.last < length rows = omega (arith, row.0, c.count_at-to.ensures.bound) in
    sym (ap (count_at rows) (start_is c.start_of-in-Some.result _ rows c.in-Some.last e.low e.high e.value c.rows-rows.ensures.value)
    ∙ count_at_start rows c.in-Some.last c.rows-rows.ensures.rising within ∙ row.0)

up_to : (e : ℤ) (z : ℤ) (rows : List Row) (count row : ℕ) → FitsSigned w32 e → z ≡ held e → count ≡ count_at rows (held e) → IsRising rows → count ≤ row → kept z ≤ℤ start_of rows row
up_to e z rows count row fits is at up le =
    subst (λ (y : ℤ). y ≤ℤ start_of rows row) (sym (time_is z e fits is))
    (before_later rows e row up (subst (λ (n : ℕ). n ≤ row) (count_is count rows e fits at) le) (time_high e fits))

pub span_in-requires-in-Some-clause-up_to_next : goal.span_in-requires-in-Some-clause-up_to_next
span_in-requires-in-Some-clause-up_to_next c =
    let fits : FitsSigned w32 c.args.session.now.end_time = search rules in
    up_to c.args.session.now.end_time c.from-end_time.result c.args.clock.now.rows c.count_at-to.result c.count_at-to.result fits c.from-end_time.ensures c.count_at-to.ensures.value c.rows-rows.ensures.rising (omega arith)

pub span_in-requires-in-None-clause-up_to_next : goal.span_in-requires-in-None-clause-up_to_next
span_in-requires-in-None-clause-up_to_next c =
    let fits : FitsSigned w32 c.args.session.now.end_time = search rules in
    up_to c.args.session.now.end_time c.from-end_time.result c.args.clock.now.rows c.count_at-to.result c.count_at-from.result fits c.from-end_time.ensures c.count_at-to.ensures.value c.rows-rows.ensures.rising c.in-None.ensures

pub returns-in-Some-clause-several : goal.returns-in-Some-clause-several
returns-in-Some-clause-several c day =
    let clock = c.args.clock.now in
    let rows = clock.rows in
    let s = c.args.session.now in
    let from = c.count_at-from.result in
    let last = c.in-Some.last in
    let row = c.in-Some.ensures in
    let up = c.rows-rows.ensures.rising in
    let same = c.rows-rows.ensures.value in
    let b_fits : FitsSigned w32 s.begin = search rules in
    let e_fits : FitsSigned w32 s.end_time = search rules in
    let f = c.start_of.ensures in
    let l = c.start_of-in-Some.ensures in
    let first_start = start_is c.start_of.result _ rows from f.low f.high f.value same in
    let last_start = start_is c.start_of-in-Some.result _ rows last l.low l.high l.value same in
    let from_is = count_is from rows s.begin b_fits c.count_at-from.ensures.value in
    let to_is = count_is c.count_at-to.result rows s.end_time e_fits c.count_at-to.ensures.value in
    let offset = to_z-of_z w32 c.args.offset c.ranges.offset in
    let begin = time_is c.from-begin.result s.begin b_fits c.from-begin.ensures in
    let end_time = time_is c.from-end_time.result s.end_time e_fits c.from-end_time.ensures in
    let high : start_of rows from ≤ℤ pos (2 ^ 31) = subst (λ (z : ℤ). z ≤ℤ pos (2 ^ 31)) (f.value ∙ ap (λ (rs : List Row). start_of rs from) same) f.high in
    over_rows (local clock c.args.offset) rows day s.begin s.end_time from last up
    (before_later rows s.begin from up (subst (λ (n : ℕ). n ≤ from) from_is (omega arith)) (time_high s.begin b_fits))
    row.1 high
    (after_begun rows s.end_time last (subst (λ (n : ℕ). last < n) to_is (omega (arith, row.0))))
    (time_high s.end_time e_fits)
    ∙ (λ i. (sym (λ j. seconds_on (local clock (offset j)) day (begin j) (first_start j)) ∙ c.span_in.ensures day) i
    + (sym (λ j. seconds_on (local clock (offset j)) day (last_start j) (end_time j)) ∙ c.span_in-in-Some.ensures day) i
    + seconds_since (local clock c.args.offset) rows day from)

pub returns-in-Some-clause-days : goal.returns-in-Some-clause-days
returns-in-Some-clause-days c day lt =
    let s = c.args.session.now in
    let b_fits : FitsSigned w32 s.begin = search rules in
    let e_fits : FitsSigned w32 s.end_time = search rules in
    day_is_one (local c.args.clock.now c.args.offset) day s.begin s.end_time (near_local c.args.clock.now c.args.offset c.requires) (time_low s.begin b_fits) (time_high s.end_time e_fits) lt

pub returns-in-None-clause-days : goal.returns-in-None-clause-days
returns-in-None-clause-days c day lt =
    let s = c.args.session.now in
    let b_fits : FitsSigned w32 s.begin = search rules in
    let e_fits : FitsSigned w32 s.end_time = search rules in
    day_is_one (local c.args.clock.now c.args.offset) day s.begin s.end_time (near_local c.args.clock.now c.args.offset c.requires) (time_low s.begin b_fits) (time_high s.end_time e_fits) lt
