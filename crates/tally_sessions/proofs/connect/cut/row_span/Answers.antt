use Rattle.std.proofs.Common.{◌≡◌, ◌∙◌, ◌+◌, ◌^◌, ℕ, ℤ, pos, neg_ℤ, ◌≤ℤ◌, List, sym, ap, subst, arith, w32, w64, to_z, of_z}
use Rattle.std.proofs.lemmas.Int.{ints, to_z-of_z}
use Rattle.tally_clock.specs.Days.{seconds_on}
use Rattle.tally_clock.specs.Rows.{count_at}
use Rattle.tally_clock.specs.declared.row.Row.{Row}
use Rattle.tally_sessions.proofs.connect.CutLemmas.{count_at_start, since_next}
use Rattle.tally_sessions.specs.Days.{local}
use Rattle.tally_sessions.specs.inside.Counts.{seconds_since, start_of}
use Rattle.tally_sessions.proofs.connect.cut.row_span.Goals as goal

abbrev kept : ℤ → ℤ
kept z = to_z w64 (of_z w64 z)

start_is : (z : ℤ) (here rows : List Row) (row : ℕ) → neg_ℤ (pos (2 ^ 31)) ≤ℤ z → z ≤ℤ pos (2 ^ 31) → z ≡ start_of here row → here ≡ rows → kept z ≡ start_of rows row
start_is z here rows row low high is same = (let k : kept z ≡ z = omega (arith, ints) in k) ∙ is ∙ ap (λ (rs : List Row). start_of rs row) same

start_high : (z : ℤ) (here rows : List Row) (row : ℕ) → z ≤ℤ pos (2 ^ 31) → z ≡ start_of here row → here ≡ rows → start_of rows row ≤ℤ pos (2 ^ 31)
start_high z here rows row high is same = subst (λ (y : ℤ). y ≤ℤ pos (2 ^ 31)) (is ∙ ap (λ (rs : List Row). start_of rs row) same) high

pub span_in-requires-clause-count : goal.span_in-requires-clause-count
span_in-requires-clause-count c =
    let rows = c.args.clock.now.rows in
    let e = c.start_of-begin.ensures in
    sym (ap (count_at rows) (start_is c.start_of-begin.result _ rows c.args.row e.low e.high e.value c.rows-rows.ensures.value)
    ∙ count_at_start rows c.args.row c.rows-rows.ensures.rising c.requires.row_in)

pub returns : goal.returns
returns c day =
    let clock = c.args.clock.now in
    let rows = clock.rows in
    let b = c.start_of-begin.ensures in
    let e = c.start_of.ensures in
    let same = c.rows-rows.ensures.value in
    let begin = start_is c.start_of-begin.result _ rows c.args.row b.low b.high b.value same in
    let end_time = start_is c.start_of.result _ rows (c.args.row + 1) e.low e.high e.value same in
    let offset = to_z-of_z w32 c.args.offset c.ranges.offset in
    since_next (local clock c.args.offset) rows day c.args.row c.rows-rows.ensures.rising (start_high c.start_of-begin.result _ rows c.args.row b.high b.value same) (start_high c.start_of.result _ rows (c.args.row + 1) e.high e.value same)
    ∙ ap (λ (n : ℕ). n + seconds_since (local clock c.args.offset) rows day (c.args.row + 1))
    (sym (λ i. seconds_on (local clock (offset i)) day (begin i) (end_time i)) ∙ c.span_in.ensures day)
