-- Stays cut where the offset of a clock changes.
use Rattle.std.proofs.Common.{◌≡◌, ◌∙◌, ℕ, ◌+◌, ◌<◌, ◌≤◌, ◌^◌, ℤ, pos, ◌+ℤ◌, ◌-ℤ◌, ◌*ℤ◌, ◌≤ℤ◌, ◌<ℤ◌, inl, inr, List, length, sym, ap, subst, arith}
use Rattle.std.proofs.lemmas.Bool.{cases_lt}
use Rattle.std.proofs.lemmas.Int.{ints, clamps}
use Rattle.std.proofs.Math.ListN.{get_or-eq_default}
use Rattle.std.specs.Int.{int_max, int_min}
use Rattle.tally_clock.proofs.DayLemmas.{days_of_one_offset, parts_add_up}
use Rattle.tally_clock.proofs.RowLemmas.{count_fits, count_is, in_list, passed, rises, stopped}
use Rattle.tally_clock.specs.Days.{seconds_between, seconds_from, seconds_on}
use Rattle.tally_clock.specs.Days as clocks
use Rattle.tally_clock.specs.Rows.{ClockRows, IsRising, count_at, no_row, offset_after, row_at}
use Rattle.tally_clock.specs.declared.row.Row.{Row}
use Rattle.tally_sessions.specs.Days.{local}
use Rattle.tally_sessions.specs.inside.Counts.{change_since, row_after_all, seconds_since, start_of}
use Rattle.tally_sessions.specs.inside.Spans.{day_start, span_change, span_on}

max_moved : (b s o : ℤ) → int_max (b +ℤ o) s ≡ int_max b (s -ℤ o) +ℤ o
max_moved b s o = grind (arith, ints, clamps)

min_moved : (e t o : ℤ) → int_min (e +ℤ o) t ≡ int_min e (t -ℤ o) +ℤ o
min_moved e t o = grind (arith, ints, clamps)

between_moved : (x y o : ℤ) → seconds_between x y ≡ seconds_between (x +ℤ o) (y +ℤ o)
between_moved x y o = let same : y -ℤ x ≡ (y +ℤ o) -ℤ (x +ℤ o) = omega (arith, ints) in rw same

-- while a clock stays at one offset, its days are those of local seconds
pub one_span : (clock : ℤ → ℤ) (o day b e : ℤ) → ((time : ℤ) → b ≤ℤ time → time <ℤ e → clock time ≡ o) → seconds_on clock day b e ≡ span_on day (b +ℤ o) (e +ℤ o)
unfolding span_on
one_span clock o day b e stays =
    days_of_one_offset clock o day b e stays
    ∙ between_moved (int_max b (clocks.day_start o day)) (int_min e (clocks.day_start o (day +ℤ pos 1))) o
    ∙ (λ i. seconds_between (sym (max_moved b (day_start day) o) i) (sym (min_moved e (day_start (day +ℤ pos 1)) o) i))

-- the start of a row of the clock
pub start_in : (rows : List Row) (row : ℕ) → row < length rows → start_of rows row ≡ (row_at rows row).from
start_in rows row within = ap (λ (r : Row). r.from) (in_list rows row row_after_all no_row within)

-- and past the last
pub start_past : (rows : List Row) (row : ℕ) → length rows ≤ row → start_of rows row ≡ pos (2 ^ 31)
start_past rows row past = ap (λ (r : Row). r.from) (get_or-eq_default rows row_after_all past)

-- no row begins up to the next start
pub count_keeps : (rows : List Row) (b t : ℤ) → b ≤ℤ t → t <ℤ start_of rows (count_at rows b) → count_at rows t ≡ count_at rows b
count_keeps rows b t from to =
    count_is rows t (count_at rows b) (count_fits rows b) (λ i l. let below = passed rows b i l in omega (arith, ints))
    (λ l. subst (λ (z : ℤ). t <ℤ z) (start_in rows (count_at rows b) l) to)

-- at the start of a row it and those before it have begun
pub count_at_start : (rows : List Row) (row : ℕ) → IsRising rows → row < length rows → count_at rows (start_of rows row) ≡ row + 1
count_at_start rows row up within =
    count_is rows (start_of rows row) (row + 1) (omega arith)
    (λ i l. subst (λ (z : ℤ). (row_at rows i).from ≤ℤ z) (sym (start_in rows row within)) (rises rows up i row (omega arith) within))
    (λ l. subst (λ (z : ℤ). z <ℤ (row_at rows (row + 1)).from) (sym (start_in rows row within)) (up row l))

-- the seconds of a stay that lies in one row
pub in_row : (clock : ClockRows) (offset b e : ℤ) (count : ℕ) → count ≡ count_at clock.rows b → e ≤ℤ start_of clock.rows count
    → (day : ℤ) → seconds_on (local clock offset) day b e ≡ span_on day (b +ℤ ((offset_after clock.first clock.rows count).seconds +ℤ pos 60 *ℤ offset)) (e +ℤ ((offset_after clock.first clock.rows count).seconds +ℤ pos 60 *ℤ offset))
in_row clock offset b e count is up_to day = one_span (local clock offset) ((offset_after clock.first clock.rows count).seconds +ℤ pos 60 *ℤ offset) day b e stays
  where
    same : (time : ℤ) → b ≤ℤ time → time <ℤ e → count_at clock.rows time ≡ count
    same time from to =
        let start : start_of clock.rows count ≡ start_of clock.rows (count_at clock.rows b) = ap (start_of clock.rows) is in
        count_keeps clock.rows b time from (omega (arith, ints)) ∙ sym is

    stays : (time : ℤ) → b ≤ℤ time → time <ℤ e → local clock offset time ≡ (offset_after clock.first clock.rows count).seconds +ℤ pos 60 *ℤ offset
    stays time from to = ap (λ (n : ℕ). (offset_after clock.first clock.rows n).seconds +ℤ pos 60 *ℤ offset) (same time from to)

-- starts rise
pub starts_rise : (rows : List Row) (i j : ℕ) → IsRising rows → start_of rows i ≤ℤ pos (2 ^ 31) → i ≤ j → start_of rows i ≤ℤ start_of rows j
starts_rise rows i j up high le = elim (cases_lt j (length rows)) [
  | inl within ↦
      let first = start_in rows i (omega arith) in
      let last = start_in rows j within in
      let under = rises rows up i j le within in
      omega (arith, ints)
  | inr past ↦ let last = start_past rows j past in omega (arith, ints)
]

-- the seconds from a row on are those of the row and from the next on
pub since_next : (clock : ℤ → ℤ) (rows : List Row) (day : ℤ) (row : ℕ) → IsRising rows → start_of rows row ≤ℤ pos (2 ^ 31) → start_of rows (row + 1) ≤ℤ pos (2 ^ 31)
    → seconds_since clock rows day row ≡ seconds_on clock day (start_of rows row) (start_of rows (row + 1)) + seconds_since clock rows day (row + 1)
since_next clock rows day row up high next =
    sym (parts_add_up clock day (start_of rows row) (start_of rows (row + 1)) (pos (2 ^ 31)) (starts_rise rows row (row + 1) up high (omega arith)) next)

-- a stay that ends in a later row than that in which it begins
pub over_rows : (clock : ℤ → ℤ) (rows : List Row) (day b e : ℤ) (from last : ℕ) → IsRising rows → b ≤ℤ start_of rows from → from ≤ last → start_of rows from ≤ℤ pos (2 ^ 31) → start_of rows last ≤ℤ e → e ≤ℤ pos (2 ^ 31)
    → seconds_on clock day b e + seconds_since clock rows day last ≡ seconds_on clock day b (start_of rows from) + seconds_on clock day (start_of rows last) e + seconds_since clock rows day from
over_rows clock rows day b e from last up begins le high ends below =
    let s = start_of rows from in
    let t = start_of rows last in
    let between = starts_rise rows from last up high le in
    let whole = parts_add_up clock day b s e begins (omega (arith, ints)) in
    let rest = parts_add_up clock day s t e between ends in
    let since = parts_add_up clock day s t (pos (2 ^ 31)) between (omega (arith, ints)) in
    omega (arith, whole, rest, since)

-- a second comes before the start of each row that has not begun then
pub before_later : (rows : List Row) (t : ℤ) (row : ℕ) → IsRising rows → count_at rows t ≤ row → t ≤ℤ pos (2 ^ 31) → t ≤ℤ start_of rows row
before_later rows t row up le high = elim (cases_lt row (length rows)) [
  | inl within ↦
      let start = start_in rows row within in
      let next = stopped rows t (omega arith) in
      let under = rises rows up (count_at rows t) row le within in
      omega (arith, ints)
  | inr past ↦ let start = start_past rows row past in omega (arith, ints)
]

-- and after the start of each that has
pub after_begun : (rows : List Row) (t : ℤ) (row : ℕ) → row < count_at rows t → start_of rows row ≤ℤ t
after_begun rows t row lt =
    let start = start_in rows row (let fits = count_fits rows t in omega arith) in
    let begun = passed rows t row lt in
    omega (arith, ints)

-- past the last row there is nothing
pub since_past : (clock : ℤ → ℤ) (rows : List Row) (day : ℤ) (row : ℕ) → length rows ≤ row → seconds_since clock rows day row ≡ 0
unfolding seconds_from
since_past clock rows day row past = ap (λ (z : ℤ). seconds_on clock day z (pos (2 ^ 31))) (start_past rows row past)

pub change_past : (clock : ℤ → ℤ) (rows : List Row) (day : ℤ) (row : ℕ) → length rows ≤ row → change_since clock rows day row ≡ pos 0
change_past clock rows day row past =
    let one = since_past clock rows day row past in
    let two = since_past clock rows (day -ℤ pos 1) row past in
    omega (arith, ints)

-- the change from a row on is that of the row and that from the next on
pub change_next : (clock : ℤ → ℤ) (rows : List Row) (b e : ℤ) (row : ℕ) → ((day : ℤ) → seconds_since clock rows day row ≡ span_on day b e + seconds_since clock rows day (row + 1))
    → (day : ℤ) → change_since clock rows day row ≡ span_change day b e +ℤ change_since clock rows day (row + 1)
change_next clock rows b e row is day =
    let one = is day in
    let two = is (day -ℤ pos 1) in
    omega (arith, ints)
