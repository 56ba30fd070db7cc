use Rattle.std.proofs.Common.{◌≡◌, ◌∙◌, ◌⊎◌, inl, inr, ◌+◌, ◌<◌, ◌≤◌, ◌^◌, ◌++◌, ℕ, ℤ, List, [], drop, take, length, pos, neg_ℤ, ◌+ℤ◌, ◌≤ℤ◌, sym, ap, subst, arith, rules, to_z, of_z, w32}
use Rattle.std.proofs.lemmas.Bool.{cases_lt}
use Rattle.std.proofs.lemmas.Int.{ints, to_z-of_z}
use Rattle.std.proofs.lemmas.List.{get_or-replicate, length-replicate}
use Rattle.std.proofs.Math.ListN.{get_or-eq_default, replicate}
use Rattle.tally_sessions.specs.Days.{IsOffset, local}
use Rattle.tally_sessions.specs.inside.Changes.{change_at, change_of_day, change_on, day_at, told_at}
use Rattle.tally_sessions.specs.inside.Counts.{size_of}
use Rattle.tally_sessions.proofs.connect.DayChanges.{whole_slice}
use Rattle.tally_sessions.proofs.connect.DayTable.{day_table-more, day_table-start, day_table-within, HasAllBut}
use Rattle.tally_sessions.proofs.days.ClockDays.{near_local}
use Rattle.tally_sessions.proofs.connect.day_sums.day_changes.Goals as goal

abbrev held : ℤ → ℤ
held z = to_z w32 (of_z w32 z)

-- a table of zeros
zero_at : (n row : ℕ) → change_at (replicate n (pos 0)) row ≡ pos 0
zero_at n row = by (cases_lt row n)
  where
    by : (row < n) ⊎ (n ≤ row) → change_at (replicate n (pos 0)) row ≡ pos 0
    by (inl lt) = get_or-replicate n row (pos 0) (pos 0) lt
    by (inr le) = get_or-eq_default (replicate n (pos 0)) (pos 0) (simp length-replicate le)

pub loop-session-init : goal.loop-session-init
loop-session-init g c =
    let all = g.S.SessionSource.ahead c.args.source.now in
    let clock = local c.args.clock.now (held c.args.offset) in
    let rows = c.args.clock.now.rows in
    let table = c.in_ok-table.table.items in
    let counts = c.in_ok-counts.counts.items in
    let zeros = c.in_ok-table.ensures.items_if_clones_equal (λ y h. h) in
    let none = c.in_ok-counts.ensures.items_if_clones_equal (λ y h. h) in
    day_table-start clock rows all table counts (search rules) (search rules) c.requires.few (λ place lt. ap (λ xs. change_at xs place) zeros ∙ zero_at 49717 place) (λ row. ap (λ xs. change_at xs row) none ∙ zero_at (length c.rows.result.now) row)

pub add_session-requires-clause-low : goal.add_session-requires-clause-low
add_session-requires-clause-low g c =
    let near = near_local c.args.clock.now (held c.args.offset) (subst IsOffset (sym (to_z-of_z w32 c.args.offset c.ranges.offset)) c.requires.offset_in) in
    subst (λ table. (k : ℕ) → neg_ℤ (pos (2 ^ 61)) ≤ℤ change_at table k) (sym c.deref_mut.ensures.value)
    (λ k. (day_table-within _ _ _ _ c.loop-session.table.items c.loop-session.counts.items near c.requires.few c.loop-session.invariant k).0)

pub add_session-requires-clause-high : goal.add_session-requires-clause-high
add_session-requires-clause-high g c =
    let near = near_local c.args.clock.now (held c.args.offset) (subst IsOffset (sym (to_z-of_z w32 c.args.offset c.ranges.offset)) c.requires.offset_in) in
    subst (λ table. (k : ℕ) → change_at table k ≤ℤ pos (2 ^ 61)) (sym c.deref_mut.ensures.value)
    (λ k. (day_table-within _ _ _ _ c.loop-session.table.items c.loop-session.counts.items near c.requires.few c.loop-session.invariant k).1)

pub loop-session-preserved : goal.loop-session-preserved
loop-session-preserved g c =
    let all = g.S.SessionSource.ahead c.args.source.now in
    let clock = local c.args.clock.now (held c.args.offset) in
    let rows = c.args.clock.now.rows in
    let s = c.in-Some.session in
    let table = c.loop-session.table.items in
    let counts = c.loop-session.counts.items in
    let new = c.add_session.new.table in
    let new_counts = c.add_session.new.counts in
    let days_is = c.deref_mut.ensures.value in
    let rows_is = c.deref_mut-in-Some.ensures.value in
    let before = subst (λ ss. HasAllBut clock rows all ss table counts) c.in-Some.ensures.next c.loop-session.invariant in
    let after =
    day_table-more clock rows all (g.S.SessionSource.ahead c.next_session.new.self) s table counts new new_counts before
    (c.add_session.auto.table ∙ ap length days_is) (c.add_session.auto.counts ∙ ap length rows_is)
    (λ place lt. c.add_session.ensures.value place lt ∙ (λ i. told_at clock rows (days_is i) (rows_is i) place +ℤ change_on clock (day_at place) s.begin s.end_time))
    (subst (λ xs. size_of (change_at new_counts) (length rows) ≤ size_of (change_at xs) (length rows) + 2) rows_is c.add_session.ensures.two)
    c.add_session.ensures.days in
    let whole = sym (whole_slice c.loop-session.table.len new (drop (length new) table) (c.add_session.auto.table ∙ c.deref_mut.ensures.len)) in
    let whole_counts = sym (whole_slice c.loop-session.counts.len new_counts (drop (length new_counts) counts) (c.add_session.auto.counts ∙ c.deref_mut-in-Some.ensures.len)) in
    let both : (new, new_counts) ≡ (take c.loop-session.table.len (new ++ drop (length new) table), take c.loop-session.counts.len (new_counts ++ drop (length new_counts) counts)) = λ i. (whole i, whole_counts i) in
    subst (λ (xs : List ℤ × List ℤ). HasAllBut clock rows all (g.S.SessionSource.ahead c.next_session.new.self) xs.0 xs.1) both after

pub add_rows-requires-clause-low : goal.add_rows-requires-clause-low
add_rows-requires-clause-low g c =
    let near = near_local c.args.clock.now (held c.args.offset) (subst IsOffset (sym (to_z-of_z w32 c.args.offset c.ranges.offset)) c.requires.offset_in) in
    subst (λ table. (k : ℕ) → neg_ℤ (pos (2 ^ 61)) ≤ℤ change_at table k) (sym c.deref_mut-2.ensures.value)
    (λ k. (day_table-within _ _ _ _ c.loop-session.table.items c.loop-session.counts.items near c.requires.few c.loop-session.invariant k).0)

pub add_rows-requires-clause-high : goal.add_rows-requires-clause-high
add_rows-requires-clause-high g c =
    let near = near_local c.args.clock.now (held c.args.offset) (subst IsOffset (sym (to_z-of_z w32 c.args.offset c.ranges.offset)) c.requires.offset_in) in
    subst (λ table. (k : ℕ) → change_at table k ≤ℤ pos (2 ^ 61)) (sym c.deref_mut-2.ensures.value)
    (λ k. (day_table-within _ _ _ _ c.loop-session.table.items c.loop-session.counts.items near c.requires.few c.loop-session.invariant k).1)

end_value : (now told all : ℤ) → now ≡ told → told +ℤ pos 0 ≡ all → now ≡ all
end_value now told all is whole = omega (arith, ints)

pub returns-clause-value : goal.returns-clause-value
returns-clause-value g c place lt =
    let all = g.S.SessionSource.ahead c.args.source.now in
    let rows = c.args.clock.now.rows in
    let table = c.loop-session.table.items in
    let counts = c.loop-session.counts.items in
    let clock = local c.args.clock.now (held c.args.offset) in
    let new = c.add_rows.new.table in
    let done = subst (λ ss. HasAllBut clock rows all ss table counts) c.in_default.ensures.end c.loop-session.invariant in
    let whole = whole_slice c.loop-session.table.len new (drop (length new) table) (c.add_rows.auto.table ∙ c.deref_mut-2.ensures.len) in
    let told = c.add_rows.ensures place lt ∙ (λ i. told_at clock rows (c.deref_mut-2.ensures.value i) (c.deref.ensures.value i) place) in
    ap (λ xs. change_at xs place) whole
    ∙ end_value (change_at new place) (told_at clock rows table counts place) (change_of_day clock (day_at place) all) told (done.value place lt)
    ∙ ap (λ (z : ℤ). change_of_day (local c.args.clock.now z) (day_at place) all) (to_z-of_z w32 c.args.offset c.ranges.offset)

pub returns-clause-days : goal.returns-clause-days
returns-clause-days g c =
    let all = g.S.SessionSource.ahead c.args.source.now in
    let rows = c.args.clock.now.rows in
    let end = subst (λ ss. HasAllBut (local c.args.clock.now (held c.args.offset)) rows all ss c.loop-session.table.items c.loop-session.counts.items) c.in_default.ensures.end c.loop-session.invariant in
    let done = subst (λ z. HasAllBut (local c.args.clock.now z) rows all [] c.loop-session.table.items c.loop-session.counts.items) (to_z-of_z w32 c.args.offset c.ranges.offset) end in
    done.days
