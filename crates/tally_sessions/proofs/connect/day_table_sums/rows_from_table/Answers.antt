use Rattle.std.proofs.Common.{◌≡◌, ◌∙◌, ℕ, ℤ, List, ◌++◌, drop, length, refl, sym, subst, take, arith, to_z, of_z, w32}
use Rattle.std.proofs.lemmas.Int.{to_z-of_z}
use Rattle.std.proofs.lemmas.List.{take_all, take-append-le}
use Rattle.tally_sessions.specs.Days.{local}
use Rattle.tally_sessions.specs.inside.Tables.{HasSeconds}
use Rattle.tally_sessions.specs.Rows.{day_user_times}
use Rattle.tally_sessions.proofs.connect.day_table_sums.rows_from_table.Goals as goal

abbrev held : ℤ → ℤ
held z = to_z w32 (of_z w32 z)

-- what is written back to a vector is the slice
whole_slice : (n : ℕ) (xs ys : List ℕ) → length xs ≡ n → take n (xs ++ ys) ≡ xs
whole_slice n xs ys e = take-append-le n xs ys (omega (arith, e)) ∙ take_all n xs (omega (arith, e))

pub returns-clause-rows : goal.returns-clause-rows
returns-clause-rows g c =
    let all = g.S.SessionSource.ahead c.args.source.now in
    let clock = local c.args.clock.now (held c.args.offset) in
    let first = held c.args.first in
    let new = c.add_all-all.new.cells in
    let has : HasSeconds clock first c.args.users.now new all = c.if-not-all.ensures refl in
    let whole = c.deref.ensures.value ∙ whole_slice c.in_ok-cells.cells.len new (drop (length new) c.in_ok-cells.cells.items) (c.add_all-all.auto.cells ∙ c.deref_mut.ensures.len) in
    let table = subst (λ cells. HasSeconds clock first c.args.users.now cells all) (sym whole) has in
    c.in_ok-rows.ensures.rows clock all table ∙ (λ i. day_user_times (local c.args.clock.now (to_z-of_z w32 c.args.offset c.ranges.offset i)) all)

pub returns-clause-days : goal.returns-clause-days
returns-clause-days g c =
    let all = g.S.SessionSource.ahead c.args.source.now in
    let clock = local c.args.clock.now (held c.args.offset) in
    let first = held c.args.first in
    let new = c.add_all-all.new.cells in
    let has : HasSeconds clock first c.args.users.now new all = c.if-not-all.ensures refl in
    let whole = c.deref.ensures.value ∙ whole_slice c.in_ok-cells.cells.len new (drop (length new) c.in_ok-cells.cells.items) (c.add_all-all.auto.cells ∙ c.deref_mut.ensures.len) in
    let table = subst (λ cells. HasSeconds clock first c.args.users.now cells all) (sym whole) has in
    c.in_ok-rows.ensures.days clock all table
