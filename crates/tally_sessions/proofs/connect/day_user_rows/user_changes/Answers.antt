use Rattle.std.proofs.Common.{◌≡◌, ◌∙◌, ℕ, ℤ, false, true, List, [], length, pos, ◌+ℤ◌, sym, ap, subst, arith, to_z, of_z, w32}
use Rattle.std.proofs.lemmas.Int.{ints, to_z-of_z}
use Rattle.std.specs.Map.{lookup}
use Rattle.std.specs.Option.{IsSome}
use Rattle.std.specs.Ordering.{is_eq}
use Rattle.tally_sessions.specs.Days.{IsOffset, local}
use Rattle.tally_sessions.specs.declared.connect.keys.DayUser.{DayUser}
use Rattle.tally_sessions.specs.declared.connect.keys.RowUser.{RowUser}
use Rattle.tally_sessions.specs.inside.Changes.{AreWithin, change_of_day_user, count_of, day_change, told_of}
use Rattle.tally_sessions.specs.inside.Sums.{row_user_cmp}
use Rattle.tally_sessions.proofs.connect.UserTable.{user_table-more, user_table-small, user_table-start, user_table-told, user_table-within, HasUsersBut}
use Rattle.tally_sessions.proofs.days.ClockDays.{near_local}
use Rattle.tally_sessions.proofs.connect.day_user_rows.user_changes.Goals as goal

abbrev held : ℤ → ℤ
held z = to_z w32 (of_z w32 z)

-- a table with no entries
none_within : (es : List (RowUser × ℤ)) (rows : ℕ) → es ≡ [] → AreWithin es rows
none_within es rows none k some = absurd (let no : false ≡ true = subst (λ xs. IsSome (lookup (λ j. is_eq (row_user_cmp k j)) xs)) none some in cc)

none_changed : (es : List (DayUser × ℤ)) → es ≡ [] → (k : DayUser) → day_change es k ≡ pos 0
none_changed es none k = ap (λ xs. day_change xs k) none

none_counted : (es : List (RowUser × ℤ)) → es ≡ [] → (name : List ℕ) (row : ℕ) → count_of es name row ≡ pos 0
none_counted es none name row = ap (λ xs. count_of xs name row) none

pub loop-session-init : goal.loop-session-init
loop-session-init g c =
    let all = g.S.SessionSource.ahead c.args.source.now in
    let clock = local c.args.clock.now (held c.args.offset) in
    let rows = c.args.clock.now.rows in
    let changes = c.new-changes.result.entries in
    let counts = c.new-counts.result.entries in
    user_table-start clock rows all changes counts c.requires.few (none_within counts (length rows) c.new-counts.ensures.empty) (none_changed changes c.new-changes.ensures.empty) (none_counted counts c.new-counts.ensures.empty)

pub add_session-requires-clause-low : goal.add_session-requires-clause-low
add_session-requires-clause-low g c k =
    let near = near_local c.args.clock.now (held c.args.offset) (subst IsOffset (sym (to_z-of_z w32 c.args.offset c.ranges.offset)) c.requires.offset_in) in
    (user_table-within _ _ _ _ c.loop-session.changes.entries c.loop-session.counts.entries near c.requires.few c.loop-session.invariant k).0

pub add_session-requires-clause-high : goal.add_session-requires-clause-high
add_session-requires-clause-high g c k =
    let near = near_local c.args.clock.now (held c.args.offset) (subst IsOffset (sym (to_z-of_z w32 c.args.offset c.ranges.offset)) c.requires.offset_in) in
    (user_table-within _ _ _ _ c.loop-session.changes.entries c.loop-session.counts.entries near c.requires.few c.loop-session.invariant k).1

pub add_session-requires-clause-small : goal.add_session-requires-clause-small
add_session-requires-clause-small g c = user_table-small _ _ _ _ c.loop-session.changes.entries c.loop-session.counts.entries c.loop-session.invariant

pub loop-session-preserved : goal.loop-session-preserved
loop-session-preserved g c =
    let all = g.S.SessionSource.ahead c.args.source.now in
    let clock = local c.args.clock.now (held c.args.offset) in
    let rows = c.args.clock.now.rows in
    let changes = c.loop-session.changes.entries in
    let counts = c.loop-session.counts.entries in
    let before = subst (λ ss. HasUsersBut clock rows all ss changes counts) c.in-Some.ensures.next c.loop-session.invariant in
    let e = c.in_ok-add_session.ensures in
    user_table-more clock rows all _ c.in-Some.session changes c.add_session.new.changes.entries counts c.add_session.new.counts.entries before e.value e.two e.within e.days

pub add_rows-requires-clause-low : goal.add_rows-requires-clause-low
add_rows-requires-clause-low g c k =
    let near = near_local c.args.clock.now (held c.args.offset) (subst IsOffset (sym (to_z-of_z w32 c.args.offset c.ranges.offset)) c.requires.offset_in) in
    (user_table-told _ _ _ _ c.loop-session.changes.entries c.loop-session.counts.entries near c.requires.few c.loop-session.invariant k).0

pub add_rows-requires-clause-high : goal.add_rows-requires-clause-high
add_rows-requires-clause-high g c k =
    let near = near_local c.args.clock.now (held c.args.offset) (subst IsOffset (sym (to_z-of_z w32 c.args.offset c.ranges.offset)) c.requires.offset_in) in
    (user_table-told _ _ _ _ c.loop-session.changes.entries c.loop-session.counts.entries near c.requires.few c.loop-session.invariant k).1

pub add_rows-requires-clause-small : goal.add_rows-requires-clause-small
add_rows-requires-clause-small g c = user_table-small _ _ _ _ c.loop-session.changes.entries c.loop-session.counts.entries c.loop-session.invariant

end_value : (now told all : ℤ) → now ≡ told → told +ℤ pos 0 ≡ all → now ≡ all
end_value now told all is whole = omega (arith, ints)

pub returns-clause-value : goal.returns-clause-value
returns-clause-value g c k =
    let all = g.S.SessionSource.ahead c.args.source.now in
    let rows = c.args.clock.now.rows in
    let clock = local c.args.clock.now (held c.args.offset) in
    let changes = c.loop-session.changes.entries in
    let counts = c.loop-session.counts.entries in
    let done = subst (λ ss. HasUsersBut clock rows all ss changes counts) c.in_default.ensures.end c.loop-session.invariant in
    end_value (day_change c.add_rows.new.changes.entries k) (told_of clock rows changes counts k) (change_of_day_user clock k all) (c.in_ok-add_rows.ensures k) (done.value k)
    ∙ ap (λ (z : ℤ). change_of_day_user (local c.args.clock.now z) k all) (to_z-of_z w32 c.args.offset c.ranges.offset)

pub returns-clause-days : goal.returns-clause-days
returns-clause-days g c =
    let all = g.S.SessionSource.ahead c.args.source.now in
    let rows = c.args.clock.now.rows in
    let end = subst (λ ss. HasUsersBut (local c.args.clock.now (held c.args.offset)) rows all ss c.loop-session.changes.entries c.loop-session.counts.entries) c.in_default.ensures.end c.loop-session.invariant in
    let done = subst (λ z. HasUsersBut (local c.args.clock.now z) rows all [] c.loop-session.changes.entries c.loop-session.counts.entries) (to_z-of_z w32 c.args.offset c.ranges.offset) end in
    done.days
