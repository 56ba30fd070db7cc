use Rattle.std.proofs.Common.{◌≡◌, ◌∙◌, Bool, true, false, ◌*ℤ◌, ℕ, ◌+◌, ◌-◌, ◌≤◌, ◌^◌, cond, List, ℤ, pos, neg_ℤ, ◌+ℤ◌, ◌≤ℤ◌, ap, arith, to_z, of_z, w64}
use Rattle.std.proofs.lemmas.Int.{ints, to_z-of_z}
use Rattle.std.specs.Ordering.{is_eq}
use Rattle.std.specs.Prelude.{bytes_eq, unsigned_abs}
use Rattle.tally_sessions.proofs.connect.CountLemmas.{IsMoreAt, size_if, stand_if}
use Rattle.tally_sessions.proofs.connect.UserCounts.{at_row, more_at, put_within}
use Rattle.tally_sessions.proofs.connect.Weights.{times_none}
use Rattle.tally_sessions.specs.declared.connect.keys.RowUser.{RowUser}
use Rattle.tally_sessions.specs.inside.Changes.{count_of}
use Rattle.tally_sessions.specs.inside.Sums.{change_of, row_user_cmp}
use Rattle.tally_sessions.proofs.connect.day_user_rows.count_on.Goals as goal

abbrev kept : ℤ → ℤ
kept z = to_z w64 (of_z w64 z)

bounds : (z : ℤ) → unsigned_abs z ≤ 67108864 → (neg_ℤ (pos (2 ^ 61)) ≤ℤ z) × (z ≤ℤ pos (2 ^ 61))
bounds z few = (by_low z few, by_high z few)
  where
    by_low : (z : ℤ) → unsigned_abs z ≤ 67108864 → neg_ℤ (pos (2 ^ 61)) ≤ℤ z
    by_low z few = grind (arith, ints)

    by_high : (z : ℤ) → unsigned_abs z ≤ 67108864 → z ≤ℤ pos (2 ^ 61)
    by_high z few = grind (arith, ints)

pub add_change-requires-clause-low : goal.add_change-requires-clause-low
add_change-requires-clause-low c = (bounds (count_of c.args.counts.now.entries c.args.at.user (c.args.at.row + 1)) (c.requires.few (c.args.at.row + 1))).0

pub add_change-requires-clause-high : goal.add_change-requires-clause-high
add_change-requires-clause-high c = (bounds (count_of c.args.counts.now.entries c.args.at.user (c.args.at.row + 1)) (c.requires.few (c.args.at.row + 1))).1

more : (c : goal.In_ok-add_change) (name : List ℕ) → IsMoreAt (count_of c.args.counts.now.entries name) (count_of c.add_change.new.changes.entries name) (c.args.at.row + 1) (cond (bytes_eq c.args.at.user name) c.args.times (pos 0))
more c name =
    let times = to_z-of_z w64 c.args.times c.ranges.times in
    more_at c.args.counts.now.entries c.add_change.new.changes.entries (c.args.at.row + 1) c.args.at.user c.args.times
    (λ k. c.in_ok-add_change.ensures.value k ∙ ap (λ (z : ℤ). change_of row_user_cmp c.args.counts.now.entries k +ℤ cond (is_eq (row_user_cmp (at_row (c.args.at.row + 1) c.args.at.user) k)) z (pos 0)) times) name

pub returns-in_ok-add_change-clause-value : goal.returns-in_ok-add_change-clause-value
returns-in_ok-add_change-clause-value c change name none =
    stand_if (count_of c.args.counts.now.entries name) (count_of c.add_change.new.changes.entries name) change (c.args.at.row + 1) c.args.rows (bytes_eq c.args.at.user name) c.args.times c.if-row-rows.true (more c name)

pub returns-in_ok-add_change-clause-size : goal.returns-in_ok-add_change-clause-size
returns-in_ok-add_change-clause-size c name =
    size_if (count_of c.args.counts.now.entries name) (count_of c.add_change.new.changes.entries name) (c.args.at.row + 1) c.args.rows (bytes_eq c.args.at.user name) c.args.times c.if-row-rows.true (more c name)

pub returns-in_ok-add_change-clause-within : goal.returns-in_ok-add_change-clause-within
returns-in_ok-add_change-clause-within c within =
    put_within c.args.counts.now.entries c.add_change.new.changes.entries (at_row (c.args.at.row + 1) c.args.at.user) c.args.rows c.if-row-rows.true c.in_ok-add_change.ensures.others within

pub returns-in_ok-add_change-clause-nearer : goal.returns-in_ok-add_change-clause-nearer
returns-in_ok-add_change-clause-nearer c = c.in_ok-add_change.ensures.ahead (λ (k : RowUser). c.args.rows - k.row)

-- after the last row no time is left
none_more : (s z : ℤ) (p : Bool) → z ≡ pos 0 → s ≡ s +ℤ cond p z (pos 0)
none_more s z true none = omega (arith, ints)
none_more s z false none = omega (arith, ints)

pub returns-else-row-rows-clause-value : goal.returns-else-row-rows-clause-value
returns-else-row-rows-clause-value c change name none =
    let last : c.args.at.row + 1 ≡ c.args.rows = omega (arith, c.requires.row_in, c.if-row-rows.false) in
    none_more _ (c.args.times *ℤ change (c.args.at.row + 1)) (bytes_eq c.args.at.user name) (times_none c.args.times _ (ap change last ∙ none))
