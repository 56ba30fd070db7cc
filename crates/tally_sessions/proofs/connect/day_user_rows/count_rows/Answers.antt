use Rattle.std.proofs.Common.{◌≡◌, ◌≤◌, ◌^◌, Bool, true, false, cond, ℤ, pos, neg_ℤ, ◌+ℤ◌, ◌-ℤ◌, ◌*ℤ◌, ◌≤ℤ◌, arith}
use Rattle.std.proofs.lemmas.Int.{ints}
use Rattle.std.specs.Prelude.{bytes_eq, unsigned_abs}
use Rattle.tally_sessions.proofs.connect.CountLemmas.{size_if, stand_if}
use Rattle.tally_sessions.proofs.connect.UserCounts.{at_row, more_at, put_within}
use Rattle.tally_sessions.specs.inside.Changes.{count_of}
use Rattle.tally_sessions.specs.inside.Counts.{stand_for}
use Rattle.tally_sessions.proofs.connect.day_user_rows.count_rows.Goals as goal

bounds : (z : ℤ) → unsigned_abs z ≤ 67108865 → (neg_ℤ (pos (2 ^ 61)) ≤ℤ z) × (z ≤ℤ pos (2 ^ 61))
bounds z few = (by_low z few, by_high z few)
  where
    by_low : (z : ℤ) → unsigned_abs z ≤ 67108865 → neg_ℤ (pos (2 ^ 61)) ≤ℤ z
    by_low z few = grind (arith, ints)

    by_high : (z : ℤ) → unsigned_abs z ≤ 67108865 → z ≤ℤ pos (2 ^ 61)
    by_high z few = grind (arith, ints)

abs_more : (z x : ℤ) (b : Bool) → unsigned_abs x ≤ 67108864 → z ≡ x +ℤ cond b (pos 1) (pos 0) → unsigned_abs z ≤ 67108865
abs_more z x true few is = by z x few is
  where
    by : (z x : ℤ) → unsigned_abs x ≤ 67108864 → z ≡ x +ℤ pos 1 → unsigned_abs z ≤ 67108865
    by z x few is = grind (arith, ints)
abs_more z x false few is = by z x few is
  where
    by : (z x : ℤ) → unsigned_abs x ≤ 67108864 → z ≡ x +ℤ pos 0 → unsigned_abs z ≤ 67108865
    by z x few is = grind (arith, ints)

pub add_change-requires-clause-low : goal.add_change-requires-clause-low
add_change-requires-clause-low c = (bounds _ (let few = c.requires.few c.args.from in omega (arith, few))).0

pub add_change-requires-clause-high : goal.add_change-requires-clause-high
add_change-requires-clause-high c = (bounds _ (let few = c.requires.few c.args.from in omega (arith, few))).1

pub add_change-requires-2-clause-low : goal.add_change-requires-2-clause-low
add_change-requires-2-clause-low c = (bounds _ (abs_more _ (count_of c.args.counts.now.entries c.args.user c.args.to) _ (c.requires.few c.args.to) (c.in_ok-add_change.ensures.value (at_row c.args.to c.args.user)))).0

pub add_change-requires-2-clause-high : goal.add_change-requires-2-clause-high
add_change-requires-2-clause-high c = (bounds _ (abs_more _ (count_of c.args.counts.now.entries c.args.user c.args.to) _ (c.requires.few c.args.to) (c.in_ok-add_change.ensures.value (at_row c.args.to c.args.user)))).1

sum : (a b d x y : ℤ) (p : Bool) → b ≡ a +ℤ cond p (pos 1 *ℤ x) (pos 0) → d ≡ b +ℤ cond p (neg_ℤ (pos 1) *ℤ y) (pos 0) → d ≡ a +ℤ cond p (x -ℤ y) (pos 0)
sum a b d x y true e f = omega (arith, ints)
sum a b d x y false e f = omega (arith, ints)

pub returns-clause-value : goal.returns-clause-value
returns-clause-value c change name rows from to =
    let old = c.args.counts.now.entries in
    let mid = c.add_change.new.changes.entries in
    let new = c.add_change-2.new.changes.entries in
    let up = more_at old mid c.args.from c.args.user (pos 1) c.in_ok-add_change.ensures.value name in
    let down = more_at mid new c.args.to c.args.user (neg_ℤ (pos 1)) c.in_ok-add_change-2.ensures.value name in
    sum (stand_for (count_of old name) change rows) (stand_for (count_of mid name) change rows) (stand_for (count_of new name) change rows) (change c.args.from) (change c.args.to) (bytes_eq c.args.user name)
    (stand_if (count_of old name) (count_of mid name) change c.args.from rows (bytes_eq c.args.user name) (pos 1) from up)
    (stand_if (count_of mid name) (count_of new name) change c.args.to rows (bytes_eq c.args.user name) (neg_ℤ (pos 1)) to down)

at_most_one : (b : Bool) → cond b 1 0 ≤ 1
at_most_one true = omega arith
at_most_one false = omega arith

pub returns-clause-two : goal.returns-clause-two
returns-clause-two c name rows from to =
    let old = c.args.counts.now.entries in
    let mid = c.add_change.new.changes.entries in
    let new = c.add_change-2.new.changes.entries in
    let up = more_at old mid c.args.from c.args.user (pos 1) c.in_ok-add_change.ensures.value name in
    let down = more_at mid new c.args.to c.args.user (neg_ℤ (pos 1)) c.in_ok-add_change-2.ensures.value name in
    let one = size_if (count_of old name) (count_of mid name) c.args.from rows (bytes_eq c.args.user name) (pos 1) from up in
    let two = size_if (count_of mid name) (count_of new name) c.args.to rows (bytes_eq c.args.user name) (neg_ℤ (pos 1)) to down in
    let most = at_most_one (bytes_eq c.args.user name) in
    omega (arith, one, two, most)

pub returns-clause-within : goal.returns-clause-within
returns-clause-within c rows from to within =
    let old = c.args.counts.now.entries in
    let mid = c.add_change.new.changes.entries in
    let new = c.add_change-2.new.changes.entries in
    put_within mid new (at_row c.args.to c.args.user) rows to c.in_ok-add_change-2.ensures.others
    (put_within old mid (at_row c.args.from c.args.user) rows from c.in_ok-add_change.ensures.others within)
