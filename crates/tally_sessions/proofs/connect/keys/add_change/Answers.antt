use Rattle.std.proofs.Common.{◌≡◌, ◌≤◌, ◌+◌, ◌^◌, ◌∙◌, ℤ, pos, neg_ℤ, ◌+ℤ◌, ◌≤ℤ◌, cond, Some, unwrap_or, is_eq, sym, ap, subst, arith, to_z, of_z, w64}
use Rattle.std.proofs.lemmas.Int.{ints}
use Rattle.std.specs.BTreeMap.{insert_entry}
use Rattle.std.specs.Map.{lookup, set_value}
use Rattle.std.specs.Prelude.{sum_by}
use Rattle.std.specs.Option.{option_copied_mut}
use Rattle.tally_sessions.specs.inside.Sums.{change_of}
use Rattle.tally_sessions.proofs.connect.KeyLemmas.{ahead_kept, ahead_put, change_put, set_updates}
use Rattle.tally_sessions.proofs.connect.keys.add_change.Goals as goal

abbrev kept : ℤ → ℤ
kept z = to_z w64 (of_z w64 z)

kept_sum : (x y z : ℤ) → z ≡ kept x +ℤ kept y → neg_ℤ (pos (2 ^ 61)) ≤ℤ x → x ≤ℤ pos (2 ^ 61) → neg_ℤ (pos (2 ^ 61)) ≤ℤ y → y ≤ℤ pos (2 ^ 61) → kept z ≡ x +ℤ y
kept_sum x y z is a b c d = omega (arith, ints, is)

-- a key that the table has
pub returns-in-Some-clause-value : goal.returns-in-Some-clause-value
returns-in-Some-clause-value g c =
    let cmp = g.K.Ord.cmp in
    let old = c.args.changes.now.entries in
    let sum = c.in-Some.sum.now in
    let has : lookup (λ j. is_eq (cmp c.args.at j)) old ≡ Some sum = sym c.get_mut.ensures.value ∙ ap option_copied_mut c.in-Some.is in
    let was : change_of cmp old c.args.at ≡ sum = ap (λ u. unwrap_or u (pos 0)) has in
    let next = kept c.sum_after.result in
    let is =
    kept_sum sum c.args.more c.sum_after.result c.sum_after.ensures (subst (λ z. neg_ℤ (pos (2 ^ 61)) ≤ℤ z) was c.requires.low) (subst (λ z. z ≤ℤ pos (2 ^ 61)) was c.requires.high) c.requires.more_low c.requires.more_high
    ∙ ap (λ z. z +ℤ c.args.more) (sym was) in
    subst (λ es. (k : _) → change_of cmp es k ≡ change_of cmp old k +ℤ cond (is_eq (cmp c.args.at k)) c.args.more (pos 0)) (sym (c.get_mut.follows.holds next).0)
    (change_put cmp g.met.K.Ord.total old (set_value (λ j. is_eq (cmp c.args.at j)) old next) c.args.at c.args.more next is (set_updates cmp g.met.K.Ord.total old c.args.at sum next has))

pub returns-in-Some-clause-ahead : goal.returns-in-Some-clause-ahead
returns-in-Some-clause-ahead g c weight =
    let cmp = g.K.Ord.cmp in
    let old = c.args.changes.now.entries in
    let next = kept c.sum_after.result in
    let same = ap (sum_by (λ e. weight e.0)) (c.get_mut.follows.holds next).0 ∙ ahead_kept (λ j. is_eq (cmp c.args.at j)) weight old next in
    omega (arith, same)

-- a new key
pub returns-in_ok-insert-in-None-clause-value : goal.returns-in_ok-insert-in-None-clause-value
returns-in_ok-insert-in-None-clause-value g c =
    let cmp = g.K.Ord.cmp in
    let none : change_of cmp c.args.changes.now.entries c.args.at ≡ pos 0 = ap (λ u. unwrap_or u (pos 0)) (sym c.get_mut.ensures.value ∙ ap option_copied_mut c.in-None.is) in
    let same = c.get_mut.follows.holds-at-none in
    let next = kept c.sum_after-in-None.result in
    let is = kept_sum (pos 0) c.args.more c.sum_after-in-None.result c.sum_after-in-None.ensures (omega (arith, ints)) (omega (arith, ints)) c.requires.more_low c.requires.more_high ∙ ap (λ z. z +ℤ c.args.more) (sym none) in
    change_put cmp g.met.K.Ord.total c.args.changes.now.entries c.insert.new.self.entries c.args.at c.args.more next is
    (subst (λ m. (k : _) → lookup (λ j. is_eq (cmp k j)) c.insert.new.self.entries ≡ cond (is_eq (cmp c.args.at k)) (Some next) (lookup (λ j. is_eq (cmp k j)) m.entries)) same
    c.in_ok-insert-in-None.ensures.updates.0)

pub returns-in_ok-insert-in-None-clause-ahead : goal.returns-in_ok-insert-in-None-clause-ahead
returns-in_ok-insert-in-None-clause-ahead g c weight =
    subst (λ es. sum_by (λ e. weight e.0) es ≤ sum_by (λ e. weight e.0) c.args.changes.now.entries + weight c.args.at)
    (sym (c.in_ok-insert-in-None.ensures.entries ∙ ap (λ m. insert_entry g.K.Ord.cmp m.entries c.args.at (kept c.sum_after-in-None.result)) c.get_mut.follows.holds-at-none))
    (ahead_put g.K.Ord.cmp weight c.args.changes.now.entries c.args.at (kept c.sum_after-in-None.result))
