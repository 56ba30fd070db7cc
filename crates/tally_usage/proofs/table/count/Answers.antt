use Rattle.std.proofs.Common.{◌≡◌, Some, inl, refl, slice_get, subst, sym}
use Rattle.indexmap.proofs.CallerLemmas.{keys-with_value_at}
use Rattle.tally_usage.proofs.TotalsLemmas.{Fits_at, HasMore_at}
use Rattle.tally_usage.proofs.table.count.Goals as goal

pub add-requires : goal.add-requires
add-requires g c =
    let entry = c.pair_mut-counted.ensures in
    Fits_at g.met.K.Eq.laws c.args.table.now c.args.guess c.args.key _ _ entry.unique (c.if-is_place_of.ensures refl) entry.value c.args.more.now c.requires.fits

pub returns-then-is_place_of-clause-counted : goal.returns-then-is_place_of-clause-counted
returns-then-is_place_of-clause-counted g c =
    let entry = c.pair_mut-counted.ensures in
    HasMore_at g.met.K.Eq.laws c.args.table.now c.args.guess c.args.key _ _ entry.unique (c.if-is_place_of.ensures refl) entry.value _ _ c.add.ensures

pub returns-then-is_place_of-clause-place : goal.returns-then-is_place_of-clause-place
returns-then-is_place_of-clause-place g c = subst (λ ks. slice_get ks c.args.guess ≡ Some c.args.key) (sym (keys-with_value_at c.args.table.now c.args.guess c.add.new.self)) (c.if-is_place_of.ensures refl)

pub returns-then-is_place_of-clause-kept : goal.returns-then-is_place_of-clause-kept
returns-then-is_place_of-clause-kept g c = inl (keys-with_value_at c.args.table.now c.args.guess c.add.new.self)
