use Rattle.std.proofs.Common.{◌≡◌, Some, inl, inr, slice_get, subst, sym}
use Rattle.indexmap.proofs.CallerLemmas.{keys-with_value_at}
use Rattle.indexmap.specs.IndexMap.{keys}
use Rattle.tally_usage.proofs.TotalsLemmas.{Fits_at, HasMore_at, keys-added, last_key}
use Rattle.tally_usage.proofs.table.count_unguessed.Goals as goal

pub add-requires : goal.add-requires
add-requires g c =
    let entry = c.pair_mut-counted.ensures in
    Fits_at g.met.K.Eq.laws c.args.table.now c.in-Some.place c.args.key _ _ entry.unique c.in-Some.ensures.found entry.value c.args.more c.requires.fits

pub returns-in-Some-clause-counted : goal.returns-in-Some-clause-counted
returns-in-Some-clause-counted g c =
    let entry = c.pair_mut-counted.ensures in
    HasMore_at g.met.K.Eq.laws c.args.table.now c.in-Some.place c.args.key _ _ entry.unique c.in-Some.ensures.found entry.value _ _ c.add.ensures

pub returns-in-Some-clause-place : goal.returns-in-Some-clause-place
returns-in-Some-clause-place g c = subst (λ ks. slice_get ks c.in-Some.place ≡ Some c.args.key) (sym (keys-with_value_at c.args.table.now c.in-Some.place c.add.new.self)) c.in-Some.ensures.found

pub returns-in-Some-clause-kept : goal.returns-in-Some-clause-kept
returns-in-Some-clause-kept g c = inl (keys-with_value_at c.args.table.now c.in-Some.place c.add.new.self)

pub returns-in_default-clause-place : goal.returns-in_default-clause-place
returns-in_default-clause-place g c =
    let added = keys-added g.K.PartialEq.eq c.args.table.now c.insert.new.self c.args.key c.in_default.ensures.absent _ c.unwrap.ensures c.insert.ensures.entries in
    last_key c.insert.new.self (keys c.args.table.now) c.args.key c.len.result added c.len.ensures.len

pub returns-in_default-clause-kept : goal.returns-in_default-clause-kept
returns-in_default-clause-kept g c = inr (keys-added g.K.PartialEq.eq c.args.table.now c.insert.new.self c.args.key c.in_default.ensures.absent _ c.unwrap.ensures c.insert.ensures.entries)
