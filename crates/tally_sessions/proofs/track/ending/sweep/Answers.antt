use Rattle.std.proofs.Common.{◌≡◌, ◌∙◌, ◌+◌, ◌<◌, true, ℤ, refl, sym, ap, arith, subst, length, map}
use Rattle.std.proofs.lemmas.Int.{to_z-of_z}
use Rattle.std.specs.Int.{w64}
use Rattle.tally_sessions.specs.Stays.{ends_stay}
use Rattle.tally_sessions.specs.inside.Track as spec
use Rattle.tally_sessions.specs.inside.Track.{stay_at, IsWithin}
use Rattle.tally_sessions.specs.inside.Entries.{entry_at}
use Rattle.tally_sessions.proofs.track.Lengths.{held}
use Rattle.tally_sessions.proofs.track.Places.{MapsBelow, MapsBelow-more, MapsBelow-all}
use Rattle.tally_sessions.proofs.track.ending.sweep.Goals as goal

pub loop-i-init : goal.loop-i-init
loop-i-init c =
    let same = to_z-of_z w64 c.args.clock c.ranges.clock in record {
      maps = record {
        len = refl;
        below = λ k lt. sym (c.requires.ended k lt) ∙ ap (λ (z : ℤ). spec.after c.args.entries.now z (entry_at c.args.entries.now c.args.stored.at).item (stay_at c.args.stays.now k)) (sym same);
        from = λ k le. refl;
      };
      sums = c.requires.sums;
      room = refl;
    }

pub end_stay-requires-clause-placed : goal.end_stay-requires-clause-placed
end_stay-requires-clause-placed c =
    let old = c.loop-i.invariant.maps.from c.loop-i.i (omega arith) in
    subst (λ t. t.entry < length c.args.entries.now) (sym old) (c.requires.placed.at c.loop-i.i (omega (arith, c.loop-i.invariant.maps.len)))

pub end_stay-requires-clause-before : goal.end_stay-requires-clause-before
end_stay-requires-clause-before c =
    let old = c.loop-i.invariant.maps.from c.loop-i.i (omega arith) in
    subst (λ t. IsWithin 16777216 t.clock_at) (sym old) (c.requires.placed.before c.loop-i.i (omega (arith, c.loop-i.invariant.maps.len)))

pub end_stay-requires-clause-ends : goal.end_stay-requires-clause-ends
end_stay-requires-clause-ends c =
    let old = c.loop-i.invariant.maps.from c.loop-i.i (omega arith) in
    subst (λ t. ends_stay (spec.start_of c.args.entries.now t) (entry_at c.args.entries.now c.args.stored.at).item ≡ true) (sym old) (c.requires.ends c.loop-i.i (omega (arith, c.loop-i.invariant.maps.len)))

pub loop-i-preserved : goal.loop-i-preserved
loop-i-preserved c =
    let f = spec.after c.args.entries.now (held c.args.clock) (entry_at c.args.entries.now c.args.stored.at).item in
    let more = MapsBelow-more f spec.no_stay c.args.stays.now c.loop-i.stays c.loop-i.i (f (stay_at c.loop-i.stays c.loop-i.i)) c.loop-i.invariant.maps (omega (arith, c.loop-i.invariant.maps.len)) refl in record {
      maps = subst (λ ts. MapsBelow f spec.no_stay c.args.stays.now ts (c.loop-i.i + 1)) (sym c.end_stay.ensures.stays) more;
      sums = c.end_stay.ensures.sums;
      room = c.end_stay.ensures.spare ∙ c.loop-i.invariant.room;
    }

pub returns-clause-stays : goal.returns-clause-stays
returns-clause-stays c =
    let same = to_z-of_z w64 c.args.clock c.ranges.clock in
    let all = MapsBelow-all _ spec.no_stay _ _ c.loop-i.i c.loop-i.invariant.maps (omega (arith, c.loop-i.invariant.maps.len, c.requires.from_in)) in
    all ∙ ap (λ (z : ℤ). map (spec.after c.args.entries.now z (entry_at c.args.entries.now c.args.stored.at).item) c.args.stays.now) same
