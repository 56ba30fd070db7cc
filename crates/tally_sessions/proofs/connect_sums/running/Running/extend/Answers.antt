use Rattle.std.proofs.Common.{◌≡◌, ◌∙◌, ◌<◌, length, sym, ap, subst, arith, rules}
use Rattle.std.proofs.lemmas.Int.{ints, to_z-of_z}
use Rattle.std.proofs.lemmas.List.{get_or_default}
use Rattle.std.specs.Int.{w64}
use Rattle.std.specs.Prelude.{FitsSigned}
use Rattle.tally_sessions.specs.declared.connect_sums.slot.Slot.{Slot}
use Rattle.tally_sessions.specs.inside.Slots.{no_slot, slot_at}
use Rattle.tally_sessions.specs.inside.Track.{IsWithin}
use Rattle.tally_sessions.proofs.connect_sums.running.Running.extend.Goals as goal

pub begin-requires-clause-low : goal.begin-requires-clause-low
begin-requires-clause-low c =
    let r = c.args.self.now in
    let s = c.index-slot.result.now in
    let k = c.loop-k.k in
    let within : k < length r.slots.items = omega (arith, c.loop-k-test.true, c.len-k-end.ensures, r.slots.ok.0) in
    let here : slot_at r.slots.items k ≡ s = get_or_default r.slots.items k no_slot s within ∙ sym c.index-slot.ensures in
    let near = subst (IsWithin r.count) (ap (λ (t : Slot). t.clock_at) here) ((c.requires.running.slots_are k within).moved (ap (λ (t : Slot). t.is_open) here ∙ c.if-slot.true)) in
    let clock_fits : FitsSigned w64 r.clock = search rules in
    omega (arith, ints, near.low, near.high, c.requires.moved.low, c.requires.moved.high, c.requires.few, to_z-of_z w64 r.clock clock_fits)

pub begin-requires-clause-high : goal.begin-requires-clause-high
begin-requires-clause-high c =
    let r = c.args.self.now in
    let s = c.index-slot.result.now in
    let k = c.loop-k.k in
    let within : k < length r.slots.items = omega (arith, c.loop-k-test.true, c.len-k-end.ensures, r.slots.ok.0) in
    let here : slot_at r.slots.items k ≡ s = get_or_default r.slots.items k no_slot s within ∙ sym c.index-slot.ensures in
    let near = subst (IsWithin r.count) (ap (λ (t : Slot). t.clock_at) here) ((c.requires.running.slots_are k within).moved (ap (λ (t : Slot). t.is_open) here ∙ c.if-slot.true)) in
    let clock_fits : FitsSigned w64 r.clock = search rules in
    omega (arith, ints, near.low, near.high, c.requires.moved.low, c.requires.moved.high, c.requires.few, to_z-of_z w64 r.clock clock_fits)
