use Rattle.std.proofs.Common.{◌≡◌, ◌∙◌, ◌<◌, List, ap, false, length, set, sym, arith}
use Rattle.std.proofs.lemmas.List.{get_or_default, get_or-set_same, length-set, set-set}
use Rattle.tally_sessions.specs.declared.connect_sums.slot.Slot.{Slot}
use Rattle.tally_sessions.specs.inside.Slots.{closed, no_slot, slot_at, unlisted}
use Rattle.tally_sessions.proofs.connect_sums.running.Running.end_listed.Goals as goal

pub returns-clause-slots : goal.returns-clause-slots
returns-clause-slots c =
    let slots = c.args.self.now.slots in
    let k = c.args.place in
    let s = slot_at slots.items k in
    let within : k < length slots.items = omega (arith, c.requires.place, slots.ok.0) in
    let ended = c.end.new.self.slots in
    let still : k < length ended.items = omega (arith, within, length-set slots.items k (closed s), ap length c.end.ensures.slots) in
    let read : c.index_mut.result.now ≡ closed s =
    c.index_mut.ensures.value
    ∙ sym (get_or_default ended.items k no_slot c.index_mut.result.now still)
    ∙ ap (λ (ss : List Slot). slot_at ss k) c.end.ensures.slots
    ∙ get_or-set_same slots.items k (closed s) no_slot within in
    (λ i. set (c.end.ensures.slots i) k (record (read i) { is_listed = false })) ∙ set-set slots.items k (closed s) (unlisted s)
