use Rattle.std.proofs.Common.{◌+◌, ◌≤◌, ℕ, List, sym, subst, arith}
use Rattle.tally_sessions.specs.declared.connect_sums.slot.Slot.{Slot}
use Rattle.tally_sessions.specs.inside.Running.{AreKept}
use Rattle.tally_sessions.specs.inside.Slots.{open_count}
use Rattle.tally_sessions.proofs.connect_sums.KeptLemmas.{HasRoom-less, kept-same}
use Rattle.tally_sessions.proofs.connect_sums.SlotLemmas.{open-few}
use Rattle.tally_sessions.proofs.connect_sums.running.Running.reserve.Goals as goal

pub returns-in_err-reserve-4-clause-running : goal.returns-in_err-reserve-4-clause-running
returns-in_err-reserve-4-clause-running c =
    let old = c.args.self.now in
    subst (λ (ss : List Slot). AreKept old.count c.reserve.new.self ss c.reserve-3.new.self.items c.reserve-4.new.self) (sym c.reserve-2.ensures.items)
    (subst (λ (ls : List ℕ). AreKept old.count c.reserve.new.self old.slots.items ls c.reserve-4.new.self) (sym c.reserve-3.ensures.items)
    (kept-same old.count old.lines c.reserve.new.self old.slots.items old.listed.items old.ended c.reserve-4.new.self c.requires.running c.reserve.ensures.entries c.reserve-4.ensures.all c.reserve-4.ensures.users c.reserve-4.ensures.sessions))

pub returns-clause-running : goal.returns-clause-running
returns-clause-running c =
    let old = c.args.self.now in
    subst (λ (ss : List Slot). AreKept old.count c.reserve.new.self ss c.reserve-3.new.self.items c.reserve-4.new.self) (sym c.reserve-2.ensures.items)
    (subst (λ (ls : List ℕ). AreKept old.count c.reserve.new.self old.slots.items ls c.reserve-4.new.self) (sym c.reserve-3.ensures.items)
    (kept-same old.count old.lines c.reserve.new.self old.slots.items old.listed.items old.ended c.reserve-4.new.self c.requires.running c.reserve.ensures.entries c.reserve-4.ensures.all c.reserve-4.ensures.users c.reserve-4.ensures.sessions))

pub returns-clause-room : goal.returns-clause-room
returns-clause-room c =
    let few = open-few c.reserve-2.new.self.items in
    let enough : open_count c.reserve-2.new.self.items + c.args.count ≤ c.len.result + c.args.count = omega (arith, few, c.len.ensures, c.reserve-2.new.self.ok.0) in record {
      lines = c.in_ok-reserve.ensures.room;
      slots = c.in_ok-reserve-2.ensures.ok;
      listed = c.in_ok-reserve-3.ensures.ok;
      ended = HasRoom-less (open_count c.reserve-2.new.self.items + c.args.count) (c.len.result + c.args.count) c.reserve-4.new.self enough c.in_ok-reserve-4.ensures.room;
    }
