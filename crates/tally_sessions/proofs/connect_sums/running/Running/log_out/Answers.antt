use Rattle.std.proofs.Common.{◌≡◌, ◌∙◌, ◌+◌, ℕ, List, set, sym, ap, subst, arith}
use Rattle.std.proofs.lemmas.Int.{to_z-of_z}
use Rattle.std.specs.Int.{w32}
use Rattle.tally_sessions.specs.declared.connect_sums.running.Running.{Running}
use Rattle.tally_sessions.specs.declared.connect_sums.slot.Slot.{Slot}
use Rattle.tally_sessions.specs.inside.Ended.{measured, weighed}
use Rattle.tally_sessions.specs.inside.Numbers.{Numbers}
use Rattle.tally_sessions.specs.inside.Running.{AreKept}
use Rattle.tally_sessions.specs.inside.Slots.{closed, slot_at, weight_at, weight_in}
use Rattle.tally_sessions.proofs.connect_sums.KeptLemmas.{kept-closed, line_alone, line_none, line_there}
use Rattle.tally_sessions.proofs.connect_sums.SlotLemmas.{weight-ended, weight-on, weight-off_none, weight-on_none}
use Rattle.tally_sessions.proofs.connect_sums.running.Running.log_out.Goals as goal

pub returns-in-Some-clause-opens : goal.returns-in-Some-clause-opens
returns-in-Some-clause-opens c weight =
    let old = c.args.self.now in
    let there = line_there old.count old.lines old.slots.items old.listed.items old.ended c.in-Some.place c.args.line c.requires.running c.in-Some.ensures.found in
    ap (weight_in weight) c.end.ensures.slots
    ∙ weight-ended old.slots.items c.in-Some.place c.args.line there.0 there.1 (line_alone old.count old.lines old.slots.items old.listed.items old.ended c.in-Some.place c.args.line c.requires.running c.in-Some.ensures.found) weight

pub returns-in-Some-clause-sums : goal.returns-in-Some-clause-sums
returns-in-Some-clause-sums c asked =
    let old = c.args.self.now in
    let there = line_there old.count old.lines old.slots.items old.listed.items old.ended c.in-Some.place c.args.line c.requires.running c.in-Some.ensures.found in
    let time = to_z-of_z w32 c.args.time c.ranges.time in
    let on = weight-on old.slots.items c.in-Some.place c.args.line there.0 there.1 (line_alone old.count old.lines old.slots.items old.listed.items old.ended c.in-Some.place c.args.line c.requires.running c.in-Some.ensures.found) (weighed old.ended.keeps_sessions asked old.clock c.args.time) in
    c.end.ensures.sums asked ∙ (λ i. measured old.ended asked + weight_at (weighed old.ended.keeps_sessions asked old.clock (time i)) (slot_at old.slots.items c.in-Some.place)) ∙ ap (λ n. measured old.ended asked + n) (sym on)

pub returns-in-Some-clause-running : goal.returns-in-Some-clause-running
returns-in-Some-clause-running c =
    let old = c.args.self.now in
    let new = c.end.new.self in
    let there = line_there old.count old.lines old.slots.items old.listed.items old.ended c.in-Some.place c.args.line c.requires.running c.in-Some.ensures.found in
    let kept = kept-closed old.count old.lines old.slots.items old.listed.items old.ended new.ended c.in-Some.place c.requires.running there.0 c.end.ensures.grown in
    let lines : new.lines ≡ old.lines = ap (λ (r : Running). r.lines) c.end.ensures.rest ∙ c.find.ensures.same in
    let listed : new.listed.items ≡ old.listed.items = ap (λ (r : Running). r.listed.items) c.end.ensures.rest in
    subst (λ (l : Numbers). AreKept old.count l new.slots.items new.listed.items new.ended) (sym lines)
    (subst (λ (ss : List Slot). AreKept old.count old.lines ss new.listed.items new.ended) (sym c.end.ensures.slots)
    (subst (λ (ls : List ℕ). AreKept old.count old.lines (set old.slots.items c.in-Some.place (closed (slot_at old.slots.items c.in-Some.place))) ls new.ended) (sym listed) kept))

pub returns-in_default-clause-opens : goal.returns-in_default-clause-opens
returns-in_default-clause-opens c weight =
    let old = c.args.self.now in
    weight-off_none old.slots.items c.args.line (line_none old.count old.lines old.slots.items old.listed.items old.ended c.args.line c.requires.running c.in_default.ensures.absent) weight

pub returns-in_default-clause-sums : goal.returns-in_default-clause-sums
returns-in_default-clause-sums c asked =
    let old = c.args.self.now in
    let none = weight-on_none old.slots.items c.args.line (line_none old.count old.lines old.slots.items old.listed.items old.ended c.args.line c.requires.running c.in_default.ensures.absent) (weighed old.ended.keeps_sessions asked old.clock c.args.time) in
    omega (arith, none)
