use Rattle.std.proofs.Common.{◌∙◌, ◌<◌, ◌∷◌, ◌+◌, ◌+ℤ◌, ◌-ℤ◌, drop, length, map, sym, ap, arith, rules}
use Rattle.std.proofs.lemmas.Int.{to_z-of_z}
use Rattle.std.specs.Int.{w32, w64}
use Rattle.std.specs.Prelude.{FitsSigned}
use Rattle.tally_sessions.specs.Opens.{session_at}
use Rattle.tally_sessions.specs.Stays.{clamped}
use Rattle.tally_sessions.specs.inside.Slots.{opens_in}
use Rattle.tally_sessions.proofs.connect_sums.WalkLemmas.{open-next}
use Rattle.tally_sessions.proofs.connect_sums.kept_sessions.KeptSessions.next_open.Goals as goal

pub returns-then-slot-clause-next : goal.returns-then-slot-clause-next
returns-then-slot-clause-next c =
    let at = c.loop-self.self in
    let r = at.running.now in
    let s = c.index-slot.result.now in
    let within : at.slot < length r.slots.items = omega (arith, c.loop-self-test.true, c.len.ensures, r.slots.ok.0) in
    let time_fits : FitsSigned w32 at.time = search rules in
    let clock_fits : FitsSigned w64 r.clock = search rules in
    let session = c.session.ensures in
    let begin = session.begin ∙ (λ i. clamped (s.start +ℤ (to_z-of_z w64 r.clock clock_fits i -ℤ s.clock_at))) in
    sym c.loop-self.invariant.ahead
    ∙ ap (map (session_at r.clock at.time)) (open-next r.slots.items at.slot s within c.index-slot.ensures c.if-slot.true)
    ∙ (λ i. record { user = sym session.user i; begin = sym begin i; end_time = sym (session.end_time ∙ to_z-of_z w32 at.time time_fits) i } ∷ map (session_at r.clock at.time) (opens_in (drop (at.slot + 1) r.slots.items)))
