use Rattle.std.proofs.Common.{◌∙◌, ◌≡◌, arith}
use Rattle.tally_desk.specs.Passes.{Sat}
use Rattle.tally_desk.proofs.Looks.{looked_before, next_waits}
use Rattle.tally_desk.proofs.lock.TicketLock.turns_before.Goals as goal

pub look-requires-clause-waits : goal.look-requires-clause-waits
look-requires-clause-waits c = let w = c.requires.waits in (w.0, w.1, w.2, ◌∙◌ {A = Sat} c.loop.invariant.same w.3)

pub returns-then-before-ne1-clause-turn : goal.returns-then-before-ne1-clause-turn
returns-then-before-ne1-clause-turn c = λ k drawn is waits.
    looked_before _ _ _ _ _ c.turns_from-before.ensures (λ same. ◌∙◌ {A = Sat} same c.loop.invariant.same)
    (c.look.ensures.turn k drawn is (◌∙◌ {A = Sat} c.loop.invariant.same waits))

pub loop-preserved : goal.loop-preserved
loop-preserved c =
    let w = c.requires.waits in
    let told = c.look.ensures in
    let one : c.turns_from-before.result ≡ 1 = omega (arith, c.if-before-ne1.false) in
    let same = next_waits _ _ c.turns_from-before.result _ one c.turns_from-before.ensures (told.turn w.0 w.1 w.2 (◌∙◌ {A = Sat} c.loop.invariant.same w.3)) in
    record {
      table = told.table ∙ c.loop.invariant.table;
      same = ◌∙◌ {A = Sat} same c.loop.invariant.same;
    }
