use Rattle.std.proofs.Common.{◌∙◌, ◌≡◌, arith}
use Rattle.tally_desk.specs.Passes.{Sat}
use Rattle.tally_desk.proofs.Looks.{equal, unequal}
use Rattle.tally_desk.proofs.lock.TicketLock.enter.Goals as goal

pub turns_before-before-requires-clause-waits : goal.turns_before-before-requires-clause-waits
turns_before-before-requires-clause-waits g c = let t = c.loop.invariant.waits c.requires.idle.0 c.requires.idle.1 in (c.requires.idle.0, t.0, t.1, t.2)

pub returns-then-before-eq0-clause-turn : goal.returns-then-before-eq0-clause-turn
returns-then-before-eq0-clause-turn g c = λ k e.
    let t = c.loop.invariant.waits k e in
    let now = equal _ _ c.turns_before-before.result 0 (omega (arith, c.if-before-eq0.true)) (c.turns_before-before.ensures.turn k t.0 t.1 t.2) in (t.0, now.0, now.1, now.2, now.3)

pub loop-preserved : goal.loop-preserved
loop-preserved g c = record {
  next = tt;
  finite = tt;
  table = c.turns_before-before.ensures.table ∙ c.loop.invariant.table;
  waits = λ k e.
      let t = c.loop.invariant.waits k e in
      let same = unequal _ _ c.turns_before-before.result 0 (λ (none : c.turns_before-before.result ≡ 0). omega (arith, none, c.if-before-eq0.false)) (c.turns_before-before.ensures.turn k t.0 t.1 t.2) in (t.0, t.1, ◌∙◌ {A = Sat} same t.2);
}
