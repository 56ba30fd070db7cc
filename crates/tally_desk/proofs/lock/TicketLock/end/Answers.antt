use Rattle.std.proofs.Common.{◌≡◌, ◌∙◌, ap, sym}
use Rattle.tally_book.specs.Contents.{Contents}
use Rattle.tally_desk.specs.inside.Seats.{turn}
use Rattle.tally_desk.specs.inside.Views.{knowing}
use Rattle.tally_desk.specs.Passes.{Sat}
use Rattle.tally_desk.proofs.lock.TicketLock.end.Goals as goal

pub count-requires-clause-made : goal.count-requires-clause-made
count-requires-clause-made c = let m = c.requires.made in (m.0, m.1, m.2, m.3, rw c.if-answered.true at m.4, m.5)

pub leave-requires-clause-serves : goal.leave-requires-clause-serves
leave-requires-clause-serves c = let m = c.requires.made in (knowing m.3 m.0, m.1, m.3, c.count.ensures.counted m.0 m.1 m.2 m.3 m.5)

pub leave-requires-else-answered-clause-serves : goal.leave-requires-else-answered-clause-serves
leave-requires-else-answered-clause-serves c =
    let m = c.requires.made in
    let same : m.3 ≡ m.2 = rw c.if-answered.false at m.4 in (m.0, m.1, m.3, ◌∙◌ {A = Sat} m.5 (ap (λ (b : Contents). turn m.0 m.1 b m.3) (sym same)))

pub returns-then-answered-clause-idle : goal.returns-then-answered-clause-idle
returns-then-answered-clause-idle c = λ k ticket before after kind e. c.leave.ensures.idle (knowing after k) ticket after (c.count.ensures.counted k ticket before after e)

pub returns-else-answered-clause-idle : goal.returns-else-answered-clause-idle
returns-else-answered-clause-idle c = λ k ticket before after kind e.
    let same : after ≡ before = rw c.if-answered.false at kind in
    c.leave-else-answered.ensures.idle k ticket after (◌∙◌ {A = Sat} e (ap (λ (b : Contents). turn k ticket b after) (sym same)))
