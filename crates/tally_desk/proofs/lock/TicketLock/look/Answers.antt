use Rattle.std.proofs.Common.{ap}
use Rattle.tally_desk.specs.Passes.{Sat}
use Rattle.tally_desk.proofs.Keeps.{looks}
use Rattle.tally_desk.proofs.Looks.{looked}
use Rattle.tally_desk.proofs.lock.TicketLock.look.Goals as goal

pub read_word-requires-clause-allowed : goal.read_word-requires-clause-allowed
read_word-requires-clause-allowed c = looks _ _ _ _ c.requires.waits.0 c.requires.waits.1 c.requires.waits.3

pub returns-clause-turn : goal.returns-clause-turn
returns-clause-turn c = λ k drawn same e.
    rw same (looked _ c.args.seat.now.me c.read_word.new.seat.me k drawn e (c.read_word.ensures.then drawn (ap (λ (m : Sat). m.0.stage) e)))
