use Rattle.std.proofs.Common.{◌≡◌, take}
use Rattle.tally_cli.specs.Output.{stays_asked}
use Rattle.tally_cli.proofs.running.sections.stays_asked.Given as goal

abbrev pub invariant-loop-host : goal.invariant-loop-host
invariant-loop-host l = l.questions.items ≡ stays_asked l.fn.wanted l.fn.limit l.choice (take l.host l.fn.kinds) l.fn.until
