use Rattle.std.proofs.Common.{None, Some, arith}
use Rattle.tally_sessions.proofs.track.EndedTables.{added_by}
use Rattle.tally_sessions.proofs.track.ended.EndedSums.add.Goals as goal

pub overflow_add-self : goal.overflow_add-self
overflow_add-self c = let f = c.requires.fits None in omega (arith, f, c.from.ensures)

pub add_at-requires-clause-fits : goal.add_at-requires-clause-fits
add_at-requires-clause-fits c name there = let f = c.requires.fits (Some name) in omega (arith, f, c.from-2.ensures)

pub returns-clause-sums : goal.returns-clause-sums
returns-clause-sums c name there None = omega (arith, c.from.ensures)
returns-clause-sums c name there (Some user) = added_by name c.args.self.now.users.entries c.add_at.new.self.entries c.args.seconds c.from-2.result c.from-2.ensures (c.add_at.ensures.set name there) user
