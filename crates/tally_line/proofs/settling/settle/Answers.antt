use Rattle.std.proofs.Common.{FitsSigned, rules, to_z-of_z, w32}
use Rattle.tally_line.proofs.SettledLemmas.{runs_settled}
use Rattle.tally_line.proofs.settling.settle.Goals as goal

pub returns-clause-value : goal.returns-clause-value
returns-clause-value c =
    let minutes : FitsSigned w32 c.args.job.now.offset = search rules in
    let now = c.ranges.now in
    let are = simp to_z-of_z at c.seconds_of.ensures in
    (c.seconds_of.result, are, c.settled.ensures)

pub returns-clause-runnable : goal.returns-clause-runnable
returns-clause-runnable c = runs_settled _ _ c.args.times.now c.args.job.now c.seconds_of.result c.settled.result c.seconds_of.ensures c.settled.ensures
