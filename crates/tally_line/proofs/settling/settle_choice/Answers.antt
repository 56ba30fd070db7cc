use Rattle.std.proofs.Common.{FitsSigned, rules, to_z-of_z, w32}
use Rattle.tally_line.proofs.settling.settle_choice.Goals as goal

pub returns : goal.returns
returns c =
    let minutes : FitsSigned w32 c.args.minutes = search rules in
    let now = c.ranges.now in
    let are = simp to_z-of_z at c.seconds_of.ensures in
    (c.seconds_of.result, are, c.chosen_procs.ensures)
