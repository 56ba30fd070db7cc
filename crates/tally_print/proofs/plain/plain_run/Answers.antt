use Rattle.tally_print.proofs.RunLemmas.{run_from_lanes}
use Rattle.tally_print.proofs.plain.plain_run.Goals as goal

pub returns : goal.returns
returns c = run_from_lanes c.args.field.now c.args.at _ c.requires c.type_inv.field c.lowest_bit.ensures
