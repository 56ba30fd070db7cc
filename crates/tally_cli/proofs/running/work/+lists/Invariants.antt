use Rattle.std.proofs.Common.{◌+◌, ◌*◌, length}
use Rattle.tally_cli.proofs.running.work.+lists.Given as goal

abbrev pub decreases-carry_out_lists : goal.decreases-carry_out_lists
decreases-carry_out_lists g l = 2 * length l.lists.items

abbrev pub decreases-before : goal.decreases-before
decreases-before g l = 2 * length l.lists.items + 1
