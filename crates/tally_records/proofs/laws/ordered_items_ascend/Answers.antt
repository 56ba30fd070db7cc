use Rattle.tally_records.proofs.SortedLemmas.{in_order-ascends}
use Rattle.tally_records.proofs.laws.ordered_items_ascend.Goals as goal

pub returns : goal.returns
returns g c items = in_order-ascends g.met.T.Ord.total items
