use Rattle.tally_records.proofs.Members.{Member-from_Contains, Contains-from_Member}
use Rattle.tally_records.proofs.SortedLemmas.{in_order-from}
use Rattle.tally_records.proofs.laws.ordered_items_are_all.Goals as goal

pub returns : goal.returns
returns g c item items found =
    Contains-from_Member items item (in_order-from g.met.T.Ord.total item items (Member-from_Contains _ item found))
