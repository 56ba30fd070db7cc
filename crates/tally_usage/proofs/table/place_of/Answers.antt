use Rattle.indexmap.specs.IndexMap.{keys}
use Rattle.tally_usage.proofs.TotalsLemmas.{found_key}
use Rattle.tally_usage.proofs.table.place_of.Goals as goal

pub returns-clause-found : goal.returns-clause-found
returns-clause-found g c = found_key g.met.K.GroupKey.exact (keys c.args.table.now) c.args.key.now c.get_index_of.result c.get_index_of.ensures.index
