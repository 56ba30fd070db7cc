use Rattle.std.proofs.Common.{◌≡◌, Some, IfSome, slice_get, ap, subst}
use Rattle.std.specs.Map.{keys_of}
use Rattle.tally_sessions.specs.inside.Numbers.{Numbers}
use Rattle.tally_sessions.proofs.track.Names.{found_key}
use Rattle.tally_sessions.proofs.track.name_table.NameTable.search.Goals as goal

pub returns-clause-found : goal.returns-clause-found
returns-clause-found c =
    subst (λ es. IfSome c.get_index_of.result (λ i. slice_get (keys_of es) i ≡ Some c.args.name.now)) (ap (λ (t : Numbers). t.entries) c.self.view_is)
    (found_key (keys_of c.self.inside.numbers.entries) c.args.name.now c.get_index_of.result c.get_index_of.ensures.index)
