use Rattle.std.proofs.Common.{◌∙◌, eqb-true, sym}
use Rattle.tally_sessions.proofs.entries.HostPlaces.{host_there}
use Rattle.tally_sessions.proofs.entries.Lending.{within_list}
use Rattle.tally_sessions.proofs.entries.Entries.is_of.Goals as goal

pub host-requires : goal.host-requires
host-requires c = within_list c.args.self c.args.at c.requires

pub returns-clause-own : goal.returns-clause-own
returns-clause-own c = λ own. host_there c.args.self c.args.at c.args.host c.requires (sym (eqb-true c.host.result c.args.host own) ∙ c.host.ensures)
