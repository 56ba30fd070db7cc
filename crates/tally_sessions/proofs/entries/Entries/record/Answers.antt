use Rattle.tally_sessions.proofs.entries.Lending.{within_list}
use Rattle.tally_sessions.proofs.entries.Entries.record.Goals as goal

pub record-requires : goal.record-requires
record-requires c = within_list c.args.self c.args.at c.requires
