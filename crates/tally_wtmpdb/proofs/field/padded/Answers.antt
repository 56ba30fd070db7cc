use Rattle.tally_wtmpdb.proofs.Fields.{name_is}
use Rattle.tally_wtmpdb.proofs.field.padded.Goals as goal

pub returns : goal.returns
returns c = name_is c.args.text.now _ c.copy_from_slice.ensures.after
