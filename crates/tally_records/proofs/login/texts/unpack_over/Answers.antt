use Rattle.std.proofs.Common.{◌∙◌}
use Rattle.tally_records.proofs.Compact.Laying.{laid_zeros}
use Rattle.tally_records.proofs.login.texts.unpack_over.Goals as goal

pub returns : goal.returns
returns g c = c.lay.ensures ∙ laid_zeros g.row.N c.args.words.now
