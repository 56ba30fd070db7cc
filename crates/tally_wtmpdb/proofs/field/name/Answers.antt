use Rattle.std.proofs.Common.{ap, ◌∙◌}
use Rattle.tally_records.specs.Text.{padded}
use Rattle.tally_wtmpdb.specs.Fields.{field}
use Rattle.tally_wtmpdb.proofs.field.name.Goals as goal

pub returns : goal.returns
unfolding field
returns c = c.padded.ensures ∙ ap (padded 32) c.kept.ensures.value
