use Rattle.std.proofs.Common.{take}
use Rattle.std.proofs.lemmas.List.{length-take-le}
use Rattle.tally_records.proofs.NameLemmas.{text_from_lanes}
use Rattle.tally_records.proofs.process.name.short_text.Goals as goal

pub returns : goal.returns
returns c = text_from_lanes (take 16 c.args.field.now) c.lowest_bit-end.result (length-take-le 16 c.args.field.now c.requires) c.lowest_bit-end.ensures
