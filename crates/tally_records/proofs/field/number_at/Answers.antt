use Rattle.std.proofs.Common.{◌∙◌, arith, length, ◌-◌}
use Rattle.tally_records.proofs.Words.{little_number-four}
use Rattle.tally_records.proofs.field.number_at.Goals as goal

pub returns : goal.returns
returns c = c.read_u32.ensures ∙ little_number-four c.args.offset (length c.args.bytes.now - c.args.offset) c.args.bytes.now (omega arith)
