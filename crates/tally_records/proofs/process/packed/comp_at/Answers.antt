use Rattle.std.proofs.Common.{◌∙◌, arith, ◌-◌}
use Rattle.tally_records.proofs.Words.{little_number-two}
use Rattle.tally_records.proofs.process.packed.comp_at.Goals as goal

pub returns : goal.returns
returns c = c.read_u16.ensures ∙ little_number-two c.args.offset (64 - c.args.offset) c.args.bytes.now (omega arith)
