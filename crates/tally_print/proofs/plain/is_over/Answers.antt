use Rattle.std.proofs.Common.{arith}
use Rattle.tally_print.proofs.FieldLemmas.{over_at_byte, over_at_end}
use Rattle.tally_print.proofs.plain.is_over.Goals as goal

pub returns-then-at-field : goal.returns-then-at-field
returns-then-at-field c = over_at_end c.args.field.now c.args.at (omega arith)

pub returns : goal.returns
returns c = over_at_byte c.args.field.now c.args.at (omega arith)
