use Rattle.std.proofs.Common.{rules, ◌∙◌}
use Rattle.tally_records.specs.inside.Compact.Layout.{word_bytes}
use Rattle.tally_records.proofs.Compact.Laying.{laid_more}
use Rattle.tally_records.proofs.login.head.lay.Goals as goal

pub loop-k-preserved : goal.loop-k-preserved
unfolding word_bytes
loop-k-preserved c = record {
  len = search rules;
  laid = laid_more c.args.words.now c.args.field.now c.loop-k.field c.copy_from_slice.new.self c.loop-k.k c.loop-k-test.true c.loop-k.invariant.laid (c.copy_from_slice.ensures.after ∙ c.to_le_bytes.ensures);
}
