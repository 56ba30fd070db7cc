use Rattle.std.proofs.Common.{◌∙◌}
use Rattle.tally_line.proofs.LineLemmas.{no_word_here, word_in}
use Rattle.tally_line.proofs.words.file_word.Goals as goal

pub returns-in_ok-from_str-in-Ok-clause-word : goal.returns-in_ok-from_str-in-Ok-clause-word
returns-in_ok-from_str-in-Ok-clause-word c =
    c.in_ok-from_str-in-Ok.ensures.ok ∙ word_in _ c.in_ok-command.command c.in_ok-command.ensures.shape c.in-Ok.matches c.args.index _ c.in-Ok.ensures.matches c.word_at.ensures

pub returns-in-Err-clause-err : goal.returns-in-Err-clause-err
returns-in-Err-clause-err c =
    no_word_here _ c.in_ok-command.command c.in_ok-command.ensures.shape c.in-Err.error _ c.in-Err.ensures.kinds c.fault_of.ensures.memory c.fault_of.ensures.kind
