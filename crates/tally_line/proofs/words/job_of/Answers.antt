use Rattle.std.proofs.lemmas.Result.{IfErr-weaker, IfOk-weaker}
use Rattle.tally_line.proofs.LineLemmas.{answers, complete_matches, refused_answers, refused_refuses, refuses}
use Rattle.tally_line.proofs.words.job_of.Goals as goal

pub run_of-requires : goal.run_of-requires
run_of-requires c = complete_matches _ c.in_ok-command.command c.in_ok-command.ensures.shape c.in-Ok.matches c.in-Ok.ensures.matches c.in-Ok.ensures.kinds

pub returns-in-Ok-clause-ok : goal.returns-in-Ok-clause-ok
returns-in-Ok-clause-ok c = IfOk-weaker c.run_of.result _ _
    (λ l found. answers _ c.in_ok-command.command c.in_ok-command.ensures.shape c.in-Ok.matches l c.in-Ok.ensures.matches c.in-Ok.ensures.kinds found) c.run_of.ensures.ok

pub returns-in-Ok-clause-err : goal.returns-in-Ok-clause-err
returns-in-Ok-clause-err c = IfErr-weaker c.run_of.result _ _
    (λ f found. refuses _ c.in_ok-command.command c.in_ok-command.ensures.shape c.in-Ok.matches f c.in-Ok.ensures.matches c.in-Ok.ensures.kinds found) c.run_of.ensures.err

pub returns-in-Err-clause-ok : goal.returns-in-Err-clause-ok
returns-in-Err-clause-ok c =
    refused_answers _ c.in_ok-command.command c.in_ok-command.ensures.shape c.in-Err.error _ c.in-Err.ensures.kinds c.refused.ensures.memory c.refused.ensures.ok

pub returns-in-Err-clause-err : goal.returns-in-Err-clause-err
returns-in-Err-clause-err c =
    refused_refuses _ c.in_ok-command.command c.in_ok-command.ensures.shape c.in-Err.error _ c.in-Err.ensures.kinds c.refused.ensures.memory c.refused.ensures.err
