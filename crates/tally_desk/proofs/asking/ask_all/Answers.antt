use Rattle.std.proofs.Common.{◌∙◌, inr}
use Rattle.std.proofs.lemmas.Result.{err_from_is_err_and}
use Rattle.tally_desk.proofs.AskLemmas.{asks_all, asks_next, one_more_turn, stops_here}
use Rattle.tally_desk.proofs.KeepLemmas.{keeps_trans}
use Rattle.tally_desk.proofs.asking.ask_all.Goals as goal

pub ask_next-requires-clause-desk : goal.ask_next-requires-clause-desk
ask_next-requires-clause-desk g c = c.loop-question.invariant.keeps.desk ∙ c.requires.desk

pub ask_next-requires-clause-askable : goal.ask_next-requires-clause-askable
ask_next-requires-clause-askable g c = c.requires.askable c.loop-question.question-index _ c.loop-question-test.true

pub returns-in_err-ask_next-clause-keeps : goal.returns-in_err-ask_next-clause-keeps
returns-in_err-ask_next-clause-keeps g c =
    keeps_trans c.args.pass.now c.loop-question.pass c.ask_next.new.pass c.loop-question.invariant.keeps c.in_err-ask_next.ensures.keeps

pub returns-in_err-ask_next-clause-current : goal.returns-in_err-ask_next-clause-current
returns-in_err-ask_next-clause-current g c = inr c.in_err-ask_next.ensures.current

pub returns-in_err-ask_next-clause-next : goal.returns-in_err-ask_next-clause-next
returns-in_err-ask_next-clause-next g c =
    let p = err_from_is_err_and c.from_residual.result c.from_residual.ensures.1 in
    rw p.1 tt

pub returns-in_err-ask_next-clause-asked : goal.returns-in_err-ask_next-clause-asked
returns-in_err-ask_next-clause-asked g c =
    let p = err_from_is_err_and c.from_residual.result c.from_residual.ensures.1 in
    rw p.1 tt

pub returns-in_err-ask_next-clause-stops : goal.returns-in_err-ask_next-clause-stops
returns-in_err-ask_next-clause-stops g c =
    let p = err_from_is_err_and c.from_residual.result c.from_residual.ensures.1 in
    let refused = c.in_err-ask_next.ensures in
    rw (p.1, p.2) (stops_here c.args.pass.now c.loop-question.pass c.ask_next.new.pass c.args.questions.now c.loop-question.question-index _ c.loop-question-test.true c.loop-question.invariant.asked _ refused.refused refused.cause)

pub loop-question-preserved : goal.loop-question-preserved
loop-question-preserved g c =
    let before = c.loop-question.invariant in
    let answered = c.in_ok-ask_next.ensures in
    record {
      keeps = keeps_trans c.args.pass.now c.loop-question.pass c.ask_next.new.pass before.keeps answered.keeps;
      current = inr answered.current;
      next = one_more_turn _ c.args.turn c.loop-question.question-index before.next;
      asked = asks_next c.args.pass.now c.loop-question.pass c.ask_next.new.pass c.args.questions.now c.loop-question.question-index _ c.loop-question-test.true before.asked answered.asked;
    }

pub returns-clause-keeps : goal.returns-clause-keeps
returns-clause-keeps g c = c.loop-question.invariant.keeps

pub returns-clause-current : goal.returns-clause-current
returns-clause-current g c = c.loop-question.invariant.current

pub returns-clause-asked : goal.returns-clause-asked
returns-clause-asked g c =
    asks_all c.args.pass.now c.loop-question.pass c.args.questions.now c.loop-question.question-index c.loop-question-test.false c.loop-question.invariant.asked

pub returns-clause-stops : goal.returns-clause-stops
returns-clause-stops g c = tt
