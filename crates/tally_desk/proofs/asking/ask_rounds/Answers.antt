use Rattle.std.proofs.Common.{◌∙◌, length, subst, sym}
use Rattle.std.proofs.lemmas.Result.{err_from_is_err_and}
use Rattle.tally_desk.specs.Rounds.{Asks}
use Rattle.tally_desk.proofs.AskLemmas.{asks_more, next_round, round_fits, rounds_more, stops_round}
use Rattle.tally_desk.proofs.KeepLemmas.{keeps_trans, still_current}
use Rattle.tally_desk.proofs.asking.ask_rounds.Goals as goal

pub ask_all-requires-clause-desk : goal.ask_all-requires-clause-desk
ask_all-requires-clause-desk g c = c.loop.invariant.keeps.desk ∙ c.requires.desk

pub ask_all-requires-clause-askable : goal.ask_all-requires-clause-askable
ask_all-requires-clause-askable g c = c.requires.askable

pub ask_all-requires-clause-few : goal.ask_all-requires-clause-few
ask_all-requires-clause-few g c =
    round_fits (length c.args.questions.now) c.loop.counter c.args.rounds c.loop.turn c.loop.invariant.turn c.loop-test.true c.requires.few

pub returns-in_err-turn-clause-keeps : goal.returns-in_err-turn-clause-keeps
returns-in_err-turn-clause-keeps g c =
    keeps_trans c.args.pass.now c.loop.pass c.ask_all.new.pass c.loop.invariant.keeps c.in_err-turn.ensures.keeps

pub returns-in_err-turn-clause-current : goal.returns-in_err-turn-clause-current
returns-in_err-turn-clause-current g c =
    still_current c.args.pass.now c.loop.pass c.ask_all.new.pass c.loop.invariant.current c.in_err-turn.ensures.current

pub returns-in_err-turn-clause-count : goal.returns-in_err-turn-clause-count
returns-in_err-turn-clause-count g c =
    let p = err_from_is_err_and c.from_residual.result c.from_residual.ensures.1 in
    rw p.1 tt

pub returns-in_err-turn-clause-asked : goal.returns-in_err-turn-clause-asked
returns-in_err-turn-clause-asked g c =
    let p = err_from_is_err_and c.from_residual.result c.from_residual.ensures.1 in
    rw p.1 tt

pub returns-in_err-turn-clause-stops : goal.returns-in_err-turn-clause-stops
returns-in_err-turn-clause-stops g c =
    let p = err_from_is_err_and c.from_residual.result c.from_residual.ensures.1 in
    rw (p.1, p.2) (stops_round c.args.pass.now c.loop.pass c.ask_all.new.pass c.args.questions.now c.loop.counter c.args.rounds _ c.loop-test.true c.loop.invariant.asked c.in_err-turn.ensures.stops)

pub loop-preserved : goal.loop-preserved
loop-preserved g c =
    let questions = c.args.questions.now in
    let round = c.in_ok-turn.ensures in
    let before = c.loop.invariant in
    record {
      keeps = keeps_trans c.args.pass.now c.loop.pass c.ask_all.new.pass before.keeps round.keeps;
      current = still_current c.args.pass.now c.loop.pass c.ask_all.new.pass before.current round.current;
      turn = next_round (length questions) c.loop.counter c.loop.turn _ before.turn round.next;
      asked = subst (Asks c.args.pass.now c.ask_all.new.pass) (sym (rounds_more c.loop.counter questions))
          (asks_more c.args.pass.now c.loop.pass c.ask_all.new.pass _ questions before.asked round.asked);
    }
