use Rattle.std.proofs.Common.{◌≡◌, ◌∙◌, ◌+◌, ◌-◌, ◌++◌, ◌∷◌, [], ◌<◌, ℕ, Some, length, get_or, take, pos, sym, ap, subst, arith}
use Rattle.std.proofs.lemmas.List.{append_assoc, take_more}
use Rattle.std.proofs.lemmas.Option.{slice_get-get_or}
use Rattle.std.specs.Prelude.{slice_get}
use Rattle.tally_records.specs.declared.login.LoginRecord.{LoginRecord}
use Rattle.tally_sessions.specs.ConnectSums.{IsCountOf}
use Rattle.tally_sessions.specs.inside.Running.{counted_in}
use Rattle.tally_sessions.proofs.connect_sums.CountLemmas.{IsCountOf-step}
use Rattle.tally_sessions.proofs.connect_sums.KeptLemmas.{some-places}
use Rattle.tally_sessions.proofs.connect_sums.running.Running.go_over.Goals as goal

pub advance-requires-clause-room : goal.advance-requires-clause-room
advance-requires-clause-room c =
    let left : ℕ = length c.args.records.now - c.loop-at.at - 1 in
    some-places left c.loop-at.self (c.loop-at.invariant.room (left + 1) (omega (arith, c.loop-at-test.true, c.len-at-end.ensures)))

pub loop-at-preserved : goal.loop-at-preserved
loop-at-preserved c =
    let all = c.args.records.now in
    let at = c.loop-at.at in
    let none : LoginRecord = record { kind = 0; line = []; user = []; remote = []; time = pos 0 } in
    let x = get_or all at none in
    let within : at < length all = omega (arith, c.loop-at-test.true, c.len-at-end.ensures) in
    let here : slice_get all at ≡ Some x = slice_get-get_or all at none within in record {
      running = c.advance.ensures.running;
      moved = c.advance.ensures.moved;
      count = omega (arith, c.advance.ensures.count, c.loop-at.invariant.count);
      keeps = c.advance.ensures.keeps ∙ c.loop-at.invariant.keeps;
      counted = λ rs h.
          subst (IsCountOf (counted_in c.advance.new.self)) (append_assoc rs (take at all) (x ∷ []) ∙ ap (λ ys. rs ++ ys) (sym (take_more all at none within)))
          (IsCountOf-step (counted_in c.loop-at.self) (counted_in c.advance.new.self) (rs ++ take at all) x (c.advance.ensures.step x here) (c.loop-at.invariant.counted rs h));
      room = λ k e. c.advance.ensures.room_left k (c.loop-at.invariant.room (k + 1) (omega (arith, e)));
    }
