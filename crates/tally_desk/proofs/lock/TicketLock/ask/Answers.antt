use Rattle.std.proofs.Common.{◌≡◌, ◌∙◌, arith, sym}
use Rattle.tally_book.specs.Books.{IsServed, asked}
use Rattle.tally_desk.specs.Passes.{Sat}
use Rattle.tally_desk.proofs.Ends.{ended, made}
use Rattle.tally_desk.proofs.Histories.{asked_next}
use Rattle.tally_desk.proofs.Seats.{same_number}
use Rattle.tally_desk.proofs.lock.TicketLock.ask.Goals as goal

pub ask_out-made-requires-clause-turn : goal.ask_out-made-requires-clause-turn
ask_out-made-requires-clause-turn g c =
    let k = c.requires.caller.0 in
    let t = c.enter.ensures.turn k c.requires.caller.1 in (k, t.0, t.1, t.2, omega (arith, t.4.seen.callers, c.requires.caller.2, c.requires.caller.3))

pub end-requires-clause-made : goal.end-requires-clause-made
end-requires-clause-made g c =
    let k = c.requires.caller.0 in
    let own = c.requires.caller.2 in
    let t = c.enter.ensures.turn k c.requires.caller.1 in
    let question = c.args.question.now in
    let now = made k t.0 c.args.number t.1 (λ n. asked t.1 n question) (λ now r. IsServed t.1 now question r) _ own (asked_next t.1 c.args.number k.number question own) _ _ t.2 c.ask_out-made.result _ c.is_ok.ensures.value (c.ask_out-made.ensures.asked k t.0 t.1 t.2) in
    (k, t.0, t.1, now.0, now.1, now.2)

pub returns-clause-asked : goal.returns-clause-asked
returns-clause-asked g c = λ k e.
    let own : c.args.number ≡ k.number = c.requires.caller.2 ∙ same_number c.requires.caller.0 k (◌∙◌ {A = Sat} (sym c.requires.caller.1) e) in
    let t = c.enter.ensures.turn k e in
    let question = c.args.question.now in
    (t.1, t.4, t.3, ended k t.0 c.args.number t.1 (λ n. asked t.1 n question) (λ now r. IsServed t.1 now question r) _ own (asked_next t.1 c.args.number k.number question own) _ _ t.2 _ c.ask_out-made.result _ c.is_ok.ensures.value c.end.ensures.idle (c.ask_out-made.ensures.asked k t.0 t.1 t.2))
