use Rattle.std.proofs.Common.{◌∙◌, List, ap, sym}
use Rattle.tally_sessions.specs.declared.sums.Session.{Session}
use Rattle.tally_sessions.specs.Sums.{seconds_in}
use Rattle.tally_sessions.proofs.sums.EverySession.{every_chosen, every_total}
use Rattle.tally_sessions.proofs.sessions.Sessions.total.Goals as goal

pub returns-then-is_every-clause-value : goal.returns-then-is_every-clause-value
returns-then-is_every-clause-value c =
    let es = c.args.self.now.entries in
    let all = every_chosen c.args.choice.now es c.args.until (sym c.is_every.ensures ∙ c.if-is_every.true) in
    c.all_seconds.ensures.value ∙ every_total es c.args.until ∙ ap (λ (ss : List Session). seconds_in ss) (sym all)
