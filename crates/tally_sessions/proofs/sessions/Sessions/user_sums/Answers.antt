use Rattle.std.proofs.Common.{◌∙◌, List, ap, sym, arith}
use Rattle.std.proofs.lemmas.Result.{IfOk-weaker, on_ok_weaker}
use Rattle.tally_sessions.specs.declared.sums.Session.{Session}
use Rattle.tally_sessions.specs.Sums.{seconds_in, seconds_of_user}
use Rattle.tally_sessions.proofs.sums.EverySession.{every_chosen, every_total, every_user}
use Rattle.tally_sessions.proofs.sessions.Sessions.user_sums.Goals as goal

pub returns-then-is_every-clause-value : goal.returns-then-is_every-clause-value
returns-then-is_every-clause-value c =
    let es = c.args.self.now.entries in
    let all = every_chosen c.args.choice.now es c.args.until (sym c.is_every.ensures ∙ c.if-is_every.true) in
    IfOk-weaker c.all_user_sums.result _ _ (λ sums at user. at user ∙ every_user user es c.args.until ∙ ap (λ (ss : List Session). seconds_of_user user ss) (sym all)) c.all_user_sums.ensures.value

pub returns-then-is_every-clause-each : goal.returns-then-is_every-clause-each
returns-then-is_every-clause-each c =
    let es = c.args.self.now.entries in
    let all = every_chosen c.args.choice.now es c.args.until (sym c.is_every.ensures ∙ c.if-is_every.true) in
    on_ok_weaker c.all_user_sums.result (λ fits. omega (arith, fits, every_total es c.args.until, ap (λ (ss : List Session). seconds_in ss) all)) c.all_user_sums.ensures.each

pub returns-then-is_every-clause-fits : goal.returns-then-is_every-clause-fits
returns-then-is_every-clause-fits c =
    let es = c.args.self.now.entries in
    let all = every_chosen c.args.choice.now es c.args.until (sym c.is_every.ensures ∙ c.if-is_every.true) in
    on_ok_weaker c.all_user_sums.result (λ fits. omega (arith, fits, every_total es c.args.until, ap (λ (ss : List Session). seconds_in ss) all)) c.all_user_sums.ensures.fits
