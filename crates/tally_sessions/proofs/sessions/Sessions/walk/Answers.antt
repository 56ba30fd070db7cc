use Rattle.std.proofs.Common.{◌≤◌, List, length, sym, subst}
use Rattle.tally_sessions.specs.declared.sums.Session.{Session}
use Rattle.tally_sessions.proofs.sums.SessionLists.{few_sessions}
use Rattle.tally_sessions.proofs.sessions.Sessions.walk.Goals as goal

pub returns-clause-few : goal.returns-clause-few
returns-clause-few c =
    subst (λ (ss : List Session). length ss ≤ 16777216) (sym (c.first.ensures c.args.choice.now c.args.self.now.entries c.args.until))
    (few_sessions c.args.choice.now c.args.until c.entries.ensures.value c.entries.ensures.few)
