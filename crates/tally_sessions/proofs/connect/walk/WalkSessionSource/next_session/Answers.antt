use Rattle.std.proofs.Common.{◌≡◌, ◌∙◌, ◌+◌, ◌∷◌, List, ap, subst}
use Rattle.tally_sessions.specs.Lent.{entries_in}
use Rattle.tally_sessions.specs.Sums.{sessions_among}
use Rattle.tally_sessions.specs.declared.entry.Entry.{Entry}
use Rattle.tally_sessions.specs.inside.Walk.{sessions_ahead}
use Rattle.tally_sessions.proofs.connect.Ahead.{host_further, none_further, session_further}
use Rattle.tally_sessions.proofs.sessions.Staging.{track_of}
use Rattle.tally_sessions.proofs.connect.walk.WalkSessionSource.next_session.Goals as goal

pub next_session-requires-clause-track : goal.next_session-requires-clause-track
next_session-requires-clause-track c =
    let walk = c.loop-self.self in
    track_of c.sessions.inside walk.sessions.now (entries_in walk.entries) walk.at.host c.index-track.result.now c.sessions.invariant c.sessions.view_is walk.lent c.loop-self-test.true c.index-track.ensures

pub returns-in-Some-clause-next : goal.returns-in-Some-clause-next
returns-in-Some-clause-next c =
    let walk = c.loop-self.self in
    let choice = walk.choice.now in
    let stay = c.next_session.new.stay in
    c.loop-self.invariant
    ∙ subst (λ (es : List Entry). sessions_ahead walk.at choice es walk.until ≡ c.in-Some.session ∷ sessions_ahead (record { host = walk.at.host; stay = stay }) choice es walk.until) walk.lent
    (session_further choice walk.at (entries_in walk.entries) walk.until stay c.in-Some.session c.loop-self-test.true c.in-Some.ensures.next)

pub loop-self-preserved : goal.loop-self-preserved
loop-self-preserved c =
    let walk = c.loop-self.self in
    let choice = walk.choice.now in
    c.loop-self.invariant
    ∙ subst (λ (es : List Entry). sessions_ahead walk.at choice es walk.until ≡ sessions_ahead (record { host = walk.at.host + 1; stay = 0 }) choice es walk.until) walk.lent
    (host_further choice walk.at (entries_in walk.entries) walk.until c.loop-self-test.true c.in_default.ensures.end)

pub returns-clause-end : goal.returns-clause-end
returns-clause-end c =
    let walk = c.loop-self.self in
    c.loop-self.invariant ∙ ap (sessions_among walk.choice.now) (none_further walk.at walk.sessions.now.entries walk.until c.loop-self-test.false)
