use Rattle.std.proofs.Common.{◌∙◌, ap, arith, length, sym}
use Rattle.tally_sessions.specs.Lent.{entries_in}
use Rattle.tally_sessions.specs.State.{State}
use Rattle.tally_sessions.specs.Totals.{stays_of}
use Rattle.tally_sessions.proofs.sessions.Staging.{track_of}
use Rattle.tally_sessions.proofs.track.StaysNow.{same_count}
use Rattle.tally_sessions.proofs.sessions.Sessions.latest_stay.Goals as goal

pub latest_at-requires-clause-place : goal.latest_at-requires-clause-place
latest_at-requires-clause-place c =
    let hosts = ap (λ (s : State). s.hosts) c.self.view_is in
    let es = entries_in c.entries.result in
    let track = track_of c.self.inside c.args.self.now es c.args.host c.index.result.now c.self.invariant c.self.view_is c.entries.ensures.value
    (omega (arith, hosts, c.requires.host, c.self.invariant.few_hosts)) c.index.ensures in
    let count = ap (λ xs. length (stays_of c.args.host xs c.args.until)) (sym c.entries.ensures.value)
    ∙ same_count c.args.host es c.index.result.now c.args.until track in
    omega (arith, count, c.requires.place, c.index.result.now.stays.ok.0)

pub latest_at-requires-clause-track : goal.latest_at-requires-clause-track
latest_at-requires-clause-track c =
    let hosts = ap (λ (s : State). s.hosts) c.self.view_is in
    track_of c.self.inside c.args.self.now (entries_in c.entries.result) c.args.host c.index.result.now c.self.invariant c.self.view_is c.entries.ensures.value
    (omega (arith, hosts, c.requires.host, c.self.invariant.few_hosts)) c.index.ensures
