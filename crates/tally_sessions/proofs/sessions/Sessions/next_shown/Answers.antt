use Rattle.std.proofs.Common.{◌∙◌, ap, arith, length, sym}
use Rattle.std.proofs.lemmas.Option.{IfSome_then}
use Rattle.tally_sessions.specs.Lent.{entries_in}
use Rattle.tally_sessions.specs.State.{State}
use Rattle.tally_sessions.specs.Totals.{stays_of}
use Rattle.tally_sessions.proofs.sessions.Staging.{track_of}
use Rattle.tally_sessions.proofs.track.StaysNow.{same_count}
use Rattle.tally_sessions.proofs.sessions.Sessions.next_shown.Goals as goal

pub next_shown-requires-clause-track : goal.next_shown-requires-clause-track
next_shown-requires-clause-track c =
    let hosts = ap (λ (s : State). s.hosts) c.self.view_is in
    track_of c.self.inside c.args.self.now (entries_in c.entries.result) c.args.host c.index.result.now c.self.invariant c.self.view_is c.entries.ensures.value
    (omega (arith, hosts, c.requires, c.self.invariant.few_hosts)) c.index.ensures

pub returns-clause-place : goal.returns-clause-place
returns-clause-place c =
    let hosts = ap (λ (s : State). s.hosts) c.self.view_is in
    let es = entries_in c.entries.result in
    let track = track_of c.self.inside c.args.self.now es c.args.host c.index.result.now c.self.invariant c.self.view_is c.entries.ensures.value
    (omega (arith, hosts, c.requires, c.self.invariant.few_hosts)) c.index.ensures in
    let count = ap (λ xs. length (stays_of c.args.host xs c.args.until)) (sym c.entries.ensures.value) ∙ same_count c.args.host es c.index.result.now c.args.until track in
    IfSome_then c.next_shown.result c.next_shown.ensures.place (λ place lt. omega (arith, lt, count, c.index.result.now.stays.ok.0))
