use Rattle.std.proofs.Common.{ap, arith, refl}
use Rattle.tally_sessions.specs.State.{State}
use Rattle.tally_sessions.proofs.sessions.Staging.{track_of}
use Rattle.tally_sessions.proofs.track.StaysNow.{same_count}
use Rattle.tally_sessions.proofs.sessions.Sessions.stay_count.Goals as goal

pub returns : goal.returns
returns c until =
    let hosts = ap (λ (s : State). s.hosts) c.self.view_is in
    let es = c.args.self.now.entries in
    let track = track_of c.self.inside c.args.self.now es c.args.host c.index.result.now c.self.invariant c.self.view_is refl
    (omega (arith, hosts, c.requires, c.self.invariant.few_hosts)) c.index.ensures in
    let count = same_count c.args.host es c.index.result.now until track in
    omega (arith, count, c.len.ensures, c.index.result.now.stays.ok.0)
