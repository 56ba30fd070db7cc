use Rattle.tally_sessions.specs.Lent.{entries_in}
use Rattle.tally_sessions.proofs.sessions.Staging.{track_of}
use Rattle.tally_sessions.proofs.sessions.Sessions.with_stays.Goals as goal

pub part_at-requires-clause-track : goal.part_at-requires-clause-track
part_at-requires-clause-track c =
    track_of c.self.inside c.args.self.now (entries_in c.args.entries) c.args.host c.index-track.result.now c.self.invariant c.self.view_is c.requires.same
    c.requires.host_in c.index-track.ensures
