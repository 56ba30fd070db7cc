-- Going over the sessions of counts that keep them.
use Rattle.std.specs.Prelude.{ℤ, List, ◌++◌, Option, drop, map, unwrap_or}
use Rattle.std.specs.List.{flat_map}
use Rattle.tally_sessions.specs.declared.connect_sums.kept_walk.ChainedSessions.{ChainedSessions}
use Rattle.tally_sessions.specs.declared.connect_sums.kept_sessions.KeptSessions.{KeptSessions}
use Rattle.tally_sessions.specs.declared.sums.Session.{Session}
use Rattle.tally_sessions.specs.ConnectSums.{Counted}
use Rattle.tally_sessions.specs.Opens.{session_at}
use Rattle.tally_sessions.specs.inside.Ended.{sessions_in}
use Rattle.tally_sessions.specs.inside.Slots.{opens_in}

-- those that have ended, from a place on
abbrev pub ended_ahead : KeptSessions → List Session
ended_ahead at = drop at.ended (sessions_in at.running.now.ended)

-- those that are open, from a place on
abbrev pub open_ahead : KeptSessions → List Session
open_ahead at = map (session_at at.running.now.clock at.time) (opens_in (drop at.slot at.running.now.slots.items))

-- the sessions from a place on
abbrev pub sessions_ahead : KeptSessions → List Session
sessions_ahead at = ended_ahead at ++ open_ahead at

-- the sessions of a count: those that have ended, and those that are open up to a moment or else the last time
abbrev pub sessions_now : Counted → Option ℤ → List Session
sessions_now c until = c.sessions ++ map (session_at c.clock (unwrap_or until c.last)) c.opens

-- those of several sources, without the sources that are passed
abbrev pub chained_ahead : {S : Type 0} → (S → List Session) → ChainedSessions S → List Session
chained_ahead ahead chain = flat_map ahead (drop chain.at chain.sources.items)
