use Rattle.std.proofs.Common.{◌≡◌, ◌≤◌, ◌++◌, List, drop, length, length-append, map, sym, subst, arith, to_z, of_z}
use Rattle.std.proofs.lemmas.List.{length-map}
use Rattle.std.specs.Int.{w32}
use Rattle.tally_sessions.specs.declared.sums.Session.{Session}
use Rattle.tally_sessions.specs.Opens.{session_at}
use Rattle.tally_sessions.specs.inside.Ended.{session_of, sessions_in}
use Rattle.tally_sessions.specs.inside.KeptSessions.{sessions_ahead}
use Rattle.tally_sessions.specs.inside.Slots.{opens_in}
use Rattle.tally_sessions.proofs.connect_sums.WalkLemmas.{opens-count}
use Rattle.tally_sessions.proofs.connect_sums.running.Running.sessions.Goals as goal

pub returns-clause-few : goal.returns-clause-few
returns-clause-few c =
    let r = c.args.self.now in
    let opens : List Session = map (session_at r.clock (to_z w32 (of_z w32 c.unwrap_or.result))) (opens_in r.slots.items) in
    let few : length (sessions_in r.ended ++ opens) ≤ r.count =
    omega (
      arith,
      length-append (sessions_in r.ended) opens,
      length-map r.ended.sessions.items (session_of r.ended.sums.users.entries),
      length-map (opens_in r.slots.items) (session_at r.clock (to_z w32 (of_z w32 c.unwrap_or.result))),
      opens-count r.slots.items,
      c.requires.running.sessions,
    ) in
    let e = c.of.ensures in
    let same : sessions_ahead c.of.result ≡ sessions_in r.ended ++ opens =
    λ i. drop (e.ended i) (sessions_in (e.running i).ended) ++ map (session_at (e.running i).clock (e.time i)) (opens_in (drop (e.slot i) (e.running i).slots.items)) in
    subst (λ (ss : List Session). length ss ≤ r.count) (sym same) few
