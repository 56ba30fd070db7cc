use Rattle.std.proofs.Common.{◌∙◌, List, None, map, pos, refl, ap}
use Rattle.std.specs.Prelude.{sum_by}
use Rattle.tally_sessions.specs.declared.connect_sums.ended.EndedSession.{EndedSession}
use Rattle.tally_sessions.specs.declared.connect_sums.slot.Slot.{Slot}
use Rattle.tally_sessions.specs.ConnectSums.{Counted}
use Rattle.tally_sessions.specs.Clock.{pending_old_time}
use Rattle.tally_sessions.specs.inside.Ended.{Seconds, session_of, sessions_in}
use Rattle.tally_sessions.specs.inside.Slots.{opens_in}
use Rattle.tally_sessions.proofs.connect_sums.SlotLemmas.{sum-seen}
use Rattle.tally_sessions.proofs.connect_sums.running.Running.new.Goals as goal

pub returns-clause-counted : goal.returns-clause-counted
unfolding pending_old_time
returns-clause-counted c = record {
  count = refl;
  clock = refl;
  old_time = refl;
  last = refl;
  opens = λ weight. ap (λ (ss : List Slot). sum_by weight (opens_in ss)) c.new-2.ensures.items;
  ended = λ who.
      let c' : Counted = record { count = 0; clock = pos 0; old_time = None; last = pos 0; opens = opens_in c.new-2.result.items; users = c.new-4.result.sums.users.entries; total = c.new-4.result.sums.all; keeps_sessions = c.new-4.result.keeps_sessions; sessions = sessions_in c.new-4.result } in
      sum-seen c' c.new-4.result (Seconds who) refl refl refl refl ∙ c.new-4.ensures.sums who;
  sessions = λ keeps weight. ap (λ (ss : List EndedSession). sum_by weight (map (session_of c.new-4.result.sums.users.entries) ss)) c.new-4.ensures.sessions;
}
