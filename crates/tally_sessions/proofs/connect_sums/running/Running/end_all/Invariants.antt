use Rattle.std.proofs.Common.{◌≡◌, ◌+◌, ◌<◌, ◌≤◌, ℕ, false, get_or, length, vec_len, vec_capacity}
use Rattle.tally_sessions.specs.inside.Ended.{Asked, measured, weighed}
use Rattle.tally_sessions.specs.inside.Running.{AreKept}
use Rattle.tally_sessions.specs.inside.Slots.{open_count, slot_at, weight_in}
use Rattle.tally_sessions.proofs.connect_sums.running.Running.end_all.Given as goal

abbrev pub invariant-loop-i : goal.invariant-loop-i
invariant-loop-i l = record {
  kept : AreKept l.fn.self.count l.fn.self.lines l.self.slots.items l.fn.self.listed.items l.self.ended;
  done : (j : ℕ) → j < l.i → (slot_at l.self.slots.items (get_or l.fn.self.listed.items j 0)).is_listed ≡ false;
  left : (asked : Asked) → measured l.self.ended asked + weight_in (weighed l.fn.self.ended.keeps_sessions asked l.fn.self.clock l.fn.time) l.self.slots.items
      ≡ measured l.fn.self.ended asked + weight_in (weighed l.fn.self.ended.keeps_sessions asked l.fn.self.clock l.fn.time) l.fn.self.slots.items;
  spare : l.fn.self.ended.sums.users.spare + open_count l.self.slots.items ≤ l.self.ended.sums.users.spare + open_count l.fn.self.slots.items;
  sessions : length l.self.ended.sessions.items + open_count l.self.slots.items ≤ length l.fn.self.ended.sessions.items + open_count l.fn.self.slots.items;
  room : vec_capacity l.self.ended.sessions ≡ vec_capacity l.fn.self.ended.sessions;
  keeps : l.self.ended.keeps_sessions ≡ l.fn.self.ended.keeps_sessions;
  count : vec_len l.self.slots ≡ vec_len l.fn.self.slots;
  capacity : vec_capacity l.self.slots ≡ vec_capacity l.fn.self.slots;
  rest : l.self ≡ record l.fn.self { slots = l.self.slots; ended = l.self.ended };
}
