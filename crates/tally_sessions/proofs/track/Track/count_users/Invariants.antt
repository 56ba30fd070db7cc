use Rattle.std.proofs.Common.{◌≡◌, ◌*◌, ◌≤◌, ℕ, List, get_or, take}
use Rattle.std.specs.List.{zip}
use Rattle.std.specs.Map.{keys_of}
use Rattle.std.specs.Prelude.{sum_by}
use Rattle.tally_sessions.specs.Lent.{entries_in}
use Rattle.tally_sessions.specs.Sums.{seconds_in, seconds_of_user, sessions_among}
use Rattle.tally_sessions.specs.Totals.{stays_of}
use Rattle.tally_sessions.specs.inside.Chosen.{number_of}
use Rattle.tally_sessions.proofs.track.Track.count_users.Given as goal

abbrev pub invariant-loop-i : goal.invariant-loop-i
invariant-loop-i l = record {
  told : (user : List ℕ) → sum_by (number_of user) (zip (keys_of l.self.sums.users.entries) l.numbers) ≡ seconds_of_user user (sessions_among l.choice (take l.i (stays_of l.host (entries_in l.entries) l.until)));
  fits : (user : List ℕ) → seconds_of_user user (sessions_among l.choice (take l.i (stays_of l.host (entries_in l.entries) l.until))) ≤ 4294967295 * l.i;
  all : seconds_in (sessions_among l.choice (take l.i (stays_of l.host (entries_in l.entries) l.until))) ≤ 4294967295 * l.i;
  small : (place : ℕ) → get_or l.numbers place 0 ≤ 4294967295 * l.i;
}
