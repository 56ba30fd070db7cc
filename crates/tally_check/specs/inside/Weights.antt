-- What of sessions weighs, kept stay by stay.
use Rattle.std.specs.Prelude.{ℕ, ◌+◌, ◌<◌, ◌^◌, Bool, if◌then◌else◌}
use Rattle.tally_check.specs.Stays.{is_crashed_session, is_open_session}
use Rattle.tally_check.specs.declared.stays.Sessions.{Sessions}
use Rattle.tally_check.specs.declared.stays.Stayed.{Stayed}
use Rattle.tally_sessions.specs.declared.entry.Stay.{Stay}

-- one more of this length, where it is of the sort
abbrev pub with_stayed : Stayed → Bool → ℕ → Stayed
with_stayed stayed is length =
    if is then record { count = stayed.count + 1; seconds = stayed.seconds + length } else stayed

-- what weighs, with one stay more
abbrev pub with_stay : Sessions → Stay → Sessions
with_stay sessions s = record {
  still_open = with_stayed sessions.still_open (is_open_session s) s.length;
  crashed = with_stayed sessions.crashed (is_crashed_session s) s.length;
}

-- no number is too large to go on
pub record AreLight (sessions : Sessions) : Type 0 where
  pub open_count : sessions.still_open.count < 2 ^ 60
  pub open_seconds : sessions.still_open.seconds < 2 ^ 60
  pub crashed_count : sessions.crashed.count < 2 ^ 60
  pub crashed_seconds : sessions.crashed.seconds < 2 ^ 60
