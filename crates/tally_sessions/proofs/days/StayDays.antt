-- The days of the stays of a host.
use Rattle.std.proofs.Common.{ℕ, ℤ, List, [], ◌∷◌, ◌++◌, Bool, true, false, cond, Option}
use Rattle.std.proofs.lemmas.List.Elements.{All-nil, All-cons}
use Rattle.std.specs.List.{All}
use Rattle.tally_clock.proofs.DayLemmas.{days_add_up}
use Rattle.tally_records.specs.declared.login.LoginRecord.{LoginRecord}
use Rattle.tally_records.specs.Event.{event_of}
use Rattle.tally_sessions.specs.Laws.{HasItsDays, StaysHaveTheirDays}
use Rattle.tally_sessions.specs.Hosts.{of_host}
use Rattle.tally_sessions.specs.Stays.{begin_of, end_time_of, seconds_of, starts_stay, stay_of, stays_from}

stay_has_days : (clock : ℤ → ℤ) (host : ℕ) (before : List LoginRecord) (r : LoginRecord) (after : List LoginRecord) (until : Option ℤ) → HasItsDays clock (stay_of host before r after until)
unfolding seconds_of
stay_has_days clock host before r after until first count hold = days_add_up clock (begin_of before r after) (end_time_of r after until) first count hold

stays_from_have_days : (clock : ℤ → ℤ) (host : ℕ) (before rs : List LoginRecord) (until : Option ℤ) → All (HasItsDays clock) (stays_from host before rs until)
stays_from_have_days clock host before [] until = All-nil (HasItsDays clock)
stays_from_have_days clock host before (r ∷ after) until = by (starts_stay (event_of r)) (stays_from_have_days clock host (before ++ r ∷ []) after until)
  where
    by : (b : Bool) → All (HasItsDays clock) (stays_from host (before ++ r ∷ []) after until)
        → All (HasItsDays clock) (cond b (stay_of host before r after until ∷ stays_from host (before ++ r ∷ []) after until) (stays_from host (before ++ r ∷ []) after until))
    by true h = All-cons (HasItsDays clock) (stay_of host before r after until) (stays_from host (before ++ r ∷ []) after until) (stay_has_days clock host before r after until) h
    by false h = h

pub stays_have_days : StaysHaveTheirDays
stays_have_days clock host entries until = stays_from_have_days clock host [] (of_host host entries) until
