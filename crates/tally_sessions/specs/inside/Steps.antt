-- What one record more does to a count.
use Rattle.std.specs.Prelude.{◌≡◌, ◌+◌, ℕ, Bool, bytes_eq, if◌then◌else◌, sum_by, ℤ, ◌+ℤ◌}
use Rattle.tally_records.specs.declared.login.LoginRecord.{LoginRecord}
use Rattle.tally_records.specs.declared.login.Event.TheVariants.{Login}
use Rattle.tally_records.specs.Event.{event_of}
use Rattle.tally_sessions.specs.Clock.{shift_at}
use Rattle.tally_sessions.specs.Stays.{ends_event}
use Rattle.tally_sessions.specs.inside.Track.{is_login_event}
use Rattle.tally_sessions.specs.inside.Tracking.{pending_at}
use Rattle.tally_sessions.specs.Opens.{Open}
use Rattle.tally_sessions.specs.ConnectSums.{Counted}
use Rattle.tally_sessions.specs.inside.Ended.{Asked, counted, weighed}

-- whether a record ends an open session
abbrev pub ends_open : LoginRecord → Open → Bool
ends_open x o = ends_event Login (event_of x) (bytes_eq o.line x.line)

-- the weight of a session that stays open
abbrev pub staying : LoginRecord → (Open → ℕ) → Open → ℕ
staying x weight o = if ends_open x o then 0 else weight o

-- what a session gives that the record ends
abbrev pub leaving : Bool → Asked → ℤ → LoginRecord → Open → ℕ
leaving keeps asked now x o = if ends_open x o then weighed keeps asked now x.time o else 0

-- the session of a login, while the clock has moved so far
abbrev pub opened : LoginRecord → ℤ → Open
opened x now = record { line = x.line; user = x.user; start = x.time; clock_at = now }

-- its weight, where the record is a login
abbrev pub opening : LoginRecord → ℤ → (Open → ℕ) → ℕ
opening x now weight = if is_login_event (event_of x) then weight (opened x now) else 0

-- a count, after one record more
pub record IsStep (old new : Counted) (x : LoginRecord) : Type 0 where
  pub count : new.count ≡ old.count + 1
  pub clock : new.clock ≡ old.clock +ℤ shift_at (event_of x) old.old_time x.time
  pub old_time : new.old_time ≡ pending_at (event_of x) x.time old.old_time
  pub last : new.last ≡ x.time
  pub opens : (weight : Open → ℕ) → sum_by weight new.opens ≡ sum_by (staying x weight) old.opens + opening x new.clock weight
  pub keeps : new.keeps_sessions ≡ old.keeps_sessions
  pub ended : (asked : Asked) → counted new asked ≡ counted old asked + sum_by (leaving old.keeps_sessions asked new.clock x) old.opens
