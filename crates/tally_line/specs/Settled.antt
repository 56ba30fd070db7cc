-- The moments of a command line as seconds on a clock, and the job that they make.
use Rattle.std.specs.Prelude.{◌≡◌, ℕ, ℤ, List, pos, neg_ℤ, ◌+ℤ◌, ◌&&◌, ◌^◌, ◌-◌, Bool, true, false, not, Option, Some, None, Result, Ok, Err, ⊤, int_le, int_lt, if◌then◌else◌}
use Rattle.std.specs.Option.{option_or}
use Rattle.tally_moments.specs.Seconds.{IsSecondOf}
use Rattle.tally_moments.specs.declared.moment.Moment.{Moment}
use Rattle.tally_moments.specs.declared.moment.Moment.TheVariants.{Second}
use Rattle.tally_records.specs.declared.period.Period.{Period}
use Rattle.tally_line.specs.declared.job.Job.{Job}
use Rattle.tally_line.specs.declared.job.Report.{Report}
use Rattle.tally_line.specs.declared.job.Report.TheVariants as report
use Rattle.tally_line.specs.declared.settling.Seconds.{Seconds}
use Rattle.tally_line.specs.declared.settling.TimesFault.{TimesFault}
use Rattle.tally_line.specs.declared.settling.TimesFault.TheVariants as fault
use Rattle.tally_line.specs.declared.times.Times.{Times}
use Rattle.tally_usage.specs.declared.choice.ProcChoice.{ProcChoice}

-- ---- seconds

-- the second of a moment, where there is one
abbrev pub IsSecondIn : (ℤ → ℤ) → ℤ → Option Moment → Option ℤ → Type 0
IsSecondIn clock now None None = ⊤
IsSecondIn clock now (Some moment) (Some second) = IsSecondOf clock now moment second
IsSecondIn clock now _ _ = ⊥

-- the seconds of all moments
pub record AreSecondsOf (clock : ℤ → ℤ) (now : ℤ) (times : Times) (seconds : Seconds) : Type 0 where
  pub until : IsSecondIn clock now times.until seconds.until
  pub from : IsSecondIn clock now times.from seconds.from
  pub to : IsSecondIn clock now times.to seconds.to
  pub at : IsSecondIn clock now times.at seconds.at

-- the second of a moment that needs no clock
abbrev pub known : Option Moment → Option ℤ
known (Some (Second second)) = Some second
known _ = None

-- the seconds that need no clock
abbrev pub known_seconds : Times → Seconds
known_seconds times = record { until = known times.until; from = known times.from; to = known times.to; at = known times.at }

-- ---- faults

-- a second, where there is one, is from one to another
abbrev pub is_from_to : ℤ → ℤ → Option ℤ → Bool
is_from_to least most None = true
is_from_to least most (Some second) = int_le least second && int_le second most

-- the seconds that `--until` takes, from 1970 to 2038
abbrev pub is_until : Option ℤ → Bool
is_until = is_from_to (pos 0) (pos (2 ^ 31 - 1))

-- the seconds that a period takes, from 1901 to 2106: each that a signed or an unsigned number of 32 bits holds
abbrev pub is_moment : Option ℤ → Bool
is_moment = is_from_to (neg_ℤ (pos (2 ^ 31))) (pos (2 ^ 32 - 1))

-- a beginning comes after its end
abbrev pub goes_back : Option ℤ → Option ℤ → Bool
goes_back (Some from) (Some to) = int_lt to from
goes_back _ _ = false

-- what is wrong with seconds
abbrev pub fault_of : Seconds → Option TimesFault
fault_of seconds =
    if not (is_until seconds.until) then Some fault.Until
    else (if not (is_moment seconds.from) then Some fault.From
    else (if not (is_moment seconds.to) then Some fault.To
    else (if not (is_moment seconds.at) then Some fault.At
    else (if goes_back seconds.from seconds.to then Some fault.Backward else None))))

-- what is wrong with moments whatever the clock shows
abbrev pub known_fault : Times → Option TimesFault
known_fault times = fault_of (known_seconds times)

-- ---- jobs

-- a period of one second, or from one up to another
abbrev pub period_by : Option ℤ → Option ℤ → Option ℤ → Period
period_by None from to = record { from = from; to = to }
period_by (Some at) from to = record { from = Some at; to = Some (at +ℤ pos 1) }

-- the period of seconds
abbrev pub period_of : Seconds → Period
period_of seconds = period_by seconds.at seconds.from seconds.to

-- a report over a period
abbrev pub over : Period → Report → Report
over period (report.Last limit choice within) = report.Last limit (record choice { period = period }) within
over period (report.Attempts limit choice) = report.Attempts limit (record choice { period = period })
over period (report.AttemptSums limit choice) = report.AttemptSums limit (record choice { period = period })
over period (report.Connect by_day by_user choice) = report.Connect by_day by_user (record choice { period = period })
over period r = r

-- a job with its seconds
abbrev pub with_seconds : Job → Seconds → Job
with_seconds job seconds = record job { report = over (period_of seconds) job.report; until = seconds.until }

-- the same, where nothing is wrong
abbrev pub settled_by : Option TimesFault → Job → Seconds → Result Job TimesFault
settled_by (Some found) job seconds = Err found
settled_by None job seconds = Ok (with_seconds job seconds)

-- a job with the seconds of its moments, or what is wrong with them: first what is wrong on every clock
abbrev pub settled : Times → Job → Seconds → Result Job TimesFault
settled times job seconds = settled_by (option_or (known_fault times) (fault_of seconds)) job seconds

-- what a job with moments comes to: each is found on the clock
abbrev pub Settles : (ℤ → ℤ) → ℤ → Times → Job → Result Job TimesFault → Type 0
Settles clock now times job result = (seconds : Seconds) × AreSecondsOf clock now times seconds × (result ≡ settled times job seconds)

-- the processes that are chosen in the period of seconds, where nothing is wrong
abbrev pub choice_by : Option TimesFault → List (Option ℕ) → Seconds → Result ProcChoice TimesFault
choice_by (Some found) uids seconds = Err found
choice_by None uids seconds = Ok (record { uids = uids; period = period_of seconds })

-- what is wrong with moments that come to these seconds, as `settled` finds it
abbrev pub fault_in : Times → Seconds → Option TimesFault
fault_in times seconds = option_or (known_fault times) (fault_of seconds)

-- the processes that are chosen by moments, or what is wrong with them
abbrev pub chosen_procs : Times → List (Option ℕ) → Seconds → Result ProcChoice TimesFault
chosen_procs times uids seconds = choice_by (fault_in times seconds) uids seconds

-- what a choice with moments comes to: each is found on the clock
abbrev pub SettlesChoice : (ℤ → ℤ) → ℤ → Times → List (Option ℕ) → Result ProcChoice TimesFault → Type 0
SettlesChoice clock now times uids result = (seconds : Seconds) × AreSecondsOf clock now times seconds × (result ≡ chosen_procs times uids seconds)

-- on every clock and with every job the moments come to a fault
abbrev pub AreRefused : Times → TimesFault → Type 0
AreRefused times found = (clock : ℤ → ℤ) (now : ℤ) (job : Job) (result : Result Job TimesFault) → Settles clock now times job result → result ≡ Err found
