-- Worked moments of a command line and the seconds that they come to, computed by the definitions.
use Rattle.std.proofs.Common.{◌≡◌, Err, List, [], ◌∷◌, None, Ok, Option, Some, arith, false, map, neg_ℤ, pos, refl, replicate, sym, true, true≢false, ℕ, ℤ}
use Rattle.std.proofs.lemmas.Int.{ints}
use Rattle.std.specs.Prelude.{codes, option_map}
use Rattle.clap.proofs.OnLiterals.{clap_on_literals}
use Rattle.clap.specs.Words.{Row, Text}
use Rattle.tally_moments.specs.Moments.{period_of}
use Rattle.tally_moments.specs.declared.moment.Moment.TheVariants.{Day, Now, Second, Time}
use Rattle.tally_records.specs.Choice.{every_login}
use Rattle.tally_records.specs.Text.{padded}
use Rattle.tally_records.specs.declared.choice.LoginChoice.{LoginChoice}
use Rattle.tally_usage.specs.declared.order.Order.TheVariants.{Calls, Cpu}
use Rattle.tally_line.specs.CommandLine.{tally_app}
use Rattle.tally_line.specs.Lines.{met_in, rows_met}
use Rattle.tally_line.specs.Settled.{AreRefused, IsSecondIn, Settles, SettlesChoice, chosen_procs, fault_of, goes_back, known, known_seconds, settled}
use Rattle.tally_line.specs.Settled as settling
use Rattle.tally_line.specs.Times.{AreMoments, has_period, is_now, period_in, stand_alone, times_in, until_in}
use Rattle.tally_line.specs.declared.job.Form.TheVariants as form
use Rattle.tally_line.specs.declared.job.Job.{Job}
use Rattle.tally_line.specs.declared.job.Report.{Report}
use Rattle.tally_line.specs.declared.job.Report.TheVariants as report
use Rattle.tally_line.specs.declared.settling.Seconds.{Seconds}
use Rattle.tally_line.specs.declared.settling.TimesFault.TheVariants as fault
use Rattle.tally_line.specs.declared.times.Times.{Times}

-- the matches of words after a subcommand
abbrev matches_after : Text → List Text → List Row
matches_after name words = rows_met (met_in (name ∷ words))

abbrev last_report : Report
last_report = report.Last None every_login false

-- ---- the words of moments

-- a beginning, an end or a part of the calendar is a period, and a second alone is none
periods : map (λ words. has_period (matches_after (codes "last") words)) ((codes "--from=@5" ∷ []) ∷ (codes "--to=@5" ∷ []) ∷ (codes "--in=2026" ∷ []) ∷ (codes "--at=@5" ∷ []) ∷ (codes "--until=@5" ∷ []) ∷ [] ∷ [])
    ≡ true ∷ true ∷ true ∷ false ∷ false ∷ false ∷ []
unfolding tally_app clap_on_literals
periods = refl

-- a beginning and an end stand together; a second and a part of the calendar stand alone
alone : map (λ words. stand_alone (matches_after (codes "last") words))
    ([] ∷ (codes "--at=@5" ∷ []) ∷ (codes "--in=2026" ∷ []) ∷ (codes "--from=@5" ∷ codes "--to=@6" ∷ codes "--until=@7" ∷ []) ∷ (codes "--at=@5" ∷ codes "--from=@5" ∷ []) ∷ (codes "--at=@5" ∷ codes "--to=@5" ∷ []) ∷ (codes "--at=@5" ∷ codes "--in=2026" ∷ []) ∷ (codes "--in=2026" ∷ codes "--from=@5" ∷ []) ∷ (codes "--in=2026" ∷ codes "--to=@5" ∷ []) ∷ [])
    ≡ true ∷ true ∷ true ∷ true ∷ replicate 5 false
unfolding tally_app clap_on_literals
alone = refl

-- a period is that of the word of `--in` alone; what is no part of the calendar is none
calendar : map (λ words. period_in (matches_after (codes "ac") words)) ((codes "--in=2026-07" ∷ []) ∷ (codes "--in=2026-7" ∷ []) ∷ (codes "--from=2026-07-01" ∷ []) ∷ []) ≡ period_of (codes "2026-07") ∷ None ∷ None ∷ []
unfolding tally_app clap_on_literals
calendar = refl

-- each moment is that of its own option
each_moment : times_in last_report (matches_after (codes "last") (codes "--to" ∷ codes "@-6" ∷ codes "--until" ∷ codes "5" ∷ codes "--from" ∷ codes "now" ∷ []))
    ≡ record { until = Some (Second (pos 5)); from = Some Now; to = Some (Second (neg_ℤ (pos 6))); at = None }
unfolding tally_app clap_on_literals
each_moment = refl

-- a part of the calendar is a beginning and an end
of_calendar : times_in (report.Users Cpu false) (matches_after (codes "sa") (codes "--in=2026-07" ∷ [])) ≡ record { until = None; from = option_map (λ p. p.0) (period_of (codes "2026-07")); to = option_map (λ p. p.1) (period_of (codes "2026-07")); at = None }
unfolding tally_app clap_on_literals
of_calendar = refl

-- a second is neither
of_second : times_in last_report (matches_after (codes "last") (codes "--at" ∷ codes "now" ∷ [])) ≡ record { until = None; from = None; to = None; at = Some Now }
unfolding tally_app clap_on_literals
of_second = refl

-- the letters of `last` are those options
letters : times_in last_report (matches_after (codes "last") (codes "-s@5" ∷ codes "-t" ∷ codes "@6" ∷ codes "-p@7" ∷ [])) ≡ record { until = None; from = Some (Second (pos 5)); to = Some (Second (pos 6)); at = Some (Second (pos 7)) }
unfolding tally_app clap_on_literals
letters = refl

-- without words there is none
no_moments : times_in (report.Connect false false every_login) (matches_after (codes "ac") []) ≡ record { until = None; from = None; to = None; at = None }
unfolding tally_app clap_on_literals
no_moments = refl

-- reports of stays are counted to a moment, and no other report is
counted_to : map (λ r. until_in r (matches_after (codes "all") (codes "w:f" ∷ codes "--until=@5" ∷ [])))
    (last_report ∷ report.Connect true false every_login ∷ report.All ∷ report.Attempts None every_login ∷ report.AttemptSums None every_login ∷ report.Commands Cpu false false ∷ report.Users Calls true ∷ [])
    ≡ Some (Second (pos 5)) ∷ Some (Second (pos 5)) ∷ Some (Second (pos 5)) ∷ None ∷ None ∷ None ∷ None ∷ []
unfolding tally_app clap_on_literals
counted_to = refl

-- `--until` takes eight digits as seconds, and no other option does
eight_digits : times_in last_report (matches_after (codes "last") (codes "--until=20260701" ∷ codes "--from=20260701" ∷ codes "--to=20260702" ∷ codes "--at=20260703" ∷ [])) ≡ record { until = Some (Second (pos 20260701)); from = None; to = None; at = None }
unfolding tally_app clap_on_literals
eight_digits = refl

-- when the words are read is one moment alone
nows : map is_now (None ∷ Some Now ∷ Some (Second (pos 0)) ∷ Some (Day (pos 0)) ∷ Some (Time (pos 0) 0) ∷ []) ≡ false ∷ true ∷ false ∷ false ∷ false ∷ []
nows = refl

-- words that say something are taken
taken : AreMoments (matches_after (codes "last") (codes "--from=@5" ∷ codes "--to=now" ∷ codes "--until=20260701" ∷ []))
unfolding tally_app clap_on_literals
taken = record { alone = refl; from = refl; to = refl; period = refl; at = refl; until = refl }

-- words that say no moment are taken where none is given
none_taken : AreMoments (matches_after (codes "check") (codes "f" ∷ []))
unfolding tally_app clap_on_literals
none_taken = record { alone = refl; from = refl; to = refl; period = refl; at = refl; until = refl }

-- eight digits are no beginning
no_from : ¬ AreMoments (matches_after (codes "last") (codes "--from=20260701" ∷ []))
unfolding tally_app clap_on_literals
no_from are = true≢false (sym are.from)

-- nor are they an end
no_to : ¬ AreMoments (matches_after (codes "sa") (codes "--to=20260701" ∷ []))
unfolding tally_app clap_on_literals
no_to are = true≢false (sym are.to)

-- six digits are no month
no_period : ¬ AreMoments (matches_after (codes "ac") (codes "--in=202607" ∷ []))
unfolding tally_app clap_on_literals
no_period are = true≢false (sym are.period)

-- eight digits are no second to be logged in at
no_second : ¬ AreMoments (matches_after (codes "last") (codes "--at=20260701" ∷ []))
unfolding tally_app clap_on_literals
no_second are = true≢false (sym are.at)

-- an empty word is no moment to count to
no_until : ¬ AreMoments (matches_after (codes "all") (codes "w:f" ∷ codes "--until=" ∷ []))
unfolding tally_app clap_on_literals
no_until are = true≢false (sym are.until)

-- a second stands beside no end
not_alone : ¬ AreMoments (matches_after (codes "last") (codes "--at=@5" ∷ codes "--to=@6" ∷ []))
unfolding tally_app clap_on_literals
not_alone are = true≢false (sym are.alone)

-- ---- seconds

-- a second needs no clock, and all else does
known_alone : map known (None ∷ Some (Second (pos 5)) ∷ Some (Day (pos 1)) ∷ Some (Time (pos 1) 5) ∷ Some Now ∷ []) ≡ None ∷ Some (pos 5) ∷ None ∷ None ∷ None ∷ []
known_alone = refl

-- each is that of its own moment
known_of_each : known_seconds (record { until = Some (Second (pos 1)); from = Some (Second (pos 2)); to = Some (Second (pos 3)); at = Some (Second (pos 4)) }) ≡ record { until = Some (pos 1); from = Some (pos 2); to = Some (pos 3); at = Some (pos 4) }
known_of_each = refl

-- a period may be empty, and may not end before it begins
back : goes_back (Some (pos 5)) (Some (pos 4)) ∷ goes_back (Some (pos 5)) (Some (pos 5)) ∷ goes_back (Some (pos 5)) None ∷ goes_back None (Some (pos 4)) ∷ goes_back None None ∷ [] ≡ true ∷ false ∷ false ∷ false ∷ false ∷ []
back = refl

-- a second out of each range
abbrev far : Option ℤ
far = Some (pos 4294967296)

abbrev seconds : Option ℤ → Option ℤ → Option ℤ → Option ℤ → Seconds
seconds until from to at = record { until = until; from = from; to = to; at = at }

-- the first thing that is wrong is named: the moment to count to, the beginning, the end, the second, and then their order
in_order : map fault_of (seconds far far far far ∷ seconds None far far far ∷ seconds None None far far ∷ seconds None (Some (pos 20)) (Some (pos 10)) far ∷ seconds None (Some (pos 20)) (Some (pos 10)) None ∷ seconds None None None None ∷ [])
    ≡ Some fault.Until ∷ Some fault.From ∷ Some fault.To ∷ Some fault.At ∷ Some fault.Backward ∷ None ∷ []
in_order = refl

-- a second takes the place of a beginning and an end
of_each : settling.period_of (seconds (Some (pos 1)) (Some (pos 2)) (Some (pos 3)) None) ∷ settling.period_of (seconds None None None (Some (pos 4))) ∷ [] ≡ record { from = Some (pos 2); to = Some (pos 3) } ∷ record { from = Some (pos 4); to = Some (pos 5) } ∷ []
of_each = refl

-- the second of an option that is left out is none
none_for_none : (IsSecondIn (λ t. pos 0) (pos 9) None None) × (¬ IsSecondIn (λ t. pos 0) (pos 9) None (Some (pos 9))) × (¬ IsSecondIn (λ t. pos 0) (pos 9) (Some Now) None)
none_for_none = (tt, λ is. is, λ is. is)

-- ---- jobs

-- the sessions of ann
abbrev of_ann : LoginChoice
of_ann = record every_login { users = Some (padded 32 (codes "ann")) ∷ replicate 7 None }

abbrev job : Job
job = record { report = report.Last (Some 3) of_ann true; form = form.Csv; millions = 2; feeders = 5; askers = 0; offset = pos 60; until = None }

-- a day by a clock that is two hours ahead, and the time at which the words are read
abbrev day_and_now : Times
day_and_now = record { until = Some Now; from = Some (Day (pos 20635)); to = None; at = None }

abbrev their_seconds : Seconds
their_seconds = seconds (Some (pos 1782900000)) (Some (pos 1782856800)) None None

-- a job gets its period and the moment to count to, and all else of it stays
settled_job : settled day_and_now job their_seconds ≡ Ok (record { report = report.Last (Some 3) (record of_ann { period = record { from = Some (pos 1782856800); to = None } }) true; form = form.Csv; millions = 2; feeders = 5; askers = 0; offset = pos 60; until = Some (pos 1782900000) })
settled_job = refl

-- its seconds are those that the clock has
settles : Settles (λ t. pos 7200) (pos 1782900000) day_and_now job (settled day_and_now job their_seconds)
settles = (their_seconds, record { until = refl; from = record { reached = omega (arith, ints); none_before = λ t before. omega (arith, ints) }; to = tt; at = tt }, refl)

-- what is refused without a clock is so on every clock
refused : AreRefused (record { until = None; from = Some (Second (pos 20)); to = Some (Second (pos 10)); at = None }) fault.Backward
refused clock now its_job result settled_so = settled_so.2

-- a choice of processes has its users and its period
abbrev uids : List (Option ℕ)
uids = Some 1000 ∷ replicate 7 None

-- the users stay as they are, and the period is that of the seconds
chosen : chosen_procs (record { until = None; from = Some (Day (pos 0)); to = Some (Day (pos 1)); at = None }) uids (seconds None (Some (pos 0)) (Some (pos 86400)) None) ≡ Ok (record { uids = uids; period = record { from = Some (pos 0); to = Some (pos 86400) } })
chosen = refl

-- and is refused as a job is: first for what is wrong on every clock
not_chosen : chosen_procs (record { until = None; from = Some (Day (pos 99999)); to = Some (Second (pos 4294967296)); at = None }) uids (seconds None far far None) ∷ chosen_procs (record { until = None; from = Some (Day (pos 99999)); to = None; at = None }) uids (seconds None far None None) ∷ [] ≡ Err fault.To ∷ Err fault.From ∷ []
not_chosen = refl

-- the second of `now` is that at which the words were read
settles_choice : SettlesChoice (λ t. pos 0) (pos 50) (record { until = None; from = None; to = Some Now; at = None }) uids (Ok (record { uids = uids; period = record { from = None; to = Some (pos 50) } }))
settles_choice = (seconds None None (Some (pos 50)) None, record { until = tt; from = tt; to = refl; at = tt }, refl)
