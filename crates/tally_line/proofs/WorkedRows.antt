-- Worked examples, computed by the definitions.
use Rattle.std.proofs.Common.{◌≡◌, [], ◌∷◌, ◌++◌, None, Some, Err, true, false, map, pos, neg_ℤ, refl, sym, true≢false}
use Rattle.std.specs.Prelude.{Bool, List, codes}
use Rattle.clap.proofs.OnLiterals.{clap_on_literals}
use Rattle.clap.specs.Words.{Row, Text, fault_of}
use Rattle.clap.specs.declared.error.kind.ErrorKind.TheVariants.{MissingRequiredArgument, UnknownArgument, ValueValidation}
use Rattle.tally_moments.specs.declared.moment.Moment.{Moment}
use Rattle.tally_moments.specs.declared.moment.Moment.TheVariants.{Day, Now, Second, Time}
use Rattle.tally_records.specs.Choice.{every_login}
use Rattle.tally_records.specs.declared.batch.Kind.TheVariants.{FailedLogin, Login, Proc}
use Rattle.tally_records.specs.declared.period.Period.{Period}
use Rattle.tally_usage.specs.declared.order.Order.TheVariants.{Cpu}
use Rattle.tally_line.specs.Apart.{HasRowsOfFiles}
use Rattle.tally_line.specs.CommandLine.{tally_app}
use Rattle.tally_line.specs.FileWords.{word_of}
use Rattle.tally_line.specs.Lines.{file_words, met_in, rows_met}
use Rattle.tally_line.specs.Named.{names_of}
use Rattle.tally_line.specs.Options.{is_set}
use Rattle.tally_line.specs.Settled.{is_moment, is_until, known_fault, over, period_by, settled}
use Rattle.tally_line.specs.Times.{ask_now, until_in}
use Rattle.tally_line.specs.declared.job.Form.TheVariants as form
use Rattle.tally_line.specs.declared.job.Job.{Job}
use Rattle.tally_line.specs.declared.job.Report.TheVariants as report
use Rattle.tally_line.specs.declared.settling.TimesFault.TheVariants as fault
use Rattle.tally_line.specs.declared.times.Times.{Times}

-- a file of `all` has the prefix of its kind, and no other file has one
words : word_of report.All Login (codes "f") ∷ word_of report.All Proc (codes "f") ∷ word_of (report.Last None every_login false) Login (codes "f") ∷ word_of (report.Attempts None every_login) FailedLogin (codes "f") ∷ [] ≡ codes "w:f" ∷ codes "p:f" ∷ codes "f" ∷ codes "f" ∷ []
words = refl

-- the files of `-f`, apart from it or joined to it, stand among the others in the order of the words
files_in_order : file_words (met_in (codes "last" ∷ codes "b" ∷ codes "-f" ∷ codes "a" ∷ codes "-fc" ∷ codes "--csv" ∷ codes "d" ∷ [])) ≡ codes "b" ∷ codes "a" ∷ codes "c" ∷ codes "d" ∷ []
unfolding tally_app clap_on_literals
files_in_order = refl

-- no file has to be named, except of a report of all and to be checked
unnamed : map (λ name. fault_of tally_app (name ∷ [])) (codes "last" ∷ codes "lastb" ∷ codes "ac" ∷ codes "sa" ∷ codes "all" ∷ codes "check" ∷ []) ≡ [] ∷ [] ∷ [] ∷ [] ∷ (MissingRequiredArgument ∷ []) ∷ (MissingRequiredArgument ∷ []) ∷ []
unfolding tally_app clap_on_literals
unnamed = refl

-- words that name none have none
none_named : file_words (met_in (codes "last" ∷ [])) ≡ []
unfolding tally_app clap_on_literals
none_named = refl

-- `sa`, a report of all and `check` have no `-f`
letters : map (λ name. fault_of tally_app (name ∷ codes "-f" ∷ codes "w:a" ∷ [])) (codes "ac" ∷ codes "sa" ∷ codes "all" ∷ codes "check" ∷ []) ≡ [] ∷ (UnknownArgument ∷ []) ∷ (UnknownArgument ∷ []) ∷ (UnknownArgument ∷ []) ∷ []
unfolding tally_app clap_on_literals
letters = refl

-- reports that keep records have a number of them that they take; `sa` and `check` have none
kept_records : map (λ name. fault_of tally_app (name ∷ codes "--millions" ∷ codes "2" ∷ codes "w:a" ∷ [])) (codes "last" ∷ codes "lastb" ∷ codes "ac" ∷ codes "sa" ∷ codes "all" ∷ codes "check" ∷ []) ≡ [] ∷ [] ∷ [] ∷ (UnknownArgument ∷ []) ∷ [] ∷ (UnknownArgument ∷ []) ∷ []
unfolding tally_app clap_on_literals
kept_records = refl

-- 16,777,216 records are the most, and as many are the most that are shown
most_records : map (fault_of tally_app) (map (λ n. codes "ac" ∷ codes "--millions" ∷ n ∷ []) (codes "1" ∷ codes "16" ∷ codes "0" ∷ codes "17" ∷ [])) ++ map (fault_of tally_app) (map (λ n. codes "last" ∷ codes "-n" ∷ n ∷ []) (codes "16777216" ∷ codes "16777217" ∷ []))
    ≡ [] ∷ [] ∷ (ValueValidation ∷ []) ∷ (ValueValidation ∷ []) ∷ [] ∷ (ValueValidation ∷ []) ∷ []
unfolding tally_app clap_on_literals
most_records = refl

-- ---- files told apart

-- the matches of words
abbrev matches_of : List Text → List Row
matches_of words = rows_met (met_in words)

-- paths and reports by file are asked for by their flags alone
asked_apart : map {B = Bool × Bool} (λ words. (is_set (codes "by-file") (matches_of words), is_set (codes "paths") (matches_of words)))
    ((codes "last" ∷ codes "--csv" ∷ codes "--paths" ∷ []) ∷ (codes "ac" ∷ codes "--by-file" ∷ []) ∷ (codes "sa" ∷ codes "--paths" ∷ codes "--csv" ∷ codes "--by-file" ∷ []) ∷ (codes "all" ∷ codes "w:f" ∷ []) ∷ [])
    ≡ (false, true) ∷ (true, false) ∷ (true, true) ∷ (false, false) ∷ []
unfolding tally_app clap_on_literals
asked_apart = refl

-- neither `last` nor `lastb` is by file, and a report of all has neither flag
flags_apart : map (fault_of tally_app) ((codes "last" ∷ codes "--by-file" ∷ []) ∷ (codes "lastb" ∷ codes "--paths" ∷ []) ∷ (codes "all" ∷ codes "--paths" ∷ codes "w:f" ∷ []) ∷ []) ≡ (UnknownArgument ∷ []) ∷ [] ∷ (UnknownArgument ∷ []) ∷ []
unfolding tally_app clap_on_literals
flags_apart = refl

-- `check` has paths, and nothing that chooses what a report is over
flags_of_a_check : map (λ flag. fault_of tally_app (codes "check" ∷ codes "f" ∷ flag)) ((codes "--csv" ∷ codes "--paths" ∷ []) ∷ (codes "--by-file" ∷ []) ∷ (codes "--feeders" ∷ codes "2" ∷ []) ∷ (codes "--user" ∷ codes "ann" ∷ []) ∷ (codes "--in" ∷ codes "2026" ∷ []) ∷ [])
    ≡ [] ∷ (UnknownArgument ∷ []) ∷ (UnknownArgument ∷ []) ∷ (UnknownArgument ∷ []) ∷ (UnknownArgument ∷ []) ∷ []
unfolding tally_app clap_on_literals
flags_of_a_check = refl

-- the prefixes of a report of all are parts of the paths that are checked
checked_words : file_words (met_in (codes "check" ∷ codes "w:a" ∷ codes "--csv" ∷ codes "b" ∷ [])) ≡ codes "w:a" ∷ codes "b" ∷ []
unfolding tally_app clap_on_literals
checked_words = refl

-- a listing in CSV has paths
rows_of_files : HasRowsOfFiles (matches_of (codes "lastb" ∷ codes "--csv" ∷ codes "--paths" ∷ []))
unfolding tally_app clap_on_literals
rows_of_files asked = record { csv = refl; no_sum = refl; by_file = λ given. absurd (true≢false (sym given)) }

-- so have sums of each file
rows_by_file : HasRowsOfFiles (matches_of (codes "ac" ∷ codes "--by-file" ∷ codes "--csv" ∷ codes "--paths" ∷ []))
unfolding tally_app clap_on_literals
rows_by_file asked = record { csv = refl; no_sum = refl; by_file = λ given. refl }

-- so has a check
rows_of_a_check : HasRowsOfFiles (matches_of (codes "check" ∷ codes "--csv" ∷ codes "--paths" ∷ codes "f" ∷ []))
unfolding tally_app clap_on_literals
rows_of_a_check asked = record { csv = refl; no_sum = refl; by_file = λ given. absurd (true≢false (sym given)) }

-- lines for the eye have none
no_rows : ¬ HasRowsOfFiles (matches_of (codes "last" ∷ codes "--paths" ∷ []))
unfolding tally_app clap_on_literals
no_rows has = true≢false (sym (has refl).csv)

-- nor have sums of attempts
no_rows_of_sums : ¬ HasRowsOfFiles (matches_of (codes "lastb" ∷ codes "--csv" ∷ codes "--sum" ∷ codes "--paths" ∷ []))
unfolding tally_app clap_on_literals
no_rows_of_sums has = true≢false (has refl).no_sum

-- nor sums over all files
no_rows_over_all : ¬ HasRowsOfFiles (matches_of (codes "sa" ∷ codes "--csv" ∷ codes "--paths" ∷ []))
unfolding tally_app clap_on_literals
no_rows_over_all has = true≢false (sym ((has refl).by_file refl))

-- a table without paths may be of anything
none_asked : HasRowsOfFiles (matches_of (codes "sa" ∷ codes "--csv" ∷ []))
unfolding tally_app clap_on_literals
none_asked asked = absurd (true≢false (sym asked))

-- ---- seconds

-- `--until` takes the seconds from 1970 up to the last that a login record can have
range : map is_until (None ∷ Some (pos 0) ∷ Some (pos 2147483647) ∷ Some (pos 2147483648) ∷ Some (neg_ℤ (pos 1)) ∷ []) ≡ true ∷ true ∷ true ∷ false ∷ false ∷ []
range = refl

-- a period takes the seconds from the first that a login record can have up to the last that a process record can have
wide_range : map is_moment (None ∷ Some (neg_ℤ (pos 2147483648)) ∷ Some (pos 4294967295) ∷ Some (neg_ℤ (pos 2147483649)) ∷ Some (pos 4294967296) ∷ []) ≡ true ∷ true ∷ true ∷ false ∷ false ∷ []
wide_range = refl

-- ---- faults

abbrev until_at : Moment → Times
until_at moment = record { until = Some moment; from = None; to = None; at = None }

abbrev from_to : Moment → Moment → Times
from_to from to = record { until = None; from = Some from; to = Some to; at = None }

abbrev at_one : Moment → Times
at_one moment = record { until = None; from = None; to = None; at = Some moment }

-- failed logins have no open sessions, so that no moment says up to when these count
untils : (rows : List Row) → until_in (report.Attempts None every_login) rows ∷ until_in (report.AttemptSums None every_login) rows ∷ [] ≡ None ∷ None ∷ []
untils rows = refl

-- a second out of range is refused without a clock, and a day or a time waits for one
faults : map (λ moment. known_fault (until_at moment)) (Second (pos 5) ∷ Second (pos 2147483648) ∷ Second (neg_ℤ (pos 1)) ∷ Day (neg_ℤ (pos 1)) ∷ Time (pos 30000) 0 ∷ Now ∷ [])
    ≡ None ∷ Some fault.Until ∷ Some fault.Until ∷ None ∷ None ∷ None ∷ []
faults = refl

-- so is a period that ends before it begins, where both seconds are known; an empty one is taken
period_faults : map known_fault (from_to (Second (pos 20)) (Second (pos 10)) ∷ from_to (Second (pos 10)) (Second (pos 10)) ∷ from_to (Day (pos 2)) (Day (pos 1)) ∷ from_to (Day (pos 2)) (Second (pos 4294967296)) ∷ from_to (Second (pos 4294967296)) (Second (pos 0)) ∷ at_one (Second (pos 4294967296)) ∷ [])
    ≡ Some fault.Backward ∷ None ∷ None ∷ Some fault.To ∷ Some fault.From ∷ Some fault.At ∷ []
period_faults = refl

-- what is wrong on every clock is named before what a clock shows
abbrev all_of_it : Job
all_of_it = record { report = report.All; form = form.Text; millions = 1; feeders = 4; askers = 0; offset = pos 0; until = None }

first_fault : settled (record { until = Some (Day (pos 30000)); from = Some (Second (pos 4294967296)); to = None; at = None }) all_of_it (record { until = Some (pos 2592000000); from = Some (pos 4294967296); to = None; at = None })
    ∷ settled (record { until = Some (Day (pos 30000)); from = None; to = None; at = None }) all_of_it (record { until = Some (pos 2592000000); from = None; to = None; at = None }) ∷ []
    ≡ Err fault.From ∷ Err fault.Until ∷ []
first_fault = refl

-- the machine is asked for its time where a word is `now`
asked : map ask_now (until_at (Second (pos 5)) ∷ until_at Now ∷ from_to Now (Day (pos 1)) ∷ from_to (Day (pos 1)) Now ∷ at_one Now ∷ at_one (Day (pos 1)) ∷ []) ≡ false ∷ true ∷ true ∷ true ∷ true ∷ false ∷ []
asked = refl

-- ---- what reports are over

-- a second is a period of its own
periods : period_by None (Some (pos 10)) None ∷ period_by (Some (pos 10)) None None ∷ [] ≡ record { from = Some (pos 10); to = None } ∷ record { from = Some (pos 10); to = Some (pos 11) } ∷ []
periods = refl

abbrev decade : Period
decade = record { from = Some (pos 10); to = Some (pos 20) }

-- reports without sessions or failed logins have no period
over_a_period : over decade (report.Last (Some 3) every_login true) ∷ over decade (report.Attempts (Some 3) every_login) ∷ over decade (report.AttemptSums None every_login) ∷ over decade (report.Connect true false every_login) ∷ over decade (report.Users Cpu true) ∷ over decade report.All ∷ []
    ≡ report.Last (Some 3) (record every_login { period = decade }) true ∷ report.Attempts (Some 3) (record every_login { period = decade }) ∷ report.AttemptSums None (record every_login { period = decade }) ∷ report.Connect true false (record every_login { period = decade }) ∷ report.Users Cpu true ∷ report.All ∷ []
over_a_period = refl

-- no words name nothing
nobody : names_of [] ≡ every_login.users
nobody = refl
