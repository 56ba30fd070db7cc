-- Worked jobs of `last`, `lastb` and `ac`, computed by the definitions.
use Rattle.std.proofs.Common.{◌≡◌, Bool, List, [], ◌∷◌, None, Option, Some, false, neg_ℤ, pos, refl, sym, true, true≢false, ℕ}
use Rattle.std.specs.Prelude.{codes}
use Rattle.clap.proofs.OnLiterals.{clap_on_literals}
use Rattle.clap.specs.Words.{Row, Text}
use Rattle.tally_records.specs.Choice.{every_login}
use Rattle.tally_records.specs.declared.choice.LoginChoice.{LoginChoice}
use Rattle.tally_line.specs.CommandLine.{tally_app}
use Rattle.tally_line.specs.Options.{IsReportOf}
use Rattle.tally_line.specs.declared.job.Form.TheVariants as form
use Rattle.tally_line.specs.declared.job.Job.{Job}
use Rattle.tally_line.specs.declared.job.Report.TheVariants as report
use Rattle.tally_line.proofs.WorkedAsking.{Asks, IsAlone, chosen, csv_asked, flag_clear, flag_set, job_with, matches_of, number_is, offset_is, offset_of, optional_is, optional_none, text_asked, writes}

-- ---- `last`

-- each option as far as it goes
abbrev last_words : List Text
last_words = codes "last" ∷ codes "-n" ∷ codes "16777216" ∷ codes "--user=ann" ∷ codes "--line=tty1" ∷ codes "--from=@5" ∷ codes "--csv" ∷ codes "--millions=16" ∷ codes "--feeders=64" ∷ codes "--east=1439" ∷ codes "--west=60" ∷ codes "f" ∷ []

abbrev last_rows : List Row
last_rows = matches_of last_words

abbrev last_job : Job
last_job = job_with (report.Last (Some 16777216) chosen true) form.Csv 16 64 0 (pos 1379)

-- these words ask for this job
last_is_asked : Asks last_words last_job
unfolding tally_app clap_on_literals
last_is_asked = record {
  named = refl;
  form = csv_asked last_rows refl;
  options = record {
    report = (optional_is last_rows (codes "limit") (codes "16777216") refl 1 16777216, refl, refl);
    millions = number_is last_rows (codes "millions") (codes "16") refl 1 16 1;
    feeders = number_is last_rows (codes "feeders") (codes "64") refl 1 64 4;
    askers = refl;
    offset = offset_of last_rows (codes "1439") (codes "60") refl refl;
    unsettled = refl;
  };
}

-- and for no other of its report
last_is_alone : (limit : Option ℕ) (choice : LoginChoice) (within : Bool) → IsAlone last_words (report.Last limit choice within) last_job
unfolding tally_app clap_on_literals
last_is_alone limit choice within its_form millions feeders askers offset asks = rw (
  asks.options.report.0.some (codes "16777216") refl (writes 1 16777216 (codes "16777216") refl),
  asks.options.report.1,
  asks.options.report.2,
  asks.form.csv refl,
  asks.options.millions.some (codes "16") refl (writes 1 16 (codes "16") refl),
  asks.options.feeders.some (codes "64") refl (writes 1 64 (codes "64") refl),
  asks.options.askers,
  offset_is last_rows (codes "1439") (codes "60") refl refl refl refl offset asks.options.offset,
) refl

-- no option
abbrev bare_last_words : List Text
bare_last_words = codes "last" ∷ []

abbrev bare_last_rows : List Row
bare_last_rows = matches_of bare_last_words

abbrev bare_last_job : Job
bare_last_job = job_with (report.Last None every_login false) form.Text 1 4 0 (pos 0)

-- these words ask for this job
bare_last_is_asked : Asks bare_last_words bare_last_job
unfolding tally_app clap_on_literals
bare_last_is_asked = record {
  named = refl;
  form = text_asked bare_last_rows refl;
  options = record {
    report = (optional_none bare_last_rows (codes "limit") 1 16777216 refl, refl, refl);
    millions = number_is bare_last_rows (codes "millions") (codes "1") refl 1 16 1;
    feeders = number_is bare_last_rows (codes "feeders") (codes "4") refl 1 64 4;
    askers = refl;
    offset = offset_of bare_last_rows (codes "0") (codes "0") refl refl;
    unsettled = refl;
  };
}

-- and for no other of its report
bare_last_is_alone : (limit : Option ℕ) (choice : LoginChoice) (within : Bool) → IsAlone bare_last_words (report.Last limit choice within) bare_last_job
unfolding tally_app clap_on_literals
bare_last_is_alone limit choice within its_form millions feeders askers offset asks = rw (
  asks.options.report.0.none refl,
  asks.options.report.1,
  asks.options.report.2,
  asks.form.text refl,
  asks.options.millions.some (codes "1") refl (writes 1 16 (codes "1") refl),
  asks.options.feeders.some (codes "4") refl (writes 1 64 (codes "4") refl),
  asks.options.askers,
  offset_is bare_last_rows (codes "0") (codes "0") refl refl refl refl offset asks.options.offset,
) refl

-- ---- `lastb`

-- failed logins themselves
abbrev lastb_words : List Text
lastb_words = codes "lastb" ∷ codes "-n" ∷ codes "16777216" ∷ codes "--user=ann" ∷ codes "--line=tty1" ∷ codes "--to=@5" ∷ codes "--csv" ∷ codes "--millions=2" ∷ codes "--feeders=1" ∷ codes "--west=1439" ∷ []

abbrev lastb_rows : List Row
lastb_rows = matches_of lastb_words

abbrev lastb_job : Job
lastb_job = job_with (report.Attempts (Some 16777216) chosen) form.Csv 2 1 0 (neg_ℤ (pos 1439))

-- these words ask for this job
lastb_is_asked : Asks lastb_words lastb_job
unfolding tally_app clap_on_literals
lastb_is_asked = record {
  named = refl;
  form = csv_asked lastb_rows refl;
  options = record {
    report = (flag_clear lastb_rows (codes "sum") refl, optional_is lastb_rows (codes "limit") (codes "16777216") refl 1 16777216, refl);
    millions = number_is lastb_rows (codes "millions") (codes "2") refl 1 16 1;
    feeders = number_is lastb_rows (codes "feeders") (codes "1") refl 1 64 4;
    askers = refl;
    offset = offset_of lastb_rows (codes "0") (codes "1439") refl refl;
    unsettled = refl;
  };
}

-- and for no other of its report
lastb_is_alone : (limit : Option ℕ) (choice : LoginChoice) → IsAlone lastb_words (report.Attempts limit choice) lastb_job
unfolding tally_app clap_on_literals
lastb_is_alone limit choice its_form millions feeders askers offset asks = rw (
  asks.options.report.1.some (codes "16777216") refl (writes 1 16777216 (codes "16777216") refl),
  asks.options.report.2,
  asks.form.csv refl,
  asks.options.millions.some (codes "2") refl (writes 1 16 (codes "2") refl),
  asks.options.feeders.some (codes "1") refl (writes 1 64 (codes "1") refl),
  asks.options.askers,
  offset_is lastb_rows (codes "0") (codes "1439") refl refl refl refl offset asks.options.offset,
) refl

-- their sums
abbrev sums_words : List Text
sums_words = codes "lastb" ∷ codes "--sum" ∷ codes "-n" ∷ codes "16777216" ∷ codes "--user=ann" ∷ codes "--line=tty1" ∷ []

abbrev sums_rows : List Row
sums_rows = matches_of sums_words

abbrev sums_job : Job
sums_job = job_with (report.AttemptSums (Some 16777216) chosen) form.Text 1 4 0 (pos 0)

-- these words ask for this job
sums_is_asked : Asks sums_words sums_job
unfolding tally_app clap_on_literals
sums_is_asked = record {
  named = refl;
  form = text_asked sums_rows refl;
  options = record {
    report = (flag_set sums_rows (codes "sum") refl, optional_is sums_rows (codes "limit") (codes "16777216") refl 1 16777216, refl);
    millions = number_is sums_rows (codes "millions") (codes "1") refl 1 16 1;
    feeders = number_is sums_rows (codes "feeders") (codes "4") refl 1 64 4;
    askers = refl;
    offset = offset_of sums_rows (codes "0") (codes "0") refl refl;
    unsettled = refl;
  };
}

-- and for no other of its report
sums_is_alone : (limit : Option ℕ) (choice : LoginChoice) → IsAlone sums_words (report.AttemptSums limit choice) sums_job
unfolding tally_app clap_on_literals
sums_is_alone limit choice its_form millions feeders askers offset asks = rw (
  asks.options.report.1.some (codes "16777216") refl (writes 1 16777216 (codes "16777216") refl),
  asks.options.report.2,
  asks.form.text refl,
  asks.options.millions.some (codes "1") refl (writes 1 16 (codes "1") refl),
  asks.options.feeders.some (codes "4") refl (writes 1 64 (codes "4") refl),
  asks.options.askers,
  offset_is sums_rows (codes "0") (codes "0") refl refl refl refl offset asks.options.offset,
) refl

-- neither is asked for by the words of the other
sums_are_no_list : (limit : Option ℕ) (choice : LoginChoice) → ¬ IsReportOf (report.Attempts limit choice) sums_rows
unfolding tally_app clap_on_literals
sums_are_no_list limit choice is = true≢false (sym (is.0.given refl))

-- nor are sums asked for without `--sum`
list_is_no_sums : (limit : Option ℕ) (choice : LoginChoice) → ¬ IsReportOf (report.AttemptSums limit choice) lastb_rows
unfolding tally_app clap_on_literals
list_is_no_sums limit choice is = true≢false (is.0.left_out refl)

-- ---- `ac`

-- by day alone
abbrev by_day_words : List Text
by_day_words = codes "ac" ∷ codes "-d" ∷ codes "--user=ann" ∷ codes "--line=tty1" ∷ codes "--in=2026" ∷ codes "--csv" ∷ codes "--by-file" ∷ codes "--paths" ∷ codes "--millions=3" ∷ codes "--feeders=2" ∷ codes "--east=60" ∷ []

abbrev by_day_rows : List Row
by_day_rows = matches_of by_day_words

abbrev by_day_job : Job
by_day_job = job_with (report.Connect true false chosen) form.Csv 3 2 0 (pos 60)

-- these words ask for this job
by_day_is_asked : Asks by_day_words by_day_job
unfolding tally_app clap_on_literals
by_day_is_asked = record {
  named = refl;
  form = csv_asked by_day_rows refl;
  options = record {
    report = (flag_set by_day_rows (codes "by_day") refl, flag_clear by_day_rows (codes "by_user") refl, refl);
    millions = number_is by_day_rows (codes "millions") (codes "3") refl 1 16 1;
    feeders = number_is by_day_rows (codes "feeders") (codes "2") refl 1 64 4;
    askers = refl;
    offset = offset_of by_day_rows (codes "60") (codes "0") refl refl;
    unsettled = refl;
  };
}

-- and for no other of its report
by_day_is_alone : (by_day : Bool) (by_user : Bool) (choice : LoginChoice) → IsAlone by_day_words (report.Connect by_day by_user choice) by_day_job
unfolding tally_app clap_on_literals
by_day_is_alone by_day by_user choice its_form millions feeders askers offset asks = rw (
  asks.options.report.0.given refl,
  asks.options.report.1.left_out refl,
  asks.options.report.2,
  asks.form.csv refl,
  asks.options.millions.some (codes "3") refl (writes 1 16 (codes "3") refl),
  asks.options.feeders.some (codes "2") refl (writes 1 64 (codes "2") refl),
  asks.options.askers,
  offset_is by_day_rows (codes "60") (codes "0") refl refl refl refl offset asks.options.offset,
) refl

-- by user alone
abbrev by_user_words : List Text
by_user_words = codes "ac" ∷ codes "-p" ∷ []

abbrev by_user_rows : List Row
by_user_rows = matches_of by_user_words

abbrev by_user_job : Job
by_user_job = job_with (report.Connect false true every_login) form.Text 1 4 0 (pos 0)

-- these words ask for this job
by_user_is_asked : Asks by_user_words by_user_job
unfolding tally_app clap_on_literals
by_user_is_asked = record {
  named = refl;
  form = text_asked by_user_rows refl;
  options = record {
    report = (flag_clear by_user_rows (codes "by_day") refl, flag_set by_user_rows (codes "by_user") refl, refl);
    millions = number_is by_user_rows (codes "millions") (codes "1") refl 1 16 1;
    feeders = number_is by_user_rows (codes "feeders") (codes "4") refl 1 64 4;
    askers = refl;
    offset = offset_of by_user_rows (codes "0") (codes "0") refl refl;
    unsettled = refl;
  };
}

-- and for no other of its report
by_user_is_alone : (by_day : Bool) (by_user : Bool) (choice : LoginChoice) → IsAlone by_user_words (report.Connect by_day by_user choice) by_user_job
unfolding tally_app clap_on_literals
by_user_is_alone by_day by_user choice its_form millions feeders askers offset asks = rw (
  asks.options.report.0.left_out refl,
  asks.options.report.1.given refl,
  asks.options.report.2,
  asks.form.text refl,
  asks.options.millions.some (codes "1") refl (writes 1 16 (codes "1") refl),
  asks.options.feeders.some (codes "4") refl (writes 1 64 (codes "4") refl),
  asks.options.askers,
  offset_is by_user_rows (codes "0") (codes "0") refl refl refl refl offset asks.options.offset,
) refl

-- ---- the least

-- a limit of one is one
one_stay : (limit : Option ℕ) (within : Bool) → IsReportOf (report.Last limit every_login within) (matches_of (codes "last" ∷ codes "-n1" ∷ [])) → limit ≡ Some 1
unfolding tally_app clap_on_literals
one_stay limit within is = is.0.some (codes "1") refl (writes 1 16777216 (codes "1") refl)

-- so it is of failed logins
one_attempt : (limit : Option ℕ) → IsReportOf (report.Attempts limit every_login) (matches_of (codes "lastb" ∷ codes "-n1" ∷ [])) → limit ≡ Some 1
unfolding tally_app clap_on_literals
one_attempt limit is = is.1.some (codes "1") refl (writes 1 16777216 (codes "1") refl)

-- and of their sums
one_sum : (limit : Option ℕ) → IsReportOf (report.AttemptSums limit every_login) (matches_of (codes "lastb" ∷ codes "--sum" ∷ codes "-n1" ∷ [])) → limit ≡ Some 1
unfolding tally_app clap_on_literals
one_sum limit is = is.1.some (codes "1") refl (writes 1 16777216 (codes "1") refl)
