-- Worked jobs of `sa` and of a report of all, computed by the definitions.
use Rattle.std.proofs.Common.{◌≡◌, Bool, List, [], ◌∷◌, None, Option, false, neg_ℤ, pos, refl, sym, true, true≢false, ℕ}
use Rattle.std.specs.Prelude.{codes}
use Rattle.clap.proofs.OnLiterals.{clap_on_literals}
use Rattle.clap.specs.Words.{Row, Text}
use Rattle.tally_records.specs.Choice.{every_login}
use Rattle.tally_usage.specs.declared.order.Order.{Order}
use Rattle.tally_usage.specs.declared.order.Order.TheVariants.{Calls, Cpu}
use Rattle.tally_line.specs.CommandLine.{tally_app}
use Rattle.tally_line.specs.Options.{AreAskersOf, AreMillionsOf, IsReportOf, SetsJob}
use Rattle.tally_line.specs.declared.job.Form.TheVariants as form
use Rattle.tally_line.specs.declared.job.Job.{Job}
use Rattle.tally_line.specs.declared.job.Report.TheVariants as report
use Rattle.tally_line.proofs.WorkedAsking.{Asks, IsAlone, by_calls, by_cpu, csv_asked, flag_clear, flag_set, job_with, matches_of, number_is, offset_is, offset_of, text_asked, writes}

-- ---- `sa`

-- all commands by calls
abbrev by_calls_all_words : List Text
by_calls_all_words = codes "sa" ∷ codes "-a" ∷ codes "-n" ∷ codes "--uid=5" ∷ codes "--from=@5" ∷ codes "--csv" ∷ codes "--feeders=3" ∷ codes "--east=30" ∷ codes "--west=90" ∷ []

abbrev by_calls_all_rows : List Row
by_calls_all_rows = matches_of by_calls_all_words

abbrev by_calls_all_job : Job
by_calls_all_job = job_with (report.Commands Calls false true) form.Csv 1 3 0 (neg_ℤ (pos 60))

-- these words ask for this job
by_calls_all_is_asked : Asks by_calls_all_words by_calls_all_job
unfolding tally_app clap_on_literals
by_calls_all_is_asked = record {
  named = refl;
  form = csv_asked by_calls_all_rows refl;
  options = record {
    report = (flag_clear by_calls_all_rows (codes "by_user") refl, flag_set by_calls_all_rows (codes "by_calls") refl, flag_clear by_calls_all_rows (codes "reverse") refl, flag_set by_calls_all_rows (codes "keep_all") refl);
    millions = refl;
    feeders = number_is by_calls_all_rows (codes "feeders") (codes "3") refl 1 64 4;
    askers = refl;
    offset = offset_of by_calls_all_rows (codes "30") (codes "90") refl refl;
    unsettled = refl;
  };
}

-- and for no other of its report
by_calls_all_is_alone : (order : Order) (reverse : Bool) (all : Bool) → IsAlone by_calls_all_words (report.Commands order reverse all) by_calls_all_job
unfolding tally_app clap_on_literals
by_calls_all_is_alone order reverse all its_form millions feeders askers offset asks = rw (
  by_calls order (asks.options.report.1.given refl),
  asks.options.report.2.left_out refl,
  asks.options.report.3.given refl,
  asks.form.csv refl,
  asks.options.millions,
  asks.options.feeders.some (codes "3") refl (writes 1 64 (codes "3") refl),
  asks.options.askers,
  offset_is by_calls_all_rows (codes "30") (codes "90") refl refl refl refl offset asks.options.offset,
) refl

-- commands in the other order
abbrev reversed_words : List Text
reversed_words = codes "sa" ∷ codes "-r" ∷ []

abbrev reversed_rows : List Row
reversed_rows = matches_of reversed_words

abbrev reversed_job : Job
reversed_job = job_with (report.Commands Cpu true false) form.Text 1 4 0 (pos 0)

-- these words ask for this job
reversed_is_asked : Asks reversed_words reversed_job
unfolding tally_app clap_on_literals
reversed_is_asked = record {
  named = refl;
  form = text_asked reversed_rows refl;
  options = record {
    report = (flag_clear reversed_rows (codes "by_user") refl, flag_clear reversed_rows (codes "by_calls") refl, flag_set reversed_rows (codes "reverse") refl, flag_clear reversed_rows (codes "keep_all") refl);
    millions = refl;
    feeders = number_is reversed_rows (codes "feeders") (codes "4") refl 1 64 4;
    askers = refl;
    offset = offset_of reversed_rows (codes "0") (codes "0") refl refl;
    unsettled = refl;
  };
}

-- and for no other of its report
reversed_is_alone : (order : Order) (reverse : Bool) (all : Bool) → IsAlone reversed_words (report.Commands order reverse all) reversed_job
unfolding tally_app clap_on_literals
reversed_is_alone order reverse all its_form millions feeders askers offset asks = rw (
  by_cpu order (asks.options.report.1.left_out refl),
  asks.options.report.2.given refl,
  asks.options.report.3.left_out refl,
  asks.form.text refl,
  asks.options.millions,
  asks.options.feeders.some (codes "4") refl (writes 1 64 (codes "4") refl),
  asks.options.askers,
  offset_is reversed_rows (codes "0") (codes "0") refl refl refl refl offset asks.options.offset,
) refl

-- users by calls
abbrev users_by_calls_words : List Text
users_by_calls_words = codes "sa" ∷ codes "-m" ∷ codes "-n" ∷ codes "--names=f" ∷ codes "--feeders=64" ∷ []

abbrev users_by_calls_rows : List Row
users_by_calls_rows = matches_of users_by_calls_words

abbrev users_by_calls_job : Job
users_by_calls_job = job_with (report.Users Calls false) form.Text 1 64 0 (pos 0)

-- these words ask for this job
users_by_calls_is_asked : Asks users_by_calls_words users_by_calls_job
unfolding tally_app clap_on_literals
users_by_calls_is_asked = record {
  named = refl;
  form = text_asked users_by_calls_rows refl;
  options = record {
    report = (flag_set users_by_calls_rows (codes "by_user") refl, flag_set users_by_calls_rows (codes "by_calls") refl, flag_clear users_by_calls_rows (codes "reverse") refl);
    millions = refl;
    feeders = number_is users_by_calls_rows (codes "feeders") (codes "64") refl 1 64 4;
    askers = refl;
    offset = offset_of users_by_calls_rows (codes "0") (codes "0") refl refl;
    unsettled = refl;
  };
}

-- and for no other of its report
users_by_calls_is_alone : (order : Order) (reverse : Bool) → IsAlone users_by_calls_words (report.Users order reverse) users_by_calls_job
unfolding tally_app clap_on_literals
users_by_calls_is_alone order reverse its_form millions feeders askers offset asks = rw (
  by_calls order (asks.options.report.1.given refl),
  asks.options.report.2.left_out refl,
  asks.form.text refl,
  asks.options.millions,
  asks.options.feeders.some (codes "64") refl (writes 1 64 (codes "64") refl),
  asks.options.askers,
  offset_is users_by_calls_rows (codes "0") (codes "0") refl refl refl refl offset asks.options.offset,
) refl

-- users in the other order
abbrev users_reversed_words : List Text
users_reversed_words = codes "sa" ∷ codes "-mr" ∷ []

abbrev users_reversed_rows : List Row
users_reversed_rows = matches_of users_reversed_words

abbrev users_reversed_job : Job
users_reversed_job = job_with (report.Users Cpu true) form.Text 1 4 0 (pos 0)

-- these words ask for this job
users_reversed_is_asked : Asks users_reversed_words users_reversed_job
unfolding tally_app clap_on_literals
users_reversed_is_asked = record {
  named = refl;
  form = text_asked users_reversed_rows refl;
  options = record {
    report = (flag_set users_reversed_rows (codes "by_user") refl, flag_clear users_reversed_rows (codes "by_calls") refl, flag_set users_reversed_rows (codes "reverse") refl);
    millions = refl;
    feeders = number_is users_reversed_rows (codes "feeders") (codes "4") refl 1 64 4;
    askers = refl;
    offset = offset_of users_reversed_rows (codes "0") (codes "0") refl refl;
    unsettled = refl;
  };
}

-- and for no other of its report
users_reversed_is_alone : (order : Order) (reverse : Bool) → IsAlone users_reversed_words (report.Users order reverse) users_reversed_job
unfolding tally_app clap_on_literals
users_reversed_is_alone order reverse its_form millions feeders askers offset asks = rw (
  by_cpu order (asks.options.report.1.left_out refl),
  asks.options.report.2.given refl,
  asks.form.text refl,
  asks.options.millions,
  asks.options.feeders.some (codes "4") refl (writes 1 64 (codes "4") refl),
  asks.options.askers,
  offset_is users_reversed_rows (codes "0") (codes "0") refl refl refl refl offset asks.options.offset,
) refl

-- `-m` asks for users, and without it commands are asked for
no_commands : (order : Order) (reverse all : Bool) → ¬ IsReportOf (report.Commands order reverse all) users_reversed_rows
unfolding tally_app clap_on_literals
no_commands order reverse all is = true≢false (sym (is.0.given refl))

-- nor are users asked for without it
no_users : (order : Order) (reverse : Bool) → ¬ IsReportOf (report.Users order reverse) reversed_rows
unfolding tally_app clap_on_literals
no_users order reverse is = true≢false (is.0.left_out refl)

-- ---- all

-- each option as far as it goes
abbrev all_words : List Text
all_words = codes "all" ∷ codes "--askers=64" ∷ codes "--until=@5" ∷ codes "--millions=16" ∷ codes "--feeders=64" ∷ codes "--west=5" ∷ codes "w:a" ∷ codes "p:b" ∷ []

abbrev all_rows : List Row
all_rows = matches_of all_words

abbrev all_job : Job
all_job = job_with report.All form.Text 16 64 64 (neg_ℤ (pos 5))

-- these words ask for this job
all_is_asked : Asks all_words all_job
unfolding tally_app clap_on_literals
all_is_asked = record {
  named = refl;
  form = refl;
  options = record {
    report = tt;
    millions = number_is all_rows (codes "millions") (codes "16") refl 1 16 1;
    feeders = number_is all_rows (codes "feeders") (codes "64") refl 1 64 4;
    askers = number_is all_rows (codes "askers") (codes "64") refl 0 64 0;
    offset = offset_of all_rows (codes "0") (codes "5") refl refl;
    unsettled = refl;
  };
}

-- and for no other of its report
all_is_alone : IsAlone all_words report.All all_job
unfolding tally_app clap_on_literals
all_is_alone its_form millions feeders askers offset asks = rw (
  asks.form,
  asks.options.millions.some (codes "16") refl (writes 1 16 (codes "16") refl),
  asks.options.feeders.some (codes "64") refl (writes 1 64 (codes "64") refl),
  asks.options.askers.some (codes "64") refl (writes 0 64 (codes "64") refl),
  offset_is all_rows (codes "0") (codes "5") refl refl refl refl offset asks.options.offset,
) refl

-- no option
abbrev bare_all_words : List Text
bare_all_words = codes "all" ∷ codes "p:a" ∷ []

abbrev bare_all_rows : List Row
bare_all_rows = matches_of bare_all_words

abbrev bare_all_job : Job
bare_all_job = job_with report.All form.Text 1 4 0 (pos 0)

-- these words ask for this job
bare_all_is_asked : Asks bare_all_words bare_all_job
unfolding tally_app clap_on_literals
bare_all_is_asked = record {
  named = refl;
  form = refl;
  options = record {
    report = tt;
    millions = number_is bare_all_rows (codes "millions") (codes "1") refl 1 16 1;
    feeders = number_is bare_all_rows (codes "feeders") (codes "4") refl 1 64 4;
    askers = number_is bare_all_rows (codes "askers") (codes "0") refl 0 64 0;
    offset = offset_of bare_all_rows (codes "0") (codes "0") refl refl;
    unsettled = refl;
  };
}

-- and for no other of its report
bare_all_is_alone : IsAlone bare_all_words report.All bare_all_job
unfolding tally_app clap_on_literals
bare_all_is_alone its_form millions feeders askers offset asks = rw (
  asks.form,
  asks.options.millions.some (codes "1") refl (writes 1 16 (codes "1") refl),
  asks.options.feeders.some (codes "4") refl (writes 1 64 (codes "4") refl),
  asks.options.askers.some (codes "0") refl (writes 0 64 (codes "0") refl),
  offset_is bare_all_rows (codes "0") (codes "0") refl refl refl refl offset asks.options.offset,
) refl

-- ---- what matches do not have

-- four threads read where nothing is said of them
feeders_left_out : (job : Job) → SetsJob [] job → job.feeders ≡ 4
feeders_left_out job sets = sets.feeders.none refl

-- times are those of UTC then
offset_left_out : (job : Job) → SetsJob [] job → job.offset ≡ pos 0
offset_left_out job sets = rw (sets.offset.value, sets.offset.is_east.none refl, sets.offset.is_west.none refl) refl

-- 1,048,576 records are taken
millions_left_out : (millions : ℕ) → AreMillionsOf report.All [] millions → millions ≡ 1
millions_left_out millions are = are.none refl

-- none asks
askers_left_out : (askers : ℕ) → AreAskersOf report.All [] askers → askers ≡ 0
askers_left_out askers are = are.none refl

-- all stays are shown
limit_left_out : (limit : Option ℕ) (within : Bool) → IsReportOf (report.Last limit every_login within) [] → limit ≡ None
limit_left_out limit within is = is.0.none refl

-- neither by day nor by user
flags_left_out : (by_day by_user : Bool) → IsReportOf (report.Connect by_day by_user every_login) [] → (by_day ≡ false) × (by_user ≡ false)
flags_left_out by_day by_user is = (is.0.none refl, is.1.none refl)
