-- A job with its seconds can be run, and moments that no clock helps are refused.
use Rattle.std.proofs.Common.{◌≡◌, Bool, true, false, cond, not, ℤ, Option, None, Some, Result, IfOk, IfSome, refl, subst, sym}
use Rattle.std.specs.Option.{option_or}
use Rattle.tally_moments.specs.declared.moment.Moment.{Moment}
use Rattle.tally_records.specs.declared.period.Period.{Period}
use Rattle.tally_line.specs.Jobs.{IsRunnable, TakesForm, TakesUntil}
use Rattle.tally_line.specs.Settled.{AreRefused, AreSecondsOf, IsSecondIn, fault_of, is_moment, is_until, known_fault, over, period_of, settled, settled_by}
use Rattle.tally_line.specs.declared.job.Form.{Form}
use Rattle.tally_line.specs.declared.job.Job.{Job}
use Rattle.tally_line.specs.declared.job.Report.{Report}
use Rattle.tally_line.specs.declared.job.Report.TheVariants as report
use Rattle.tally_line.specs.declared.settling.Seconds.{Seconds}
use Rattle.tally_line.specs.declared.settling.TimesFault.{TimesFault}
use Rattle.tally_line.specs.declared.settling.TimesFault.TheVariants as fault
use Rattle.tally_line.specs.declared.times.Times.{Times}

-- ---- jobs

-- where there is no moment there is no second
no_second : (clock : ℤ → ℤ) (now : ℤ) (moment : Option Moment) (second : Option ℤ) → moment ≡ None → IsSecondIn clock now moment second → second ≡ None
no_second clock now None None none is = refl
no_second clock now None (Some second) none is = absurd is
no_second clock now (Some moment) second none is = cc

until_taken : (clock : ℤ → ℤ) (now : ℤ) (period : Period) (r : Report) (moment : Option Moment) (second : Option ℤ) → TakesUntil r moment → IsSecondIn clock now moment second → TakesUntil (over period r) second
until_taken clock now period (report.Last limit choice within) moment second takes is = tt
until_taken clock now period (report.Connect by_day by_user choice) moment second takes is = tt
until_taken clock now period (report.Attempts limit choice) moment second takes is = no_second clock now moment second takes is
until_taken clock now period (report.AttemptSums limit choice) moment second takes is = no_second clock now moment second takes is
until_taken clock now period (report.Commands order reverse all) moment second takes is = no_second clock now moment second takes is
until_taken clock now period (report.Users order reverse) moment second takes is = no_second clock now moment second takes is
until_taken clock now period report.All moment second takes is = tt

form_taken : (period : Period) (r : Report) (form : Form) → TakesForm r form → TakesForm (over period r) form
form_taken period (report.Last limit choice within) form takes = tt
form_taken period (report.Attempts limit choice) form takes = tt
form_taken period (report.AttemptSums limit choice) form takes = tt
form_taken period (report.Connect by_day by_user choice) form takes = tt
form_taken period (report.Commands order reverse all) form takes = tt
form_taken period (report.Users order reverse) form takes = tt
form_taken period report.All form takes = takes

pub runs_settled : (clock : ℤ → ℤ) (now : ℤ) (times : Times) (job : Job) (seconds : Seconds) (r : Result Job TimesFault) → AreSecondsOf clock now times seconds → r ≡ settled times job seconds
    → IsRunnable job → TakesUntil job.report times.until → IfOk r IsRunnable
runs_settled clock now times job seconds r are is runs takes = subst (λ x. IfOk x IsRunnable) (sym is) (go (option_or (known_fault times) (fault_of seconds)))
  where
    go : (found : Option TimesFault) → IfOk (settled_by found job seconds) IsRunnable
    go (Some found) = tt
    go None = record {
      offset = runs.offset;
      some_millions = runs.some_millions;
      few_millions = runs.few_millions;
      some_feeders = runs.some_feeders;
      few_feeders = runs.few_feeders;
      few_askers = runs.few_askers;
      until = until_taken clock now (period_of seconds) job.report times.until seconds.until takes are.until;
      form = form_taken (period_of seconds) job.report job.form runs.form;
    }

-- ---- faults

-- what is wrong on every clock comes first
pub refused_anywhere : (times : Times) → IfSome (known_fault times) (AreRefused times)
refused_anywhere times = go (known_fault times) refl
  where
    go : (o : Option TimesFault) → known_fault times ≡ o → IfSome o (AreRefused times)
    go None is = tt
    go (Some found) is = λ clock now job result settles.
        subst (λ o. result ≡ settled_by (option_or o (fault_of settles.0)) job settles.0) is settles.2

-- the second of two is none where there is none of both
pub no_other : {X : Type 0} (a b : Option X) → option_or a b ≡ None → b ≡ None
no_other None b none = none
no_other (Some x) b none = cc

-- a test that names no fault is passed
passed : (b : Bool) (found : TimesFault) (rest : Option TimesFault) → cond (not b) (Some found) rest ≡ None → (b ≡ true) × (rest ≡ None)
passed true found rest none = (refl, none)
passed false found rest none = cc

-- where nothing is wrong, the second of `--until` and that of `--at` are in their ranges
pub none_out : (seconds : Seconds) → fault_of seconds ≡ None → (is_until seconds.until ≡ true) × (is_moment seconds.at ≡ true)
none_out seconds none =
    let until = passed (is_until seconds.until) fault.Until _ none in
    let from = passed (is_moment seconds.from) fault.From _ until.1 in
    let to = passed (is_moment seconds.to) fault.To _ from.1 in
    (until.0, (passed (is_moment seconds.at) fault.At _ to.1).0)
