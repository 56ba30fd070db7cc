-- What a run asks of its job.
use Rattle.std.specs.Prelude.{◌≡◌, ◌≤◌, Option, None, ⊤}
use Rattle.tally_sessions.specs.Days.{IsOffset}
use Rattle.tally_sessions.specs.declared.sessions.TheConstants.{HOST_LIMIT}
use Rattle.tally_line.specs.declared.job.Form.{Form}
use Rattle.tally_line.specs.declared.job.Form.TheVariants.{Text}
use Rattle.tally_line.specs.declared.job.Job.{Job}
use Rattle.tally_line.specs.declared.job.Report.{Report}
use Rattle.tally_line.specs.declared.job.Report.TheVariants as report

-- no moment is given to a report that has no stays
abbrev pub TakesUntil : {X : Type 0} → Report → Option X → Type 0
TakesUntil (report.Attempts limit choice) until = until ≡ None
TakesUntil (report.AttemptSums limit choice) until = until ≡ None
TakesUntil (report.Commands order reverse all) until = until ≡ None
TakesUntil (report.Users order reverse) until = until ≡ None
TakesUntil r until = ⊤

-- a report of all is text
abbrev pub TakesForm : Report → Form → Type 0
TakesForm report.All form = form ≡ Text
TakesForm r form = ⊤

-- a job that can be run
pub record IsRunnable (job : Job) : Type 0 where
  pub offset : IsOffset job.offset
  pub some_millions : 1 ≤ job.millions
  pub few_millions : job.millions ≤ 16
  pub some_feeders : 1 ≤ job.feeders
  pub few_feeders : job.feeders ≤ 64
  pub few_askers : job.askers ≤ HOST_LIMIT
  pub until : TakesUntil job.report job.until
  pub form : TakesForm job.report job.form
