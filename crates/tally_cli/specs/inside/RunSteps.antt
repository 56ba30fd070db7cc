-- What each step of a run knows.
use Rattle.std.specs.Prelude.{ℕ, Bool, false, true, List, Option, ⊤}
use Rattle.std.specs.List.{All, list_any}
use Rattle.tally_book.specs.Contents.{Contents}
use Rattle.tally_desk.specs.Passes.{HasDone, PassState, Stands}
use Rattle.tally_line.specs.declared.job.Report.{Report}
use Rattle.tally_line.specs.declared.job.Report.TheVariants as report
use Rattle.tally_records.specs.declared.batch.Kind.{Kind}
use Rattle.tally_records.specs.declared.batch.Kind.TheVariants.{Login}
use Rattle.tally_cli.specs.inside.Deals.{AreCarriedOut}
use Rattle.tally_cli.specs.inside.Failures.{IsLeast}
use Rattle.tally_cli.specs.inside.Tasks.{IsExplained}
use Rattle.tally_cli.specs.declared.fault.RunFault.{RunFault}
use Rattle.tally_cli.specs.declared.fault.RunFault.TheVariants.{Memory, File, Asker, Write}
use Rattle.tally_cli.specs.declared.running.gather.Cause.{Cause}
use Rattle.tally_cli.specs.declared.running.gather.Failure.{Failure}
use Rattle.tally_cli.specs.declared.running.source.Source.{Source}
use Rattle.tally_cli.specs.declared.running.task.Asking.{Asking}
use Rattle.tally_cli.specs.declared.running.task.Task.{Task}
use Rattle.tally_cli.specs.declared.running.gather.Cause.TheVariants as cause

-- the fault of a run in which a caller failed for this cause
abbrev pub fault_from_cause : ℕ → Cause → RunFault
fault_from_cause caller (cause.Feed fault) = File caller fault
fault_from_cause caller (cause.Ask fault) = Asker caller fault

-- what a caller's failure makes of a run
abbrev pub run_fault : Failure → RunFault
run_fault failure = fault_from_cause failure.caller failure.cause

-- whether records are logins
abbrev pub is_login : Kind → Bool
is_login Login = true
is_login kind = false

-- whether a report of files of these kinds has stays
abbrev pub has_stays : Report → List Kind → Bool
has_stays (report.Last limit choice within) kinds = true
has_stays report.All kinds = list_any is_login kinds
has_stays r kinds = false

-- no source is at fault, and no asker
abbrev pub IsPrintFault : RunFault → Type 0
IsPrintFault Memory = ⊤
IsPrintFault Write = ⊤
IsPrintFault fault = ⊥

-- all callers worked through their tasks, and this is the closed book
pub record AreWorkedThrough {I : Type 0} (to_come : I → Option (List ℕ)) (can_fail : I → Bool) (asking : Asking) (sources : List (Source I)) (passes : List PassState) (book : Contents) (failure : Option Failure) : Type 0 where
  pub tasks : List (Task I)
  pub carried : AreCarriedOut to_come can_fail asking sources passes tasks
  pub explained : All (IsExplained tasks) tasks
  pub least : IsLeast tasks failure
  pub did : All (λ t. HasDone book t.pass) tasks
  pub stand : All (λ t. Stands book t.pass) tasks
