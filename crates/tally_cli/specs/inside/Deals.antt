-- Which caller's work stands where.
use Rattle.std.specs.Prelude.{◌≡◌, ◌<◌, ℕ, Bool, List, [], Option, Some, None, length, slice_get, slice_index_or}
use Rattle.std.specs.List.{All, Contains}
use Rattle.tally_desk.specs.Passes.{PassState}
use Rattle.tally_cli.specs.inside.Tasks.{Works}
use Rattle.tally_cli.specs.declared.running.source.Source.{Source}
use Rattle.tally_cli.specs.declared.running.task.Asking.{Asking}
use Rattle.tally_cli.specs.declared.running.task.Task.{Task}
use Rattle.tally_cli.specs.declared.running.task.Work.{Work}
use Rattle.tally_cli.specs.declared.running.task.Work.TheVariants as work
use Rattle.tally_cli.specs.declared.running.task.Outcome.TheVariants.{Untried}

-- the element stands in one of the lists
abbrev pub IsIn : {A : Type 0} → List (List A) → A → Type 0
IsIn lists x = (w : ℕ) × (k : ℕ) × (w < length lists) × (k < length (slice_index_or lists w [])) × (slice_index_or (slice_index_or lists w []) k x ≡ x)

-- to feed the source, or to ask where there is none
abbrev pub work_of : {I : Type 0} → Asking → Option (Source I) → Work I
work_of asking (Some source) = work.Feed source
work_of asking None = work.Ask asking

-- the caller feeds the source of its number, or asks where there is none
abbrev pub task_of : {I : Type 0} → Asking → List (Source I) → ℕ → PassState → Task I
task_of asking sources number pass = record { pass = pass; work = work_of asking (slice_get sources number); outcome = Untried }

-- a caller's task before any work
abbrev pub IsTaskOf : {I : Type 0} → Asking → List (Source I) → List PassState → Task I → Type 0
IsTaskOf asking sources passes t = (k : ℕ) × (p : PassState) × (k < length passes) × (t ≡ task_of asking sources k (slice_index_or passes k p))

-- each caller's task is in one of the lists, and nothing else
pub record AreDealt {I : Type 0} (asking : Asking) (sources : List (Source I)) (passes : List PassState) (lists : List (List (Task I))) : Type 0 where
  pub each : (k : ℕ) (p : PassState) → k < length passes → IsIn lists (task_of asking sources k (slice_index_or passes k p))
  pub only : All (All (IsTaskOf asking sources passes)) lists

-- what came of a caller's task
abbrev pub CameOf : {I : Type 0} → (I → Option (List ℕ)) → (I → Bool) → Asking → List (Source I) → List PassState → Task I → Type 0
CameOf to_come can_fail asking sources passes u = (t : Task _) × IsTaskOf asking sources passes t × Works to_come can_fail t u

-- each caller's task is among these, with what came of it, and nothing else
pub record AreCarriedOut {I : Type 0} (to_come : I → Option (List ℕ)) (can_fail : I → Bool) (asking : Asking) (sources : List (Source I)) (passes : List PassState) (tasks : List (Task I)) : Type 0 where
  pub each : (k : ℕ) (p : PassState) → k < length passes → (u : Task I) × Contains tasks u × Works to_come can_fail (task_of asking sources k (slice_index_or passes k p)) u
  pub only : All (CameOf to_come can_fail asking sources passes) tasks
