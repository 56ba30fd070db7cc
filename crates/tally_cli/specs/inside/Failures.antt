-- Tasks that were taken back, and the failure of the least caller.
use Rattle.std.specs.Prelude.{◌≡◌, ◌≤◌, ℕ, List, Option, Some, None, IfSome, ⊤, length}
use Rattle.std.specs.List.{All, Contains}
use Rattle.tally_desk.specs.Passes.{PassState}
use Rattle.tally_cli.specs.declared.running.gather.Cause.TheVariants as cause
use Rattle.tally_cli.specs.declared.running.gather.Failure.{Failure}
use Rattle.tally_cli.specs.declared.running.task.Task.{Task}
use Rattle.tally_cli.specs.declared.running.task.Outcome.{Outcome}
use Rattle.tally_cli.specs.declared.running.task.Outcome.TheVariants as outcome

-- what failed of a caller's work
abbrev pub failure_of : ℕ → Outcome → Option Failure
failure_of caller (outcome.FeedFailed fault) = Some (record { caller = caller; cause = cause.Feed fault })
failure_of caller (outcome.AskFailed fault) = Some (record { caller = caller; cause = cause.Ask fault })
failure_of caller o = None

-- a failure of a caller no greater, where the other is one
abbrev pub AtMost : Option Failure → Option Failure → Type 0
AtMost failure None = ⊤
AtMost None (Some other) = ⊥
AtMost (Some failure) (Some other) = failure.caller ≤ other.caller

-- a task of these failed so
abbrev pub IsOfOne : {I : Type 0} → List (Task I) → Failure → Type 0
IsOfOne tasks failure = (t : Task _) × Contains tasks t × (failure_of t.pass.number t.outcome ≡ Some failure)

-- the pass is that of a task
abbrev pub IsPassOfOne : {I : Type 0} → List (Task I) → PassState → Type 0
IsPassOfOne tasks pass = (t : Task _) × Contains tasks t × (t.pass ≡ pass)

-- the failure of the least caller of those tasks that have failed, or none
pub record IsLeast {I : Type 0} (tasks : List (Task I)) (failure : Option Failure) : Type 0 where
  pub least : All (λ t. AtMost failure (failure_of t.pass.number t.outcome)) tasks
  pub some : IfSome failure (IsOfOne tasks)

-- the passes of the tasks and no others, and the failure of the least caller
pub record AreTaken {I : Type 0} (tasks : List (Task I)) (passes : List PassState) (failure : Option Failure) : Type 0 where
  pub held : All (λ t. Contains passes t.pass) tasks
  pub own : All (IsPassOfOne tasks) passes
  pub count : length passes ≡ length tasks
  pub least : IsLeast tasks failure
