-- What a worker does of its tasks.
use Rattle.std.specs.Prelude.{◌≡◌, ◌<◌, ℕ, Bool, List, Option, Some, true, ⊤, length, slice_index_or}
use Rattle.std.specs.List.{All, Contains}
use Rattle.tally_answers.specs.declared.question.Question.{Question}
use Rattle.tally_book.specs.Rooms.{batches_in}
use Rattle.tally_desk.specs.Feeds.{Counts, IsFeedRefusal, IsStopped, IsWhole, Posts, Stops}
use Rattle.tally_desk.specs.Passes.{DeskState, Keeps, PassState}
use Rattle.tally_desk.specs.Rounds.{AskStops, Asks, in_rounds}
use Rattle.tally_desk.specs.declared.fault.FeedFault.{FeedFault}
use Rattle.tally_desk.specs.declared.fault.FeedFault.TheVariants.{Read}
use Rattle.tally_desk.specs.declared.feeding.Fed.{Fed}
use Rattle.tally_records.specs.Records.{Records}
use Rattle.tally_records.specs.declared.batch.Kind.{Kind}
use Rattle.tally_cli.specs.Reading.{asked_once}
use Rattle.tally_cli.specs.Runs.{IsReadable}
use Rattle.tally_cli.specs.declared.running.source.Source.{Source}
use Rattle.tally_cli.specs.declared.running.task.Asking.{Asking}
use Rattle.tally_cli.specs.declared.running.task.Task.{Task}
use Rattle.tally_cli.specs.declared.running.task.Work.{Work}
use Rattle.tally_cli.specs.declared.running.task.Work.TheVariants as work
use Rattle.tally_cli.specs.declared.running.task.Outcome.{Outcome}
use Rattle.tally_cli.specs.declared.running.task.Outcome.TheVariants as outcome

-- the work was not tried
abbrev pub IsUntried : Outcome → Type 0
IsUntried o = o ≡ outcome.Untried

-- the work was done whole
abbrev pub IsDone : Outcome → Type 0
IsDone (outcome.Fed fed) = ⊤
IsDone (outcome.Asked count) = ⊤
IsDone o = ⊥

-- the work was tried, and something was refused
abbrev pub HasFailed : Outcome → Type 0
HasFailed (outcome.FeedFailed fault) = ⊤
HasFailed (outcome.AskFailed fault) = ⊤
HasFailed o = ⊥

-- a feed that reached the end of its input
pub record HasFed (told : Option (List ℕ)) (kind : Kind) (old new : PassState) (fed : Fed) : Type 0 where
  pub counted : (batches : List Records) × Posts old new batches × Counts kind batches fed
  pub whole : (bytes : List ℕ) → told ≡ Some bytes → IsWhole (batches_in old.seen.room) kind bytes (Posts old new)

-- a feed that was refused
pub record FailedToFeed (told : Option (List ℕ)) (can_fail : Bool) (kind : Kind) (old new : PassState) (fault : FeedFault) : Type 0 where
  pub posts : IsStopped (batches_in old.seen.room) kind (Posts old new) fault
  pub stops : (bytes : List ℕ) → told ≡ Some bytes → Stops (batches_in old.seen.room) kind bytes (Posts old new) new.seen fault
  pub full : IsFeedRefusal kind new.seen fault
  pub read : fault ≡ Read → can_fail ≡ true

-- all that an asker asks, in four rounds
abbrev pub asker_questions : Asking → List Question
asker_questions asking = in_rounds 4 (asked_once asking.choice asking.until)

-- what a caller did of its work, by what it says of it
abbrev pub IsOutcome : {I : Type 0} → (I → Option (List ℕ)) → (I → Bool) → Work I → PassState → PassState → Outcome → Type 0
IsOutcome to_come can_fail (work.Feed source) old new outcome.Untried = new ≡ old
IsOutcome to_come can_fail (work.Feed source) old new (outcome.Fed fed) = HasFed (to_come source.input) source.kind old new fed
IsOutcome to_come can_fail (work.Feed source) old new (outcome.FeedFailed fault) =
    FailedToFeed (to_come source.input) (can_fail source.input) source.kind old new fault
IsOutcome to_come can_fail (work.Ask asking) old new outcome.Untried = new ≡ old
IsOutcome to_come can_fail (work.Ask asking) old new (outcome.Asked count) = (count ≡ 16) × Asks old new (asker_questions asking)
IsOutcome to_come can_fail (work.Ask asking) old new (outcome.AskFailed fault) = AskStops (asker_questions asking) old new fault
IsOutcome to_come can_fail w old new o = ⊥

-- the task's work was done as its outcome says
pub record Works {I : Type 0} (to_come : I → Option (List ℕ)) (can_fail : I → Bool) (old new : Task I) : Type 0 where
  pub keeps : Keeps old.pass new.pass
  pub outcome_is : IsOutcome to_come can_fail old.work old.pass new.pass new.outcome

-- the same for each task of a list
pub record EachWorks {I : Type 0} (to_come : I → Option (List ℕ)) (can_fail : I → Bool) (old new : List (Task I)) : Type 0 where
  pub count : length new ≡ length old
  pub each : (k : ℕ) (d : Task I) → k < length old → Works to_come can_fail (slice_index_or old k d) (slice_index_or new k d)

-- a caller of the desk whose work can be begun
pub record IsNew {I : Type 0} (failures : I → ℕ) (desk : DeskState) (t : Task I) : Type 0 where
  pub desk_is : t.pass.desk ≡ desk.id
  pub untried : IsUntried t.outcome
  pub readable : (source : Source I) → t.work ≡ work.Feed source → IsReadable failures source

-- tasks of callers of this desk in rising order of their numbers, none of which was tried
pub record AreReady {I : Type 0} (failures : I → ℕ) (desk : DeskState) (ts : List (Task I)) : Type 0 where
  pub new : All (IsNew failures desk) ts
  pub rising : (j k : ℕ) (d : Task I) → j < k → k < length ts → (slice_index_or ts j d).pass.number < (slice_index_or ts k d).pass.number

-- the task was tried, or that of a lesser caller among these has failed
abbrev pub IsExplained : {I : Type 0} → List (Task I) → Task I → Type 0
IsExplained ts t = IsUntried t.outcome
    → (earlier : Task _) × Contains ts earlier × HasFailed earlier.outcome × (earlier.pass.number < t.pass.number)

-- once a task has failed, none after it was tried
abbrev pub StopAtFailure : {I : Type 0} → List (Task I) → Type 0
StopAtFailure ts = (j k : ℕ) (d : Task _) → j < k → k < length ts → HasFailed (slice_index_or ts j d).outcome → IsUntried (slice_index_or ts k d).outcome

-- each list of tasks was worked on by a worker
pub record AreWorked {V I : Type 0} (to_come : I → Option (List ℕ)) (can_fail : I → Bool) (tasks : V → List (Task I)) (vs us : List V) : Type 0 where
  pub count : length us ≡ length vs
  pub works : (w : ℕ) (d : V) → w < length vs → EachWorks to_come can_fail (tasks (slice_index_or vs w d)) (tasks (slice_index_or us w d))
  pub explained : All (λ u. All (IsExplained (tasks u)) (tasks u)) us
