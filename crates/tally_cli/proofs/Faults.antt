-- What a failure shows of the caller's work.
use Rattle.std.proofs.Common.{◌≡◌, ℕ, ◌<◌, Bool, List, Option, Some, None, refl, sym, ap, subst}
use Rattle.tally_book.specs.declared.fault.AskFault.{AskFault}
use Rattle.tally_book.specs.Rooms.{batches_in}
use Rattle.tally_desk.specs.Blocks.{feed_fault}
use Rattle.tally_desk.specs.Passes.{PassState}
use Rattle.tally_desk.specs.Rounds.{AskStops}
use Rattle.tally_desk.specs.declared.fault.FeedFault.{FeedFault}
use Rattle.tally_desk.specs.declared.fault.FeedFault.TheVariants as feed
use Rattle.tally_cli.specs.declared.fault.RunFault.{RunFault}
use Rattle.tally_cli.specs.declared.fault.RunFault.TheVariants as run
use Rattle.tally_cli.specs.declared.running.gather.Cause.TheVariants as cause
use Rattle.tally_cli.specs.declared.running.gather.Failure.{Failure}
use Rattle.tally_cli.specs.declared.running.source.Source.{Source}
use Rattle.tally_cli.specs.declared.running.task.Asking.{Asking}
use Rattle.tally_cli.specs.declared.running.task.Outcome.{Outcome}
use Rattle.tally_cli.specs.declared.running.task.Outcome.TheVariants as outcome
use Rattle.tally_cli.specs.inside.Deals.{work_of}
use Rattle.tally_cli.specs.inside.Failures.{failure_of}
use Rattle.tally_cli.specs.Runs.{IsFileCause, Told, good_logins, good_procs}
use Rattle.tally_cli.specs.inside.Tasks.{FailedToFeed, IsOutcome, asker_questions}

abbrev IsNone : Option Failure → Type 0
IsNone None = Unit {0}
IsNone (Some failure) = ⊥

abbrev pick : Failure → Option Failure → Failure
pick other None = other
pick other (Some failure) = failure

-- a failure is that of the source's feed, or of an asker where there is no source
pub record IsFeedFailure {I : Type 0} (to_come : I → Option (List ℕ)) (can_fail : I → Bool) (source : Source I) (old new : PassState) (number : ℕ) (failure : Failure) : Type 0 where
  pub fault : FeedFault
  pub is : record { caller = number; cause = cause.Feed fault } ≡ failure
  pub failed : FailedToFeed (to_come source.input) (can_fail source.input) source.kind old new fault

pub record IsAskFailure (asking : Asking) (old new : PassState) (number : ℕ) (failure : Failure) : Type 0 where
  pub fault : AskFault
  pub is : record { caller = number; cause = cause.Ask fault } ≡ failure
  pub stops : AskStops (asker_questions asking) old new fault

abbrev pub IsFailureOf : {I : Type 0} → (I → Option (List ℕ)) → (I → Bool) → Asking → Option (Source I) → PassState → PassState → ℕ → Failure → Type 0
IsFailureOf to_come can_fail asking (Some source) old new number failure = IsFeedFailure to_come can_fail source old new number failure
IsFailureOf to_come can_fail asking None old new number failure = IsAskFailure asking old new number failure

pub failure_is : {I : Type 0} (to_come : I → Option (List ℕ)) (can_fail : I → Bool) (asking : Asking) (source : Option (Source I)) (p q : PassState) (o : Outcome) (number : ℕ) (failure : Failure) → IsOutcome to_come can_fail (work_of asking source) p q o → failure_of number o ≡ Some failure
    → IsFailureOf to_come can_fail asking source p q number failure
failure_is to_come can_fail asking (Some s) p q outcome.Untried number failure h e = absurd (subst IsNone e tt)
failure_is to_come can_fail asking (Some s) p q (outcome.Fed fed) number failure h e = absurd (subst IsNone e tt)
failure_is to_come can_fail asking (Some s) p q (outcome.FeedFailed f) number failure h e = record { fault = f; is = ap (pick failure) e; failed = h }
failure_is to_come can_fail asking (Some s) p q (outcome.Asked n) number failure h e = absurd h
failure_is to_come can_fail asking (Some s) p q (outcome.AskFailed f) number failure h e = absurd h
failure_is to_come can_fail asking None p q outcome.Untried number failure h e = absurd (subst IsNone e tt)
failure_is to_come can_fail asking None p q (outcome.Fed fed) number failure h e = absurd h
failure_is to_come can_fail asking None p q (outcome.FeedFailed f) number failure h e = absurd h
failure_is to_come can_fail asking None p q (outcome.Asked n) number failure h e = absurd (subst IsNone e tt)
failure_is to_come can_fail asking None p q (outcome.AskFailed f) number failure h e = record { fault = f; is = ap (pick failure) e; stops = h }

-- the cause of a source's fault, where a full list has its own
pub file_cause : (room : ℕ) (inputs : List Told) (i : Told) (old new : PassState) (can_fail : Bool) (fault : FeedFault) → FailedToFeed (Some i.bytes) can_fail i.kind old new fault → old.seen.room ≡ room
    → ((stored : _) → fault ≡ feed.LoginsFull stored → room < good_logins room inputs) → ((stored : _) → fault ≡ feed.ProcsFull stored → room < good_procs room inputs) → (fault ≡ feed.CallsFull → ⊥) → IsFileCause room inputs i fault
file_cause room inputs i old new can_fail feed.Memory h same logins procs calls = tt
file_cause room inputs i old new can_fail feed.Read h same logins procs calls = tt
file_cause room inputs i old new can_fail (feed.Torn records rest) h same logins procs calls = subst (λ r. feed_fault (batches_in r) i.kind i.bytes ≡ Some (feed.Torn records rest)) same (h.stops i.bytes refl).fault_is
file_cause room inputs i old new can_fail (feed.TooLong limit) h same logins procs calls = subst (λ r. feed_fault (batches_in r) i.kind i.bytes ≡ Some (feed.TooLong limit)) same (h.stops i.bytes refl).fault_is
file_cause room inputs i old new can_fail (feed.Bad at fault) h same logins procs calls = subst (λ r. feed_fault (batches_in r) i.kind i.bytes ≡ Some (feed.Bad at fault)) same (h.stops i.bytes refl).fault_is
file_cause room inputs i old new can_fail (feed.LoginsFull stored) h same logins procs calls = logins stored refl
file_cause room inputs i old new can_fail (feed.ProcsFull stored) h same logins procs calls = procs stored refl
file_cause room inputs i old new can_fail feed.CallsFull h same logins procs calls = calls refl

abbrev host_in : RunFault → ℕ
host_in (run.File host fault) = host
host_in fault = 0

abbrev feed_in : RunFault → FeedFault
feed_in (run.File host fault) = fault
feed_in fault = feed.Memory

abbrev IsFile : RunFault → Type 0
IsFile (run.File host fault) = Unit {0}
IsFile fault = ⊥

-- two faults of files are one in both parts, and an asker's fault is none of them
pub file_is : (number host : ℕ) (fault other : FeedFault) → run.File number fault ≡ run.File host other → (number ≡ host) × (fault ≡ other)
file_is number host fault other e = (ap host_in e, ap feed_in e)

pub no_asker : (number host : ℕ) (fault : AskFault) (other : FeedFault) → run.Asker number fault ≡ run.File host other → ⊥
no_asker number host fault other e = subst IsFile (sym e) tt

-- the caller that failed
pub caller_is : {I : Type 0} (to_come : I → Option (List ℕ)) (can_fail : I → Bool) (asking : Asking) (source : Option (Source I)) (p q : PassState) (number : ℕ) (failure : Failure) → IsFailureOf to_come can_fail asking source p q number failure → number ≡ failure.caller
caller_is to_come can_fail asking (Some s) p q number failure h = ap (λ (f : Failure). f.caller) h.is
caller_is to_come can_fail asking None p q number failure h = ap (λ (f : Failure). f.caller) h.is
