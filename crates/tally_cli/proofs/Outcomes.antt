-- What is known of a task by the failure that was named.
use Rattle.std.proofs.Common.{ℕ, ◌<◌, List, Option, Some, None, arith, refl}
use Rattle.std.proofs.lemmas.List.Elements.{All-contains}
use Rattle.std.specs.List.{All, Contains}
use Rattle.tally_cli.specs.declared.running.gather.Failure.{Failure}
use Rattle.tally_cli.specs.declared.running.task.Task.{Task}
use Rattle.tally_cli.specs.declared.running.task.Outcome.{Outcome}
use Rattle.tally_cli.specs.declared.running.task.Outcome.TheVariants as outcome
use Rattle.tally_cli.specs.inside.Failures.{AtMost, IsLeast, failure_of}
use Rattle.tally_cli.specs.inside.Tasks.{HasFailed, IsDone, IsExplained, IsUntried}

done_of : (o : Outcome) → (HasFailed o → ⊥) → (IsUntried o → ⊥) → IsDone o
done_of outcome.Untried unfailed tried = absurd (tried refl)
done_of (outcome.Fed fed) unfailed tried = tt
done_of (outcome.FeedFailed fault) unfailed tried = absurd (unfailed tt)
done_of (outcome.Asked count) unfailed tried = tt
done_of (outcome.AskFailed fault) unfailed tried = absurd (unfailed tt)

-- the caller is less than that of the failure, if there is one
abbrev pub IsBefore : ℕ → Option Failure → Type 0
IsBefore number None = Unit {0}
IsBefore number (Some failure) = number < failure.caller

not_failed : (number : ℕ) (o : Outcome) (failure : Option Failure) → AtMost failure (failure_of number o) → IsBefore number failure → HasFailed o → ⊥
not_failed number outcome.Untried failure h less failed = failed
not_failed number (outcome.Fed fed) failure h less failed = failed
not_failed number (outcome.Asked count) failure h less failed = failed
not_failed number (outcome.FeedFailed fault) None h less failed = h
not_failed number (outcome.FeedFailed fault) (Some failure) h less failed = omega (arith, h, less)
not_failed number (outcome.AskFailed fault) None h less failed = h
not_failed number (outcome.AskFailed fault) (Some failure) h less failed = omega (arith, h, less)

before_more : (one other : ℕ) (failure : Option Failure) → one < other → IsBefore other failure → IsBefore one failure
before_more one other None h less = tt
before_more one other (Some failure) h less = omega (arith, h, less)

-- a task of a caller before the failure was done
pub done_before : {I : Type 0} (tasks : List (Task I)) (failure : Option Failure) (u : Task I) → IsLeast tasks failure → All (IsExplained tasks) tasks → Contains tasks u → IsBefore u.pass.number failure → IsDone u.outcome
done_before {I} tasks failure u least explained held less =
    let at_most : (t : Task I) → Contains tasks t → AtMost failure (failure_of t.pass.number t.outcome) =
    λ t c. All-contains (λ (t : Task I). AtMost failure (failure_of t.pass.number t.outcome)) tasks t least.least c in
    done_of u.outcome
    (λ failed. not_failed u.pass.number u.outcome failure (at_most u held) less failed)
    (λ untried.
    let e = All-contains (IsExplained tasks) tasks u explained held untried in
    not_failed e.0.pass.number e.0.outcome failure (at_most e.0 e.1) (before_more e.0.pass.number u.pass.number failure e.3 less) e.2)
