-- The work of each task of a list.
use Rattle.std.proofs.Common.{◌≡◌, ◌≢◌, ℕ, ◌+◌, ◌<◌, ◌≤◌, Bool, List, Option, length, set, get_or, sym, ap, ◌∙◌, subst, arith, ⊎_elim}
use Rattle.std.proofs.lemmas.Bool.{cases_eq, cases_lt}
use Rattle.std.proofs.lemmas.List.{length-set, get_or-set_same, get_or-set_other, get_or_default}
use Rattle.std.specs.List.{All}
use Rattle.tally_cli.specs.declared.running.task.Task.{Task}
use Rattle.tally_cli.specs.declared.running.task.Outcome.{Outcome}
use Rattle.tally_cli.specs.declared.running.task.Outcome.TheVariants as outcome
use Rattle.tally_cli.specs.inside.Tasks.{EachWorks, HasFailed, IsDone, IsExplained, IsUntried, StopAtFailure, Works}

pub each_set : {I : Type 0} {to_come : I → Option (List ℕ)} {can_fail : I → Bool} {ts us : List (Task I)} {at : ℕ} {x u : Task I} → at < length ts → x ≡ get_or us at x → get_or us at x ≡ get_or ts at x
    → EachWorks to_come can_fail ts us → Works to_come can_fail x u → EachWorks to_come can_fail ts (set us at u)
each_set {I} {to_come} {can_fail} {ts} {us} {at} {x} {u} near is left h w =
    let here : (d : Task I) → Works to_come can_fail (get_or ts at d) (get_or (set us at u) at d) =
    λ d. let old : x ≡ get_or ts at d = is ∙ (left ∙ get_or_default ts at x d near) in
    let new : get_or (set us at u) at d ≡ u = get_or-set_same us at u d (omega (arith, h.count)) in
    subst (λ (p : Task I × Task I). Works to_come can_fail p.0 p.1) (λ i. (old i, sym new i)) w in
    record {
      count = length-set us at u ∙ h.count;
      each = λ k d l. ⊎_elim
          (λ (same : k ≡ at). subst (λ n. Works to_come can_fail (get_or ts n d) (get_or (set us at u) n d)) (sym same) (here d))
          (λ (apart : k ≢ at). subst (λ (y : Task I). Works to_come can_fail (get_or ts k d) y) (sym (get_or-set_other us at k u d apart)) (h.each k d l))
          (cases_eq k at);
    }

pub left_set : {I : Type 0} (ts us : List (Task I)) (at : ℕ) (u : Task I) → ((k : ℕ) (d : Task I) → at ≤ k → get_or us k d ≡ get_or ts k d) → (k : ℕ) (d : Task I) → at + 1 ≤ k → get_or (set us at u) k d ≡ get_or ts k d
left_set ts us at u h k d l = get_or-set_other us at k u d (λ (same : k ≡ at). omega (arith, same, l)) ∙ h k d (omega arith)

-- each task before a place was done
abbrev pub AreDone : {I : Type 0} → List (Task I) → ℕ → Type 0
AreDone us at = (k : ℕ) (d : Task _) → k < at → IsDone (get_or us k d).outcome

done_tried : (o : Outcome) → IsDone o → IsUntried o → ⊥
done_tried o done untried = subst IsDone untried done

failed_tried : (o : Outcome) → HasFailed o → IsUntried o → ⊥
failed_tried o failed untried = subst HasFailed untried failed

done_failed : (o : Outcome) → IsDone o → HasFailed o → ⊥
done_failed outcome.Untried done failed = done
done_failed (outcome.Fed fed) done failed = failed
done_failed (outcome.FeedFailed fault) done failed = done
done_failed (outcome.Asked count) done failed = failed
done_failed (outcome.AskFailed fault) done failed = done

pub done_set : {I : Type 0} (us : List (Task I)) (at : ℕ) (u : Task I) → at < length us → AreDone us at → IsDone u.outcome → AreDone (set us at u) (at + 1)
done_set us at u near before done = λ k d l. ⊎_elim
    (λ (same : k ≡ at). subst (λ (t : Task _). IsDone t.outcome) (sym (ap (λ n. get_or (set us at u) n d) same ∙ get_or-set_same us at u d near)) done)
    (λ (apart : k ≢ at). subst (λ (t : Task _). IsDone t.outcome) (sym (get_or-set_other us at k u d apart)) (before k d (omega (arith, l, apart))))
    (cases_eq k at)

-- the task at a place has failed, and those after it are as they were
module _ {I : Type 0} (ts us : List (Task I)) (at : ℕ) (u : Task I) (near : at < length ts) (count : length us ≡ length ts)
    (left : (k : ℕ) (d : Task I) → at ≤ k → get_or us k d ≡ get_or ts k d) (before : AreDone us at) (failed : HasFailed u.outcome) where
  in_us : at < length us
  in_us = omega (arith, near, count)

  here : (x : Task I) → get_or (set us at u) at x ≡ u
  here x = get_or-set_same us at u x in_us

  after_is : (k : ℕ) (d : Task I) → at < k → get_or (set us at u) k d ≡ get_or ts k d
  after_is k d l = get_or-set_other us at k u d (λ (same : k ≡ at). omega (arith, same, l)) ∙ left k d (omega (arith, l))

  before_is : (k : ℕ) (d : Task I) → k < at → IsDone (get_or (set us at u) k d).outcome
  before_is k d l = subst (λ (t : Task I). IsDone t.outcome) (sym (get_or-set_other us at k u d (λ (same : k ≡ at). omega (arith, same, l)))) (before k d l)

  -- those have a greater number
  pub explained_cut : u.pass.number ≡ (get_or ts at u).pass.number
      → ((j k : ℕ) (d : Task I) → j < k → k < length ts → (get_or ts j d).pass.number < (get_or ts k d).pass.number)
      → All (IsExplained (set us at u)) (set us at u)
  explained_cut number rising = λ k d l e.
      let in_ts : k < length ts = omega (arith, l, length-set us at u, count) in
      let in_set : at < length (set us at u) = omega (arith, in_us, length-set us at u) in
      ⊎_elim
      (λ (first : k < at). absurd (done_tried _ (before_is k d first) e))
      (λ (other : at ≤ k). ⊎_elim
      (λ (same : k ≡ at). absurd (failed_tried u.outcome failed (ap (λ (t : Task I). t.outcome) (sym (ap (λ n. get_or (set us at u) n d) same ∙ here d)) ∙ e)))
      (λ (apart : k ≢ at).
      let later : at < k = omega (arith, other, apart) in
      let numbers : (get_or ts at d).pass.number < (get_or ts k d).pass.number = rising at k d later in_ts in
      let own : u.pass.number ≡ (get_or ts at d).pass.number = number ∙ ap (λ (t : Task I). t.pass.number) (get_or_default ts at u d near) in
      let less : u.pass.number < (get_or (set us at u) k d).pass.number = omega (arith, own, numbers, ap (λ (t : Task I). t.pass.number) (after_is k d later)) in
      (u, (at, in_set, here u), failed, less))
      (cases_eq k at))
      (cases_lt k at)

  -- and none of them was tried
  pub stop_cut : ((k : ℕ) (d : Task I) → k < length ts → IsUntried (get_or ts k d).outcome) → StopAtFailure (set us at u)
  stop_cut untried = λ j k d l m fault.
      let in_ts : k < length ts = omega (arith, m, length-set us at u, count) in
      ⊎_elim
      (λ (first : j < at). absurd (done_failed _ (before_is j d first) fault))
      (λ (other : at ≤ j).
      let later : at < k = omega (arith, other, l) in
      ap (λ (t : Task I). t.outcome) (after_is k d later) ∙ untried k d in_ts)
      (cases_lt j at)
