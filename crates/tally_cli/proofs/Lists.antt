-- The work of each list of tasks.
use Rattle.std.proofs.Common.{◌≡◌, ℕ, ◌<◌, ◌≤◌, ◌⊎◌, inl, inr, Bool, List, [], ◌∷◌, ◌++◌, Option, length, get_or, refl, sym, ap, ◌∙◌, subst, arith, length-append}
use Rattle.std.proofs.lemmas.Bool.{cases_lt}
use Rattle.std.proofs.lemmas.List.{get_or_append_left}
use Rattle.std.proofs.lemmas.List.Elements.{All-push}
use Rattle.std.proofs.Math.Seq.{get_or-append_seam}
use Rattle.std.specs.List.{All}
use Rattle.tally_cli.specs.declared.running.task.Task.{Task}
use Rattle.tally_cli.specs.inside.Tasks.{AreWorked, EachWorks, IsExplained}

module _ {V I : Type 0} (to_come : I → Option (List ℕ)) (can_fail : I → Bool) (f : V → List (Task I)) where
  pub AreWorked-none : (vs : List V) → length vs ≡ 0 → AreWorked to_come can_fail f vs vs
  AreWorked-none vs none = record {
    count = refl;
    works = λ w d l. absurd (omega (arith, l, none));
    explained = λ k d l. absurd (omega (arith, l, none));
  }

  -- the last list, after those before it
  pub AreWorked-last : (vs us : List V) (v u : V) → AreWorked to_come can_fail f vs us → EachWorks to_come can_fail (f v) (f u) → All (IsExplained (f u)) (f u) → AreWorked to_come can_fail f (vs ++ v ∷ []) (us ++ u ∷ [])
  AreWorked-last vs us v u before works explained = record {
    count = omega (arith, length-append vs (v ∷ []), length-append us (u ∷ []), before.count);
    works = λ w d l. by w d l (cases_lt w (length vs));
    explained = All-push (λ x. All (IsExplained (f x)) (f x)) us u before.explained explained;
  }
    where
      both : (x y : V) (w : ℕ) (d : V) → x ≡ get_or (vs ++ v ∷ []) w d → y ≡ get_or (us ++ u ∷ []) w d → EachWorks to_come can_fail (f x) (f y)
          → EachWorks to_come can_fail (f (get_or (vs ++ v ∷ []) w d)) (f (get_or (us ++ u ∷ []) w d))
      both x y w d old new h = subst (λ a. EachWorks to_come can_fail (f a) (f (get_or (us ++ u ∷ []) w d))) old (subst (λ b. EachWorks to_come can_fail (f x) (f b)) new h)

      by : (w : ℕ) (d : V) → w < length (vs ++ v ∷ []) → (w < length vs) ⊎ (length vs ≤ w) → EachWorks to_come can_fail (f (get_or (vs ++ v ∷ []) w d)) (f (get_or (us ++ u ∷ []) w d))
      by w d l (inl first) =
          both (get_or vs w d) (get_or us w d) w d (sym (get_or_append_left vs (v ∷ []) d w first)) (sym (get_or_append_left us (u ∷ []) d w (omega (arith, first, before.count)))) (before.works w d first)
      by w d l (inr after) =
          let here : w ≡ length vs = omega (arith, l, after, length-append vs (v ∷ [])) in
          let there : w ≡ length us = omega (arith, here, before.count) in
          both v u w d (sym (ap (λ i. get_or (vs ++ v ∷ []) i d) here ∙ get_or-append_seam vs v [] d)) (sym (ap (λ i. get_or (us ++ u ∷ []) i d) there ∙ get_or-append_seam us u [] d)) works
