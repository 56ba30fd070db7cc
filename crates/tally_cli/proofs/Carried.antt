-- The tasks of all workers, after their work.
use Rattle.std.proofs.Common.{◌≡◌, ℕ, zero, suc, ◌<◌, Bool, List, [], ◌∷◌, Option, length, map, get_or, sym, refl, ap, ◌∙◌, subst, arith, length-append}
use Rattle.std.proofs.lemmas.List.{length-map, get_or-map, get_or_default}
use Rattle.std.proofs.lemmas.List.Elements.{All-nil, All-append, All-contains, All-get_or, All-tail, Contains-append_left, Contains-append_right}
use Rattle.std.proofs.lemmas.List.Sums.{sum_by-cons}
use Rattle.std.specs.List.{All, Contains, flat_map, sum_by}
use Rattle.tally_desk.specs.Passes.{PassState}
use Rattle.tally_cli.specs.declared.running.source.Source.{Source}
use Rattle.tally_cli.specs.declared.running.task.Asking.{Asking}
use Rattle.tally_cli.specs.declared.running.task.Task.{Task}
use Rattle.tally_cli.specs.inside.Deals.{AreCarriedOut, AreDealt, CameOf, IsIn, IsTaskOf}
use Rattle.tally_cli.specs.inside.Tasks.{AreWorked, IsExplained, Works}

pub all_unmap : {V A : Type 0} (P : A → Type 0) (f : V → A) (vs : List V) → All P (map f vs) → All (λ v. P (f v)) vs
all_unmap P f vs h = λ k d l. subst P (get_or-map f vs k d (f d) l) (h k (f d) (omega (arith, l, length-map vs f)))

contains_flat : {V A : Type 0} (f : V → List A) (vs : List V) (w : ℕ) (d : V) (x : A) → w < length vs → Contains (f (get_or vs w d)) x → Contains (flat_map f vs) x
contains_flat f [] w d x h c = absurd (omega (arith, h))
contains_flat f (v ∷ vs) zero d x h c = Contains-append_left (f v) (flat_map f vs) x c
contains_flat f (v ∷ vs) (suc w) d x h c = Contains-append_right (f v) (flat_map f vs) x (contains_flat f vs w d x (omega (arith, h)) c)

all_flat : {V A : Type 0} (P : A → Type 0) (f : V → List A) (vs : List V) → ((w : ℕ) (d : V) → w < length vs → All P (f (get_or vs w d))) → All P (flat_map f vs)
all_flat P f [] h = All-nil P
all_flat P f (v ∷ vs) h = All-append P (f v) (flat_map f vs) (h zero v (omega arith)) (all_flat P f vs (λ w d l. h (suc w) d (omega (arith, l))))

carried_at : {V I : Type 0} (to_come : I → Option (List ℕ)) (can_fail : I → Bool) (f : V → List (Task I)) (vs us : List V) (d : V) (t : Task I) → AreWorked to_come can_fail f vs us → IsIn (map f vs) t
    → (u : Task I) × Contains (flat_map f us) u × Works to_come can_fail t u
carried_at {V} {I} to_come can_fail f vs us d t worked h =
    let w : ℕ = h.0 in let k : ℕ = h.1 in
    let near : w < length vs = omega (arith, h.2, length-map vs f) in
    let ts : List (Task I) = f (get_or vs w d) in
    let now : List (Task I) = f (get_or us w d) in
    let here : get_or (map f vs) w [] ≡ ts = get_or-map f vs w d [] near in
    let each = worked.works w d near in
    let inside : k < length ts = omega (arith, ap length here, h.3) in
    let is : get_or ts k t ≡ t = ap (λ l. get_or l k t) (sym here) ∙ h.4 in
    let u : Task I = get_or now k t in (
      u,
      contains_flat f us w d u (omega (arith, near, worked.count)) (k, omega (arith, inside, each.count), get_or_default now k u t (omega (arith, inside, each.count))),
      subst (λ x. Works to_come can_fail x u) is (each.each k t inside),
    )

carried : {V I : Type 0} (to_come : I → Option (List ℕ)) (can_fail : I → Bool) (f : V → List (Task I)) (vs us : List V) (t : Task I) → AreWorked to_come can_fail f vs us → IsIn (map f vs) t
    → (u : Task I) × Contains (flat_map f us) u × Works to_come can_fail t u
carried to_come can_fail f [] us t worked h = absurd (omega (arith, h.2))
carried to_come can_fail f (v ∷ vs) us t worked h = carried_at to_come can_fail f (v ∷ vs) us v t worked h

-- what came of all tasks
pub carried_out : {V I : Type 0} (to_come : I → Option (List ℕ)) (can_fail : I → Bool) (asking : Asking) (f : V → List (Task I)) (sources : List (Source I)) (passes : List PassState) (vs us : List V)
    → AreDealt asking sources passes (map f vs) → AreWorked to_come can_fail f vs us → AreCarriedOut to_come can_fail asking sources passes (flat_map f us)
carried_out {V} {I} to_come can_fail asking f sources passes vs us dealt worked = record {
  each = λ k p l. carried to_come can_fail f vs us _ worked (dealt.each k p l);
  only = all_flat (CameOf to_come can_fail asking sources passes) f us (λ w d l k x m.
      let near : w < length vs = omega (arith, l, worked.count) in
      let each = worked.works w d near in
      let inside : k < length (f (get_or vs w d)) = omega (arith, m, each.count) in
      let own : All (IsTaskOf asking sources passes) (f (get_or vs w d)) = All-get_or (λ v. All (IsTaskOf asking sources passes) (f v)) vs w d near (all_unmap (All (IsTaskOf asking sources passes)) f vs dealt.only) in
      (get_or (f (get_or vs w d)) k x, own k x inside, each.each k x inside));
}

-- what explains a task in its list explains it among all
pub all_explained : {V I : Type 0} (to_come : I → Option (List ℕ)) (can_fail : I → Bool) (f : V → List (Task I)) (vs us : List V) → AreWorked to_come can_fail f vs us → All (IsExplained (flat_map f us)) (flat_map f us)
all_explained {V} {I} to_come can_fail f vs us worked = all_flat (IsExplained (flat_map f us)) f us (λ w d l k x m untried.
    let e = All-get_or (λ u. All (IsExplained (f u)) (f u)) us w d l worked.explained k x m untried in
    (e.0, contains_flat f us w d e.0 l e.1, e.2, e.3))

worked_tail : {V I : Type 0} (to_come : I → Option (List ℕ)) (can_fail : I → Bool) (f : V → List (Task I)) (v u : V) (vs us : List V) → AreWorked to_come can_fail f (v ∷ vs) (u ∷ us) → AreWorked to_come can_fail f vs us
worked_tail to_come can_fail f v u vs us h = record {
  count = omega (arith, h.count);
  works = λ w d l. h.works (suc w) d (omega (arith, l));
  explained = All-tail (λ u. All (IsExplained (f u)) (f u)) u us h.explained;
}

-- there are as many tasks as before
pub same_sum : {V I : Type 0} (to_come : I → Option (List ℕ)) (can_fail : I → Bool) (f : V → List (Task I)) (vs us : List V) → AreWorked to_come can_fail f vs us → sum_by length (map f us) ≡ sum_by length (map f vs)
same_sum to_come can_fail f [] [] h = refl
same_sum to_come can_fail f [] (u ∷ us) h = absurd (omega (arith, h.count))
same_sum to_come can_fail f (v ∷ vs) [] h = absurd (omega (arith, h.count))
same_sum to_come can_fail f (v ∷ vs) (u ∷ us) h =
    let first : length (f u) ≡ length (f v) = (h.works zero v (omega arith)).count in
    let rest = same_sum to_come can_fail f vs us (worked_tail to_come can_fail f v u vs us h) in
    omega (arith, sum_by-cons length (f u) (map f us), first, rest, sum_by-cons length (f v) (map f vs))

pub flat_count : {V A : Type 0} (f : V → List A) (vs : List V) → length (flat_map f vs) ≡ sum_by length (map f vs)
flat_count f [] = refl
flat_count f (v ∷ vs) = omega (arith, length-append (f v) (flat_map f vs), flat_count f vs, sum_by-cons length (f v) (map f vs))

-- all passes are of the desk still
pub same_desk : {I D : Type 0} (id : D) (desk_of : PassState → D) (to_come : I → Option (List ℕ)) (can_fail : I → Bool) (asking : Asking) (sources : List (Source I)) (passes back : List PassState) (tasks : List (Task I))
    → ((t u : Task I) → Works to_come can_fail t u → desk_of u.pass ≡ desk_of t.pass) → All (λ p. desk_of p ≡ id) passes → All (CameOf to_come can_fail asking sources passes) tasks
    → ((k : ℕ) (d : PassState) → k < length back → (t : Task I) × Contains tasks t × (t.pass ≡ get_or back k d)) → All (λ p. desk_of p ≡ id) back
same_desk {I} id desk_of to_come can_fail asking sources passes back tasks keeps all came own = λ k d l.
    let t = own k d l in
    let from = All-contains (CameOf to_come can_fail asking sources passes) tasks t.0 came t.1 in
    let task = from.1 in
    ap desk_of (sym t.2) ∙ keeps from.0 t.0 from.2 ∙ ap (λ (x : Task I). desk_of x.pass) task.3 ∙ All-get_or (λ p. desk_of p ≡ id) passes task.0 task.1 task.2 all
