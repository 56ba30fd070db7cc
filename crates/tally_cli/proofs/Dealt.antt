-- One more task is dealt.
use Rattle.std.proofs.Common.{◌≡◌, ◌≢◌, ℕ, zero, suc, ◌+◌, ◌<◌, ◌≤◌, List, [], ◌∷◌, ◌++◌, length, map, set, get_or, drop, sym, refl, ap, ◌∙◌, subst, arith, length-append, ⊎_elim, Option, Some, None}
use Rattle.std.proofs.lemmas.Bool.{cases_eq, cases_lt}
use Rattle.std.proofs.lemmas.List.{drop-drop, length-set, get_or-set_same, get_or-map, get_or-set_other, get_or_append_left, get_or_at, map-set}
use Rattle.std.proofs.lemmas.List.Elements.{All-map, All-weaker, All-push, All-head, All-tail}
use Rattle.std.proofs.lemmas.List.Sums.{sum_by-set, sum_by-cons}
use Rattle.std.proofs.lemmas.Option.{get_or_from_slice_get, slice_get_within}
use Rattle.std.specs.List.{All, sum_by, remove}
use Rattle.std.specs.Prelude.{slice_get}
use Rattle.tally_desk.specs.Passes.{DeskState}
use Rattle.tally_cli.specs.declared.running.source.Source.{Source}
use Rattle.tally_cli.specs.declared.running.task.Asking.{Asking}
use Rattle.tally_cli.specs.declared.running.task.Task.{Task}
use Rattle.tally_cli.specs.declared.running.task.Work.TheVariants as work
use Rattle.tally_cli.specs.inside.Deals.{IsIn, work_of}
use Rattle.tally_cli.specs.Runs.{IsReadable}
use Rattle.tally_cli.specs.inside.Tasks.{AreReady, IsNew}

pub in_old : {A : Type 0} (xss : List (List A)) (w : ℕ) (x t : A) → w < length xss → IsIn xss t → IsIn (set xss w (get_or xss w [] ++ x ∷ [])) t
in_old {A} xss w x t near h =
    let v : ℕ = h.0 in let k : ℕ = h.1 in
    let ys : List A = get_or xss w [] ++ x ∷ [] in
    let long = length-set xss w ys in
    ⊎_elim
    (λ (same : v ≡ w).
    let here : get_or (set xss w ys) v [] ≡ get_or xss v [] ++ x ∷ [] =
    ap (λ n. get_or (set xss w ys) n []) same ∙ (get_or-set_same xss w ys [] near ∙ ap (λ n. get_or xss n [] ++ x ∷ []) (sym same)) in
    (v, k, omega (arith, long, h.2), omega (arith, ap length here, length-append (get_or xss v []) (x ∷ []), h.3), ap (λ l. get_or l k t) here ∙ (get_or_append_left (get_or xss v []) (x ∷ []) t k h.3 ∙ h.4)))
    (λ (apart : v ≢ w).
    let here : get_or (set xss w ys) v [] ≡ get_or xss v [] = get_or-set_other xss w v ys [] apart in
    (v, k, omega (arith, long, h.2), omega (arith, ap length here, h.3), ap (λ l. get_or l k t) here ∙ h.4))
    (cases_eq v w)

pub in_new : {A : Type 0} (xss : List (List A)) (w : ℕ) (x : A) → w < length xss → IsIn (set xss w (get_or xss w [] ++ x ∷ [])) x
in_new {A} xss w x near =
    let ys : List A = get_or xss w [] ++ x ∷ [] in
    let here : get_or (set xss w ys) w [] ≡ ys = get_or-set_same xss w ys [] near in
    let n : ℕ = length (get_or xss w []) in
    (w, n, omega (arith, length-set xss w ys, near), omega (arith, ap length here, length-append (get_or xss w []) (x ∷ [])), ap (λ l. get_or l n x) here ∙ get_or_at (get_or xss w []) x [] x n refl)

pub sum_new : {A : Type 0} (xss : List (List A)) (w : ℕ) (x : A) → w < length xss → sum_by length (set xss w (get_or xss w [] ++ x ∷ [])) ≡ sum_by length xss + 1
sum_new {A} xss w x near = let ys : List A = get_or xss w [] ++ x ∷ [] in omega (arith, sum_by-set length xss w ys [] near, length-append (get_or xss w []) (x ∷ []))

-- the lists after a push to one of them
pub pushed : {V A : Type 0} (f : V → List A) (vs : List V) (w : ℕ) (v v' : V) (x : A) → w < length vs → v ≡ get_or vs w v → f v' ≡ f v ++ x ∷ [] → map f (set vs w v') ≡ set (map f vs) w (get_or (map f vs) w [] ++ x ∷ [])
pushed f vs w v v' x near is more =
    map-set f vs w v' ∙ ap (λ l. set (map f vs) w l) (more ∙ ap (λ l. l ++ x ∷ []) (ap f is ∙ sym (get_or-map f vs w v [] near)))

pub first_left : {A : Type 0} (xs : List A) (n : ℕ) → slice_get (drop n xs) 0 ≡ slice_get xs n
first_left [] zero = refl
first_left [] (suc n) = refl
first_left (x ∷ xs) zero = refl
first_left (x ∷ xs) (suc n) = first_left xs n

-- `remove` at the front
rest_of : {A : Type 0} (xs : List A) → remove xs 0 ≡ drop 1 xs
rest_of [] = refl
rest_of (x ∷ xs) = refl

pub removed : {A : Type 0} (xs : List A) (n : ℕ) → remove (drop n xs) 0 ≡ drop (n + 1) xs
removed xs n = rest_of (drop n xs) ∙ drop-drop 1 n xs

pub none_yet : {V A : Type 0} (f : V → List A) (vs : List V) → All (λ v. f v ≡ []) vs → sum_by length (map f vs) ≡ 0
none_yet f [] h = refl
none_yet f (v ∷ vs) h =
    sum_by-cons length (f v) (map f vs) ∙ omega (arith, ap length (All-head (λ v. f v ≡ []) v vs h), none_yet f vs (All-tail (λ v. f v ≡ []) v vs h))

pub all_empty : {V A : Type 0} (P : List A → Type 0) (f : V → List A) (vs : List V) → P [] → All (λ v. f v ≡ []) vs → All P (map f vs)
all_empty P f vs p h = All-map P f vs (All-weaker (λ v. f v ≡ []) (λ v. P (f v)) (λ v e. subst P (sym e) p) vs h)

fed_is : {I : Type 0} (asking : Asking) (first : Option (Source I)) (source : Source I) → work_of asking first ≡ work.Feed source → first ≡ Some source
fed_is asking (Some s) source e = cc
fed_is asking None source e = cc

-- the source that is to be fed can be read
pub readable_at : {I : Type 0} (failures : I → ℕ) (asking : Asking) (sources : List (Source I)) (n : ℕ) (source : Source I) → All (IsReadable failures) sources → work_of asking (slice_get sources n) ≡ work.Feed source → IsReadable failures source
readable_at failures asking sources n source all e =
    let is = fed_is asking (slice_get sources n) source e in
    subst (IsReadable failures) (get_or_from_slice_get sources n source source is) (all n source (slice_get_within sources n source is))

-- no task of these is of this number or a greater one
abbrev pub AreBelow : {I : Type 0} → ℕ → List (Task I) → Type 0
AreBelow n ts = All (λ t. t.pass.number < n) ts

-- a task of a greater number is ready after the others
pub ready_push : {I : Type 0} (failures : I → ℕ) (desk : DeskState) (ts : List (Task I)) (t : Task I) → AreReady failures desk ts → AreBelow t.pass.number ts → IsNew failures desk t → AreReady failures desk (ts ++ t ∷ [])
ready_push {I} failures desk ts t ready less new = record {
  new = All-push (IsNew failures desk) ts t ready.new new;
  rising = λ j k d l m.
      let first : j < length ts = omega (arith, l, m, length-append ts (t ∷ [])) in
      let one : get_or (ts ++ t ∷ []) j d ≡ get_or ts j d = get_or_append_left ts (t ∷ []) d j first in
      ⊎_elim
      (λ (inside : k < length ts).
      let other : get_or (ts ++ t ∷ []) k d ≡ get_or ts k d = get_or_append_left ts (t ∷ []) d k inside in
      omega (arith, ap (λ (x : Task I). x.pass.number) one, ap (λ (x : Task I). x.pass.number) other, ready.rising j k d l inside))
      (λ (past : length ts ≤ k).
      let last : k ≡ length ts = omega (arith, past, m, length-append ts (t ∷ [])) in
      let other : get_or (ts ++ t ∷ []) k d ≡ t = get_or_at ts t [] d k (sym last) in
      omega (arith, ap (λ (x : Task I). x.pass.number) one, ap (λ (x : Task I). x.pass.number) other, less j d first))
      (cases_lt k (length ts));
}

pub below_more : {I : Type 0} (n : ℕ) (ts : List (Task I)) → AreBelow n ts → AreBelow (n + 1) ts
below_more n ts h = All-weaker (λ (x : Task _). x.pass.number < n) (λ (x : Task _). x.pass.number < n + 1) (λ x l. omega (arith, l)) ts h

pub below_push : {I : Type 0} (n : ℕ) (ts : List (Task I)) (t : Task I) → t.pass.number ≡ n → AreBelow n ts → AreBelow (n + 1) (ts ++ t ∷ [])
below_push n ts t is h = All-push (λ (x : Task _). x.pass.number < n + 1) ts t (below_more n ts h) (omega (arith, is))
