-- Files that were counted, list by list.
use Rattle.std.proofs.Common.{◌≡◌, ◌≢◌, ℕ, ◌+◌, ◌*◌, ◌/◌, ◌%◌, ◌<◌, ◌≤◌, List, [], ◌∷◌, length, map, set, get_or, sym, ap, ◌∙◌, subst, arith, ⊎_elim}
use Rattle.std.proofs.Math.Nat.{mod-lt, mul-le-mul_right}
use Rattle.std.proofs.lemmas.Bool.{cases_eq, cases_lt}
use Rattle.std.proofs.lemmas.List.{get_or-map, get_or-set_other, get_or-set_same, get_or_default, length-set}
use Rattle.std.proofs.lemmas.Nat.{div-add-mod', div-mul-add, mod-mul-add}
use Rattle.std.proofs.lemmas.Option.{get_or_from_slice_get, slice_get-get_or, slice_get_within}
use Rattle.std.specs.List.{All}
use Rattle.std.specs.Prelude.{slice_get}
use Rattle.tally_cli.specs.declared.running.files.Count.{Count}
use Rattle.tally_cli.specs.declared.running.files.Count.TheVariants as count
use Rattle.tally_cli.specs.declared.running.files.FileCount.{FileCount}
use Rattle.tally_cli.specs.declared.running.source.Source.{Source}
use Rattle.tally_cli.specs.inside.Files.{AreAllCounted, AreCounted, AreDealt, AreExplained, HasSums, IsFault, IsPlaced, IsUncounted, StopAtFault, StopsAtFault, count_in, count_of, counts_of, untried}

-- ---- a list, file by file

-- the files before a place were counted to their end
abbrev pub HaveSums : {I S F : Type 0} → List (FileCount I S F) → ℕ → Type 0
HaveSums us at = (k : ℕ) (d : FileCount _ _ _) → k < at → HasSums (get_or us k d).count

-- the files were counted up to a place, and those from there on are as they were
pub record IsCountedTo {I S F : Type 0} (came_is : Source I → Count S F → Type 0) (ts us : List (FileCount I S F)) (at : ℕ) : Type 0 where
  pub length_is : length us ≡ length ts
  pub came : (k : ℕ) (d : FileCount I S F) → k < at → came_is (get_or ts k d).source (get_or us k d).count
  pub left : (k : ℕ) (d : FileCount I S F) → at ≤ k → get_or us k d ≡ get_or ts k d

sums_not_fault : {S F : Type 0} → (c : Count S F) → HasSums c → IsFault c → ⊥
sums_not_fault count.Untried has fault = has
sums_not_fault (count.Sums sums) has fault = fault
sums_not_fault (count.Fault found) has fault = has

pub sums_tried : {S F : Type 0} → (c : Count S F) → HasSums c → c ≡ count.Untried → ⊥
sums_tried c has is = subst HasSums is has

pub fault_tried : {S F : Type 0} → (c : Count S F) → IsFault c → c ≡ count.Untried → ⊥
fault_tried c fault is = subst IsFault is fault

-- nothing is said of a file that was not tried
came_untried : {I S F : Type 0} (came_is : Source I → Count S F → Type 0) (nothing : (source : Source I) → came_is source count.Untried) (source : Source I) (c : Count S F) → c ≡ count.Untried → came_is source c
came_untried came_is nothing source c is = subst (came_is source) (sym is) (nothing source)

-- the count at a place of a list, where one is
pub counts_at : {I S F : Type 0} (us : List (FileCount I S F)) (k : ℕ) (d : FileCount I S F) → k < length us → counts_of us k ≡ (get_or us k d).count
counts_at us k d l = ap count_of (slice_get-get_or us k d l)

module _ {I S F : Type 0} (came_is : Source I → Count S F → Type 0) (ts us : List (FileCount I S F)) (at : ℕ) (x u : FileCount I S F) (near : at < length ts) (is : x ≡ get_or us at x)
    (before : IsCountedTo came_is ts us at) (came : came_is x.source u.count) where
  in_us : at < length us
  in_us = omega (arith, near, before.length_is)

  own : (d : FileCount I S F) → x ≡ get_or ts at d
  own d = is ∙ before.left at x (omega arith) ∙ get_or_default ts at x d near

  here : (d : FileCount I S F) → get_or (set us at u) at d ≡ u
  here d = get_or-set_same us at u d in_us

  pub counted_more : IsCountedTo came_is ts (set us at u) (at + 1)
  counted_more = record {
    length_is = length-set us at u ∙ before.length_is;
    came = λ k d l. ⊎_elim
        (λ (same : k ≡ at).
        subst (λ n. came_is (get_or ts n d).source (get_or (set us at u) n d).count) (sym same)
        (subst (λ (f : FileCount I S F). came_is (get_or ts at d).source f.count) (sym (here d)) (subst (λ (f : FileCount I S F). came_is f.source u.count) (own d) came)))
        (λ (apart : k ≢ at). subst (λ (f : FileCount I S F). came_is (get_or ts k d).source f.count) (sym (get_or-set_other us at k u d apart)) (before.came k d (omega (arith, l, apart))))
        (cases_eq k at);
    left = λ k d l. get_or-set_other us at k u d (λ (same : k ≡ at). omega (arith, same, l)) ∙ before.left k d (omega (arith, l));
  }

  pub sums_more : HaveSums us at → HasSums u.count → HaveSums (set us at u) (at + 1)
  sums_more all has k d l = ⊎_elim
      (λ (same : k ≡ at). subst (λ (f : FileCount I S F). HasSums f.count) (sym (ap (λ n. get_or (set us at u) n d) same ∙ here d)) has)
      (λ (apart : k ≢ at). subst (λ (f : FileCount I S F). HasSums f.count) (sym (get_or-set_other us at k u d apart)) (all k d (omega (arith, l, apart))))
      (cases_eq k at)

some_file : {I S F : Type 0} (fs : List (FileCount I S F)) (k : ℕ) → k < length fs → FileCount I S F
some_file [] k l = absurd (omega (arith, l))
some_file (f ∷ fs) k l = f

module _ {I S F : Type 0} (came_is : Source I → Count S F → Type 0) (stops : (ℕ → Count S F) → ℕ → Type 0) (nothing : (source : Source I) → came_is source count.Untried) (failures : I → ℕ) (ts : List (FileCount I S F)) (at : ℕ)
    (uncounted : All (IsUncounted failures) ts) where
  came_each : (us : List (FileCount I S F)) (n : ℕ) → IsCountedTo came_is ts us n → (k : ℕ) (d : FileCount I S F) → k < length ts → came_is (get_or ts k d).source (get_or us k d).count
  came_each us n to k d l = ⊎_elim
      (λ (first : k < n). to.came k d first)
      (λ (rest : n ≤ k). came_untried came_is nothing (get_or ts k d).source (get_or us k d).count (ap (λ (f : FileCount I S F). f.count) (to.left k d rest) ∙ (uncounted k d l).untried))
      (cases_lt k n)

  -- all files were counted to their end
  pub counted_all : (us : List (FileCount I S F)) → IsCountedTo came_is ts us at → length ts ≤ at → HaveSums us at → AreCounted came_is stops ts us
  counted_all us to all sums = record {
    length_is = to.length_is;
    each = came_each us at to;
    stopped = λ k l e.
        let d = some_file ts k l in
        absurd (sums_tried _ (sums k d (omega (arith, l, all))) (sym (counts_at us k d (omega (arith, l, to.length_is))) ∙ e));
  }

  -- counting stops at the last file that was counted
  pub counted_part : (us : List (FileCount I S F)) (u : FileCount I S F) → at < length ts → length us ≡ length ts → IsCountedTo came_is ts (set us at u) (at + 1) → HaveSums us at
      → (u.count ≡ count.Untried → ⊥) → stops (counts_of (set us at u)) at → AreCounted came_is stops ts (set us at u)
  counted_part us u near same to sums tried there =
      let here : get_or (set us at u) at u ≡ u = get_or-set_same us at u u (omega (arith, near, same)) in
      record {
        length_is = to.length_is;
        each = came_each (set us at u) (at + 1) to;
        stopped = λ k l e.
            let own : (get_or (set us at u) k u).count ≡ count.Untried = sym (counts_at (set us at u) k u (omega (arith, l, to.length_is))) ∙ e in
            ⊎_elim
            (λ (first : k < at). absurd (sums_tried _ (subst (λ (f : FileCount I S F). HasSums f.count) (sym (get_or-set_other us at k u u (λ (same : k ≡ at). omega (arith, same, first)))) (sums k u first)) own))
            (λ (other : at ≤ k). ⊎_elim
            (λ (same : k ≡ at). absurd (tried (ap (λ (f : FileCount I S F). f.count) (sym (ap (λ n. get_or (set us at u) n u) same ∙ here)) ∙ own)))
            (λ (apart : k ≢ at). (at, omega (arith, other, apart), there))
            (cases_eq k at))
            (cases_lt k at);
      }

-- a list stops at a fault
pub stops_at_fault : {I S F : Type 0} (us : List (FileCount I S F)) (at : ℕ) (u : FileCount I S F) → at < length us → IsFault u.count → StopsAtFault (counts_of (set us at u)) at
stops_at_fault us at u near fault =
    let there = counts_at (set us at u) at u (omega (arith, near, length-set us at u)) in
    subst IsFault (sym (there ∙ ap (λ (f : FileCount _ _ _). f.count) (get_or-set_same us at u u near))) fault

-- where all files have sums, none has a fault
pub stops_never : {I S F : Type 0} (us : List (FileCount I S F)) (at : ℕ) → length us ≤ at → HaveSums us at → StopAtFault us
stops_never us at all sums j k d l m fault = absurd (sums_not_fault _ (sums j d (omega (arith, l, m, all))) fault)

-- and those after the last that was counted were not tried
pub stops_there : {I S F : Type 0} (came_is : Source I → Count S F → Type 0) (failures : I → ℕ) (ts us : List (FileCount I S F)) (at : ℕ) (u : FileCount I S F) → All (IsUncounted failures) ts
    → IsCountedTo came_is ts (set us at u) (at + 1) → HaveSums us at → StopAtFault (set us at u)
stops_there came_is failures ts us at u uncounted to sums j k d l m fault = ⊎_elim
    (λ (first : j < at). absurd (sums_not_fault _ (subst (λ (f : FileCount _ _ _). HasSums f.count) (sym (get_or-set_other us at j u d (λ (same : j ≡ at). omega (arith, same, first)))) (sums j d first)) fault))
    (λ (other : at ≤ j). ap (λ (f : FileCount _ _ _). f.count) (to.left k d (omega (arith, l, other))) ∙ (uncounted k d (omega (arith, m, to.length_is))).untried)
    (cases_lt j at)

-- ---- all lists

-- what the counts of sources came to, by the number of each
pub record CameEach {I S F : Type 0} (came_is : Source I → Count S F → Type 0) (stops : (ℕ → Count S F) → ℕ → Type 0) (n : ℕ) (sources : List (Source I)) (at : ℕ → Count S F) : Type 0 where
  pub each : (k : ℕ) (s : Source I) → k < length sources → came_is (get_or sources k s) (at k)
  pub explained : AreExplained stops n (length sources) at

module _ {I S F V : Type 0} (came_is : Source I → Count S F → Type 0) (stops : (ℕ → Count S F) → ℕ → Type 0) (sources : List (Source I)) (n : ℕ) (some : 0 < n) (files : V → List (FileCount I S F)) (vs us : List V) (width : length vs ≡ n)
    (dealt : AreDealt n sources (map files vs)) (counted : AreAllCounted came_is stops files vs us) where
  abbrev pub old : List (List (FileCount I S F))
  old = map files vs

  abbrev pub new : List (List (FileCount I S F))
  new = map files us

  turn : (k : ℕ) → k % n < length vs
  turn k = omega (arith, mod-lt k some, width)

  some_of : (w : ℕ) → w < length vs → V
  some_of w l = first vs w l
    where
      first : (xs : List V) (k : ℕ) → k < length xs → V
      first [] k l = absurd (omega (arith, l))
      first (x ∷ xs) k l = x

  row : (w : ℕ) → w < length vs → AreCounted came_is stops (get_or old w []) (get_or new w [])
  row w l =
      let d = some_of w l in
      subst (λ ts. AreCounted came_is stops ts (get_or new w [])) (sym (get_or-map files vs w d [] l))
      (subst (λ ts. AreCounted came_is stops (files (get_or vs w d)) ts) (sym (get_or-map files us w d [] (omega (arith, l, counted.length_is)))) (counted.each w d l))

  module _ (k : ℕ) (s : Source I) (l : k < length sources) where
    abbrev file : FileCount I S F
    file = untried (get_or sources k s)

    within : k / n < length (get_or old (k % n) [])
    within = slice_get_within (get_or old (k % n) []) (k / n) file (dealt k s l)

    within_new : k / n < length (get_or new (k % n) [])
    within_new = omega (arith, within, (row (k % n) (turn k)).length_is)

    old_is : get_or (get_or old (k % n) []) (k / n) file ≡ file
    old_is = get_or_from_slice_get (get_or old (k % n) []) (k / n) file file (dealt k s l)

    count_is : count_in n new k ≡ (get_or (get_or new (k % n) []) (k / n) file).count
    count_is = ap count_of (slice_get-get_or (get_or new (k % n) []) (k / n) file within_new)

    came : came_is (get_or sources k s) (count_in n new k)
    came =
        subst (came_is (get_or sources k s)) (sym count_is)
        (subst (λ (f : FileCount I S F). came_is f.source (get_or (get_or new (k % n) []) (k / n) file).count) old_is ((row (k % n) (turn k)).each (k / n) file within))

    -- the counts of the list that the file is in
    own_counts : counts_of (get_or new (k % n) []) ≡ (λ (place : ℕ). count_in n new (place * n + k % n))
    own_counts = sym (λ i place. count_of (slice_get (get_or new (mod-mul-add place n (k % n) (mod-lt k some) i) []) (div-mul-add place n (k % n) (mod-lt k some) i)))

    stopped : count_in n new k ≡ count.Untried → (j : ℕ) × (j * n + k % n < k) × stops (λ place. count_in n new (place * n + k % n)) j
    stopped e =
        let found = (row (k % n) (turn k)).stopped (k / n) within e in
        let r : ℕ = found.0 in (
          r,
          omega (arith, div-add-mod' k n, mul-le-mul_right {m = r + 1} {n = k / n} n (omega (arith, found.1)), times r, some),
          subst (λ (at : ℕ → Count S F). stops at r) own_counts found.2,
        )
      where
        times : (r : ℕ) → (r + 1) * n ≡ r * n + n
        times r = omega arith

    placed_at : IsPlaced n new k
    placed_at = within_new

  source_of : (ss : List (Source I)) (k : ℕ) → k < length ss → Source I
  source_of [] k l = absurd (omega (arith, l))
  source_of (x ∷ ss) k l = x

  pub came_all : CameEach came_is stops n sources (count_in n new)
  came_all = record { each = came; explained = λ k l e. stopped k (source_of sources k l) l e }

  pub placed_all : (k : ℕ) → k < length sources → IsPlaced n new k
  placed_all k l = placed_at k (source_of sources k l) l
