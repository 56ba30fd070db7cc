-- Answers do not depend on the order in which the records stand.
use Rattle.std.proofs.Common.{◌≡◌, ℕ, ◌+◌, ◌*◌, Bool, true, false, cond, not, ◌&&◌, ◌||◌, eqb, List, [], ◌∷◌, length, map, filter, nat_eq, reverse, sum_by, refl, sym, ap, ◌∙◌, arith}
use Rattle.std.proofs.lemmas.List.Elements.{filter_agree}
use Rattle.std.proofs.lemmas.List.Sorted.{Contains-permutation, IsPermutation-map, IsPermutation-sym, sum_by-IsPermutation}
use Rattle.std.proofs.lemmas.List.Sums.{length-filter, sum_by-cons}
use Rattle.std.specs.Cmp.{IsTotalOrder}
use Rattle.std.specs.List.Sorted.{IsPermutation}
use Rattle.std.specs.declared.cmp.Ordering.{Ordering}
use Rattle.tally_records.specs.declared.process.ProcRecord.{ProcRecord}
use Rattle.tally_usage.specs.declared.command.Command.{Command}
use Rattle.tally_usage.specs.declared.order.Order.{Order}
use Rattle.tally_usage.specs.Command.{command_of, command_row, command_row_cmp, command_rows, is_printable, is_same_command, is_stray, other_row, row_of_record}
use Rattle.tally_records.specs.Sorted.{in_order}
use Rattle.tally_usage.specs.Usage.{cpu_of, usage_of}
use Rattle.tally_usage.specs.declared.user.UidRow.{UidRow}
use Rattle.tally_usage.specs.User.{user_row, user_row_cmp, user_rows}
use Rattle.tally_usage.proofs.CommandLemmas.{command_cmp_total, ties_are_equal}
use Rattle.tally_usage.proofs.UserLemmas as users
use Rattle.tally_usage.proofs.UserLemmas.{user_cmp_total}
use Rattle.tally_records.proofs.Members.{Member, Member-from_Contains, Contains-from_Member}
use Rattle.tally_records.proofs.SortedLemmas.{TiesAreEqual, ascending_unique, in_order-ascends, in_order-from, in_order-has}

pub sum_by-filter : {X : Type 0} (f : X → ℕ) (p : X → Bool) (xs : List X) → sum_by f (filter p xs) ≡ sum_by (λ x. cond (p x) (f x) 0) xs
sum_by-filter f p [] = refl
sum_by-filter {X} f p (x ∷ xs) = by (p x) (sum_by-filter f p xs) ∙ sym (sum_by-cons (λ y. cond (p y) (f y) 0) x xs)
  where
    by : (b : Bool) → sum_by f (filter p xs) ≡ sum_by (λ y. cond (p y) (f y) 0) xs → sum_by f (cond b (x ∷ filter p xs) (filter p xs)) ≡ cond b (f x) 0 + sum_by (λ y. cond (p y) (f y) 0) xs
    by true next = sum_by-cons f x (filter p xs) ∙ ap (λ n. f x + n) next
    by false next = omega (arith, next)

module _ (rs ss : List ProcRecord) (moved : IsPermutation rs ss) where
  sum_same : (f : ProcRecord → ℕ) (p : ProcRecord → Bool) → sum_by f (filter p ss) ≡ sum_by f (filter p rs)
  sum_same f p = sum_by-filter f p ss ∙ sum_by-IsPermutation (λ x. cond (p x) (f x) 0) rs ss moved ∙ sym (sum_by-filter f p rs)

  length_same : (p : ProcRecord → Bool) → length (filter p ss) ≡ length (filter p rs)
  length_same p = length-filter p ss ∙ sum_by-IsPermutation (λ x. cond (p x) 1 0) rs ss moved ∙ sym (length-filter p rs)

  -- the usage of the records that pass a test
  pub usage_same : (p : ProcRecord → Bool) → usage_of (filter p ss) ≡ usage_of (filter p rs)
  unfolding usage_of
  usage_same p = λ i. record {
    count = length_same p i;
    real = sum_same (λ r. r.real_ticks) p i;
    cpu = sum_same cpu_of p i;
    io = sum_same (λ r. r.io) p i;
    mem_cpu = sum_same (λ r. r.mem * cpu_of r) p i;
  }

  stray_same : (c : Command) → is_stray ss c ≡ is_stray rs c
  stray_same c = ap (λ n. (eqb n 1) || not (is_printable c.name)) (length_same (λ r. is_same_command c (command_of r)))

  -- the row that counts a record
  pub row_same : (all : Bool) (r : ProcRecord) → row_of_record all ss r ≡ row_of_record all rs r
  row_same all r =
      let own : command_row ss (command_of r) ≡ command_row rs (command_of r) = λ i. record { name = r.comm; forked = (command_of r).forked; other = false; usage = usage_same (λ x. is_same_command (command_of r) (command_of x)) i } in
      let joined : usage_of (filter (λ x. is_stray ss (command_of x)) ss) ≡ usage_of (filter (λ x. is_stray rs (command_of x)) rs) =
      ap usage_of (filter_agree (λ x. is_stray ss (command_of x)) (λ x. is_stray rs (command_of x)) (λ x. stray_same (command_of x)) ss) ∙ usage_same (λ x. is_stray rs (command_of x)) in
      λ i. cond (not all && stray_same (command_of r) i) (record { name = (other_row rs).name; forked = false; other = true; usage = joined i }) (own i)

-- the same items in order
pub in_order-IsPermutation : {X : Type 0} {cmp : X → X → Ordering} (o : IsTotalOrder cmp) (xs ys : List X) → IsPermutation xs ys → TiesAreEqual o xs → in_order cmp xs ≡ in_order cmp ys
in_order-IsPermutation o xs ys moved ties =
    let to : (z : _) → Member z xs → Member z ys = λ z m. Member-from_Contains ys z (Contains-permutation xs ys z moved (Contains-from_Member xs z m)) in
    let back : (z : _) → Member z ys → Member z xs = λ z m. Member-from_Contains xs z (Contains-permutation ys xs z (IsPermutation-sym xs ys moved) (Contains-from_Member ys z m)) in
    ascending_unique o _ _ (in_order-ascends o xs) (in_order-ascends o ys)
    (λ z m. in_order-has o z ys (λ x y p q. ties x y (back x p) (back y q)) (to z (in_order-from o z xs m)))
    (λ z m. in_order-has o z xs ties (back z (in_order-from o z ys m)))

-- the rows of the same records
pub command_rows-IsPermutation : (order : Order) (all reversed : Bool) (rs ss : List ProcRecord) → IsPermutation rs ss → command_rows order all reversed ss ≡ command_rows order all reversed rs
unfolding command_rows
command_rows-IsPermutation order all reversed rs ss moved =
    let same : map (row_of_record all ss) ss ≡ map (row_of_record all rs) ss = λ i. map (λ r. row_same rs ss moved all r i) ss in
    let rows : in_order (command_row_cmp order) (map (row_of_record all ss) ss) ≡ in_order (command_row_cmp order) (map (row_of_record all rs) rs) =
    ap (in_order (command_row_cmp order)) same
    ∙ sym (in_order-IsPermutation (command_cmp_total order) (map (row_of_record all rs) rs) (map (row_of_record all rs) ss) (IsPermutation-map (row_of_record all rs) rs ss moved) (ties_are_equal all rs order)) in
    ap (λ l. cond reversed (reverse l) l) rows

pub user_rows-IsPermutation : (order : Order) (reversed : Bool) (rs ss : List ProcRecord) → IsPermutation rs ss → user_rows order reversed ss ≡ user_rows order reversed rs
unfolding user_rows
user_rows-IsPermutation order reversed rs ss moved =
    let same : map (λ (r : ProcRecord). user_row ss r.uid) ss ≡ map (λ (r : ProcRecord). user_row rs r.uid) ss = λ i. map (λ (r : ProcRecord). let row : UidRow = record { uid = r.uid; usage = usage_same rs ss moved (λ x. nat_eq r.uid x.uid) i } in row) ss in
    let rows : in_order (user_row_cmp order) (map (λ (r : ProcRecord). user_row ss r.uid) ss) ≡ in_order (user_row_cmp order) (map (λ (r : ProcRecord). user_row rs r.uid) rs) =
    ap (in_order (user_row_cmp order)) same
    ∙ sym (in_order-IsPermutation (user_cmp_total order) (map (λ (r : ProcRecord). user_row rs r.uid) rs) (map (λ (r : ProcRecord). user_row rs r.uid) ss) (IsPermutation-map (λ (r : ProcRecord). user_row rs r.uid) rs ss moved) (users.ties_are_equal rs order)) in
    ap (λ l. cond reversed (reverse l) l) rows

-- all records pass the test that all pass
filter-all : {X : Type 0} (xs : List X) → filter (λ x. true) xs ≡ xs
filter-all [] = refl
filter-all (x ∷ xs) = λ i. x ∷ filter-all xs i

pub total-IsPermutation : (rs ss : List ProcRecord) → IsPermutation rs ss → usage_of ss ≡ usage_of rs
total-IsPermutation rs ss moved = ap usage_of (sym (filter-all ss)) ∙ usage_same rs ss moved (λ r. true) ∙ ap usage_of (filter-all rs)
