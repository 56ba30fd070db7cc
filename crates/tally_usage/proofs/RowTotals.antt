-- The rows of a report add up to its total, since each record is counted by one of them.
use Rattle.std.proofs.Common.{◌≡◌, ◌+◌, ◌*◌, ℕ, Bool, true, false, not, cond, if◌then◌else◌, ◌&&◌, List, [], ◌∷◌, length, map, filter, nat_eq, reverse, sum_by, refl, sym, ap, subst, ◌∙◌, inl, inr, arith}
use Rattle.std.proofs.lemmas.Bool.{eqb-true}
use Rattle.std.proofs.lemmas.Cmp.{nat_eq_equiv}
use Rattle.std.proofs.lemmas.List.Sorted.{IsPermutation-reverse, sum_by-IsPermutation}
use Rattle.std.proofs.lemmas.List.Sums.{sum_by-cons}
use Rattle.std.specs.Cmp.{IsTotalOrder, tied_itself}
use Rattle.std.specs.List.Sorted.{IsStrictlySortedBy}
use Rattle.std.specs.declared.cmp.Ordering.{Ordering}
use Rattle.std.specs.declared.cmp.Ordering.TheVariants.{Less, Equal}
use Rattle.tally_records.specs.declared.process.ProcRecord.{ProcRecord}
use Rattle.tally_records.specs.Sorted.{in_order}
use Rattle.tally_records.proofs.Members.{All-Member, Member, Member-from_map, Member-map}
use Rattle.tally_records.proofs.SortedLemmas.{in_order-ascends, in_order-from, in_order-has}
use Rattle.tally_usage.specs.declared.command.CommandRow.{CommandRow}
use Rattle.tally_usage.specs.declared.order.Order.{Order}
use Rattle.tally_usage.specs.declared.usage.Usage.{Usage}
use Rattle.tally_usage.specs.declared.user.UidRow.{UidRow}
use Rattle.tally_usage.specs.Command.{command_of, command_row, command_row_cmp, command_rows, is_same_command, is_stray, other_row, row_of_record}
use Rattle.tally_usage.specs.inside.Keys.{same_command}
use Rattle.tally_usage.specs.Laws.{RowsAddUp, together}
use Rattle.tally_usage.specs.Usage.{cpu_of, usage_of}
use Rattle.tally_usage.specs.User.{user_row, user_row_cmp, user_rows}
use Rattle.tally_usage.proofs.CommandLemmas as commands
use Rattle.tally_usage.proofs.CommandLemmas.{both, command_cmp_total, command_laws, never_true}
use Rattle.tally_usage.proofs.PermutationLemmas.{sum_by-filter}
use Rattle.tally_usage.proofs.UserLemmas as users
use Rattle.tally_usage.proofs.UserLemmas.{user_cmp_total}

sum_by-plus : {X : Type 0} (f g : X → ℕ) (xs : List X) → sum_by (λ x. f x + g x) xs ≡ sum_by f xs + sum_by g xs
sum_by-plus f g [] = refl
sum_by-plus {X} f g (x ∷ xs) =
    omega (arith, sum_by-cons (λ (y : X). f y + g y) x xs, sum_by-cons f x xs, sum_by-cons g x xs, sum_by-plus f g xs)

sum_by-nothing : {X : Type 0} (xs : List X) → sum_by (λ (x : X). 0) xs ≡ 0
sum_by-nothing [] = refl
sum_by-nothing {X} (x ∷ xs) = omega (arith, sum_by-cons (λ (y : X). 0) x xs, sum_by-nothing xs)

sum_by-ones : {X : Type 0} (xs : List X) → length xs ≡ sum_by (λ (x : X). 1) xs
sum_by-ones [] = refl
sum_by-ones {X} (x ∷ xs) = omega (arith, sum_by-cons (λ (y : X). 1) x xs, sum_by-ones xs)

sum_by-alike : {X : Type 0} (f g : X → ℕ) (xs : List X) → ((x : X) → Member x xs → f x ≡ g x) → sum_by f xs ≡ sum_by g xs
sum_by-alike f g [] same = refl
sum_by-alike f g (x ∷ xs) same =
    omega (arith, sum_by-cons f x xs, sum_by-cons g x xs, same x (inl refl), sum_by-alike f g xs (λ y m. same y (inr m)))

module _ {X Y : Type 0} (own : Y → X → Bool) (row_of : X → Y) where
  -- of these rows a record's counts it, and no other
  record IsCountedOnce (ys : List Y) (x : X) : Type 0 where
    has : Member (row_of x) ys
    counts : own (row_of x) x ≡ true
    only : (y : Y) → Member y ys → own y x ≡ true → y ≡ row_of x

  -- what a row has of a number of a record
  abbrev share : X → ℕ → Y → ℕ
  share x n y = cond (own y x) n 0

  share-none : (x : X) (n : ℕ) (y : Y) → (own y x ≡ true → ⊥) → share x n y ≡ 0
  share-none x n y never = ap (λ b. cond b n 0) (never_true (own y x) never)

  shares-none : (x : X) (n : ℕ) (ys : List Y) → ((y : Y) → Member y ys → own y x ≡ true → ⊥) → sum_by (share x n) ys ≡ 0
  shares-none x n [] never = refl
  shares-none x n (y ∷ ys) never =
      omega (arith, sum_by-cons (share x n) y ys, share-none x n y (never y (inl refl)), shares-none x n ys (λ z m. never z (inr m)))

  -- the records that a row counts, with one more
  counted-cons : (f : X → ℕ) (y : Y) (x : X) (xs : List X) → sum_by f (filter (own y) (x ∷ xs)) ≡ share x (f x) y + sum_by f (filter (own y) xs)
  counted-cons f y x xs =
      let counted : X → ℕ = λ z. cond (own y z) (f z) 0 in
      sum_by-filter f (own y) (x ∷ xs) ∙ sum_by-cons counted x xs ∙ ap (λ n. counted x + n) (sym (sum_by-filter f (own y) xs))

  module _ {cmp : Y → Y → Ordering} (o : IsTotalOrder cmp) where
    never_less : (y z : Y) → cmp y z ≡ Less → z ≡ y → ⊥
    never_less y z less same = let never : Less ≡ Equal = sym less ∙ ap (cmp y) same ∙ tied_itself o y in cc

    one_has_all : (x : X) (n : ℕ) (ys : List Y) → IsStrictlySortedBy cmp ys → IsCountedOnce ys x → sum_by (share x n) ys ≡ n
    unfolding IsStrictlySortedBy
    one_has_all x n [] up once = absurd once.has
    one_has_all x n (y ∷ ys) up once = elim once.has [
      | inl same ↦
          let all : share x n y ≡ n = ap (λ b. cond b n 0) (subst (λ z. own z x ≡ true) same once.counts) in
          let none = shares-none x n ys (λ z m is. never_less y z (All-Member (λ (w : Y). cmp y w ≡ Less) ys z up.0 m) (once.only z (inr m) is ∙ same)) in
          omega (arith, sum_by-cons (share x n) y ys, all, none)
      | inr later ↦
          let less : cmp y (row_of x) ≡ Less = All-Member (λ (w : Y). cmp y w ≡ Less) ys (row_of x) up.0 later in
          let none = share-none x n y (λ is. never_less y (row_of x) less (sym (once.only y (inl refl) is))) in
          omega (arith, sum_by-cons (share x n) y ys, none, one_has_all x n ys up.1 (record { has = later; counts = once.counts; only = λ z m is. once.only z (inr m) is }))
    ]

    counted_once : (f : X → ℕ) (ys : List Y) → IsStrictlySortedBy cmp ys → (xs : List X) → ((x : X) → Member x xs → IsCountedOnce ys x)
        → sum_by (λ y. sum_by f (filter (own y) xs)) ys ≡ sum_by f xs
    counted_once f ys up [] once = sum_by-nothing ys
    counted_once f ys up (x ∷ xs) once =
        (λ i. sum_by (λ y. counted-cons f y x xs i) ys)
        ∙ sum_by-plus (share x (f x)) (λ y. sum_by f (filter (own y) xs)) ys
        ∙ (λ i. one_has_all x (f x) ys up (once x (inl refl)) i + counted_once f ys up xs (λ z m. once z (inr m)) i)
        ∙ sym (sum_by-cons f x xs)

module _ {Y : Type 0} (own : Y → ProcRecord → Bool) (row_of : ProcRecord → Y) {cmp : Y → Y → Ordering} (o : IsTotalOrder cmp) (usage : Y → Usage) (ys : List Y) (rs : List ProcRecord)
    (up : IsStrictlySortedBy cmp ys) (once : (r : ProcRecord) → Member r rs → IsCountedOnce own row_of ys r)
    (is : (y : Y) → Member y ys → usage y ≡ usage_of (filter (own y) rs)) where
  field_adds_up : (field : Usage → ℕ) (f : ProcRecord → ℕ) → ((xs : List ProcRecord) → field (usage_of xs) ≡ sum_by f xs) → sum_by (λ y. field (usage y)) ys ≡ field (usage_of rs)
  field_adds_up field f sums =
      sum_by-alike (λ y. field (usage y)) (λ y. sum_by f (filter (own y) rs)) ys (λ y m. ap field (is y m) ∙ sums (filter (own y) rs))
      ∙ counted_once own row_of o f ys up rs once ∙ sym (sums rs)

  add_up : together usage ys ≡ usage_of rs
  unfolding usage_of
  add_up = λ i. record {
    count = field_adds_up (λ u. u.count) (λ r. 1) sum_by-ones i;
    real = field_adds_up (λ u. u.real) (λ r. r.real_ticks) (λ xs. refl) i;
    cpu = field_adds_up (λ u. u.cpu) cpu_of (λ xs. refl) i;
    io = field_adds_up (λ u. u.io) (λ r. r.io) (λ xs. refl) i;
    mem_cpu = field_adds_up (λ u. u.mem_cpu) (λ r. r.mem * cpu_of r) (λ xs. refl) i;
  }

-- rows in reverse use as much together
turned : {Y : Type 0} (usage : Y → Usage) (ys : List Y) (reversed : Bool) → together usage (if reversed then reverse ys else ys) ≡ together usage ys
turned usage ys false = refl
turned {Y} usage ys true =
    let moved : (f : Y → ℕ) → sum_by f (reverse ys) ≡ sum_by f ys = λ f. sum_by-IsPermutation f ys (reverse ys) (IsPermutation-reverse ys) in λ i. record {
      count = moved (λ y. (usage y).count) i;
      real = moved (λ y. (usage y).real) i;
      cpu = moved (λ y. (usage y).cpu) i;
      io = moved (λ y. (usage y).io) i;
      mem_cpu = moved (λ y. (usage y).mem_cpu) i;
    }

module _ (all : Bool) (rs : List ProcRecord) where
  abbrev row_of : ProcRecord → CommandRow
  row_of r = row_of_record all rs r

  abbrev joins : ProcRecord → Bool
  joins r = not all && is_stray rs (command_of r)

  -- whether a row counts a record
  abbrev own : CommandRow → ProcRecord → Bool
  own row r = cond row.other (joins r) (is_same_command (record { name = row.name; forked = row.forked }) (command_of r))

  own_row : (r : ProcRecord) → own (row_of r) r ≡ true
  own_row r = elim (joins r) as (λ b. joins r ≡ b → own (cond b (other_row rs) (command_row rs (command_of r))) r ≡ true) [
    | true ↦ λ e. e
    | false ↦ λ e. command_laws.refl (command_of r)
  ] refl

  only_row : (r s : ProcRecord) → own (row_of s) r ≡ true → row_of s ≡ row_of r
  only_row r s = elim (joins s) as (λ b. joins s ≡ b → own (cond b (other_row rs) (command_row rs (command_of s))) r ≡ true → cond b (other_row rs) (command_row rs (command_of s)) ≡ row_of r) [
    | true ↦ λ e is. sym (ap (λ b. cond b (other_row rs) (command_row rs (command_of r))) is)
    | false ↦ λ e is.
        let same = same_command (command_of s) (command_of r) is in
        let apart : joins r ≡ false = ap (λ c. not all && is_stray rs c) (sym same) ∙ e in
        ap (command_row rs) same ∙ sym (ap (λ b. cond b (other_row rs) (command_row rs (command_of r))) apart)
  ] refl

  has_usage : (s : ProcRecord) → (row_of s).usage ≡ usage_of (filter (own (row_of s)) rs)
  has_usage s = elim (joins s) as (λ b. joins s ≡ b → (cond b (other_row rs) (command_row rs (command_of s))).usage ≡ usage_of (filter (own (cond b (other_row rs) (command_row rs (command_of s)))) rs)) [
    | true ↦ λ e. ap (λ b. usage_of (filter (λ r. b && is_stray rs (command_of r)) rs)) (sym (both (not all) (is_stray rs (command_of s)) e).0)
    | false ↦ λ e. refl
  ] refl

  commands_add_up : (order : Order) → together (λ (row : CommandRow). row.usage) (in_order (command_row_cmp order) (map row_of rs)) ≡ usage_of rs
  commands_add_up order =
      let o = command_cmp_total order in
      let from : (row : CommandRow) → Member row (in_order (command_row_cmp order) (map row_of rs)) → (s : ProcRecord) × Member s rs × (row ≡ row_of s) = λ row m. Member-from_map row_of rs row (in_order-from o row (map row_of rs) m) in
      add_up own row_of o (λ (row : CommandRow). row.usage) _ rs (in_order-ascends o (map row_of rs))
      (λ r m. record {
        has = in_order-has o _ (map row_of rs) (commands.ties_are_equal all rs order) (Member-map row_of rs r m);
        counts = own_row r;
        only = λ row n is. let f = from row n in f.2 ∙ only_row r f.0 (subst (λ (y : CommandRow). own y r ≡ true) f.2 is);
      })
      (λ row m. let f = from row m in subst (λ (y : CommandRow). y.usage ≡ usage_of (filter (own y) rs)) (sym f.2) (has_usage f.0))

module _ (rs : List ProcRecord) where
  users_add_up : (order : Order) → together (λ (row : UidRow). row.usage) (in_order (user_row_cmp order) (map (λ r. user_row rs r.uid) rs)) ≡ usage_of rs
  users_add_up order =
      let o = user_cmp_total order in
      let row_of : ProcRecord → UidRow = λ r. user_row rs r.uid in
      let own : UidRow → ProcRecord → Bool = λ row r. nat_eq row.uid r.uid in
      let from : (row : UidRow) → Member row (in_order (user_row_cmp order) (map row_of rs)) → (s : ProcRecord) × Member s rs × (row ≡ row_of s) = λ row m. Member-from_map row_of rs row (in_order-from o row (map row_of rs) m) in
      add_up own row_of o (λ (row : UidRow). row.usage) _ rs (in_order-ascends o (map row_of rs))
      (λ r m. record {
        has = in_order-has o _ (map row_of rs) (users.ties_are_equal rs order) (Member-map row_of rs r m);
        counts = nat_eq_equiv.refl r.uid;
        only = λ row n is. let f = from row n in f.2 ∙ ap (user_row rs) (eqb-true f.0.uid r.uid (subst (λ (y : UidRow). own y r ≡ true) f.2 is));
      })
      (λ row m. let f = from row m in subst (λ (y : UidRow). y.usage ≡ usage_of (filter (own y) rs)) (sym f.2) refl)

pub rows_add_up : RowsAddUp
unfolding command_rows user_rows
rows_add_up order all reversed rs = (
  turned (λ (row : CommandRow). row.usage) (in_order (command_row_cmp order) (map (row_of_record all rs) rs)) reversed ∙ commands_add_up all rs order,
  turned (λ (row : UidRow). row.usage) (in_order (user_row_cmp order) (map (λ r. user_row rs r.uid) rs)) reversed ∙ users_add_up rs order,
)
