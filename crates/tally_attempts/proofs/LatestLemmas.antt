-- The failed logins of a host, gone over from the last one.
use Rattle.std.proofs.Common.{ℤ, Bool, cond, ◌≡◌, ℕ, zero, suc, ◌+◌, true, false, List, [], ◌∷◌, ◌++◌, ◌==◌, drop, filter, map, reverse, slice_get, take, Option, None, Some, option_map, refl, sym, ap, ◌∙◌, arith}
use Rattle.std.proofs.lemmas.Bool.Decides.{nat_tests}
use Rattle.std.proofs.lemmas.List.{append_assoc, append_cancel_right, map-append, reverse-append, take-append-drop}
use Rattle.std.proofs.lemmas.List.Elements.{filter-append}
use Rattle.tally_attempts.specs.Attempts.{attempt, attempts_before, is_chosen}
use Rattle.tally_attempts.specs.declared.attempt.Attempt.{Attempt}
use Rattle.tally_attempts.specs.inside.Latest.{if_chosen, with_first}
use Rattle.tally_records.specs.declared.choice.LoginChoice.{LoginChoice}
use Rattle.tally_records.specs.declared.login.LoginRecord.{LoginRecord}
use Rattle.tally_sessions.specs.Hosts.{of_host}
use Rattle.tally_sessions.specs.Totals.{first_time}
use Rattle.tally_sessions.specs.declared.entry.Entry.{Entry}

-- the records of a host in two parts
pub of_host-append : (host : ℕ) (xs ys : List Entry) → of_host host (xs ++ ys) ≡ of_host host xs ++ of_host host ys
of_host-append host xs ys =
    ap (map (λ (e : Entry). e.item)) (filter-append (λ (e : Entry). e.host == host) xs ys)
    ∙ map-append (λ (e : Entry). e.item) (filter (λ (e : Entry). e.host == host) xs) (filter (λ (e : Entry). e.host == host) ys)

same_host : (a b : ℕ) → a ≡ b → (a == b) ≡ true
same_host a b h = grind (arith, nat_tests)

of_host-cons : (host : ℕ) (e : Entry) (es : List Entry) → e.host ≡ host → of_host host (e ∷ es) ≡ e.item ∷ of_host host es
of_host-cons host e es h = let t = same_host e.host host h in rw t refl

abbrev host_at : List Entry → ℕ → Option ℕ
host_at es at = option_map (λ (e : Entry). e.host) (slice_get es at)

-- an entry of a host
record IsEntryOf (es : List Entry) (at host : ℕ) : Type 0 where
  entry : Entry
  there : slice_get es at ≡ Some entry
  host_is : entry.host ≡ host

entry_of : (es : List Entry) (at host : ℕ) → host_at es at ≡ Some host → IsEntryOf es at host
entry_of es at host h = by (slice_get es at) refl h
  where
    by : (o : Option Entry) → slice_get es at ≡ o → option_map (λ (e : Entry). e.host) o ≡ Some host → IsEntryOf es at host
    by None e f = cc
    by (Some x) e f = record { entry = x; there = e; host_is = (let same : Some x.host ≡ Some host = f in cc) }

drop_there : (n : ℕ) (es : List Entry) (x : Entry) → slice_get es n ≡ Some x → drop n es ≡ x ∷ drop (n + 1) es
drop_there n [] x e = cc
drop_there zero (y ∷ es) x e = by y x e
  where
    by : (u v : Entry) → Some u ≡ Some v → u ∷ es ≡ v ∷ es
    by u v h = cc
drop_there (suc n) (y ∷ es) x e = drop_there n es x e ∙ ap (λ k. x ∷ drop k (y ∷ es)) (let next : suc (n + 1) ≡ suc n + 1 = omega arith in next)

-- the records of a host from one of its entries on
of_host-there : (es : List Entry) (at host : ℕ) (e : IsEntryOf es at host) → of_host host (drop at es) ≡ e.entry.item ∷ of_host host (drop (at + 1) es)
of_host-there es at host e = ap (of_host host) (drop_there at es e.entry e.there) ∙ of_host-cons host e.entry (drop (at + 1) es) e.host_is

-- ---- the first record

-- the time of an entry of a host, where none is before it
pub first_there : (es : List Entry) (at host : ℕ) (time : Option ℤ) → option_map (λ (e : Entry). e.host) (slice_get es at) ≡ Some host → of_host host (take at es) ≡ of_host host (take 0 es)
    → time ≡ option_map (λ (e : Entry). e.item.time) (slice_get es at) → time ≡ first_time host es
first_there es at host time there first is =
    let e = entry_of es at host there in
    let all : of_host host es ≡ e.entry.item ∷ of_host host (drop (at + 1) es) =
    sym (ap (of_host host) (take-append-drop at es)) ∙ of_host-append host (take at es) (drop at es)
    ∙ ap (λ (rs : List LoginRecord). rs ++ of_host host (drop at es)) first ∙ of_host-there es at host e in
    is ∙ ap (option_map (λ (x : Entry). x.item.time)) e.there ∙ sym (ap (λ (rs : List LoginRecord). option_map (λ (r : LoginRecord). r.time) (slice_get rs 0)) all)

-- ---- one failed login before a place

-- the records of a host before a place, and those from it on
in_two : (host place : ℕ) (es : List Entry) → of_host host es ≡ of_host host (take place es) ++ of_host host (drop place es)
in_two host place es = sym (ap (of_host host) (take-append-drop place es)) ∙ of_host-append host (take place es) (drop place es)

-- where the entries from a place on have all records of the host, none stands before it
none_before : (host place : ℕ) (es : List Entry) → of_host host es ≡ of_host host (drop place es) → of_host host (take place es) ≡ []
none_before host place es all = append_cancel_right (of_host host (take place es)) [] (of_host host (drop place es)) (sym (in_two host place es) ∙ all)

module _ (host : ℕ) (choice : LoginChoice) (es : List Entry) where
  abbrev rows_of : List LoginRecord → List Attempt
  rows_of rs = reverse (map (attempt host) (filter (is_chosen choice) rs))

  rows_of-push : (rs : List LoginRecord) (r : LoginRecord) → rows_of (rs ++ r ∷ []) ≡ rows_of (r ∷ []) ++ rows_of rs
  rows_of-push rs r =
      ap (λ (xs : List LoginRecord). reverse (map (attempt host) xs)) (filter-append (is_chosen choice) rs (r ∷ []))
      ∙ ap reverse (map-append (attempt host) (filter (is_chosen choice) rs) (filter (is_chosen choice) (r ∷ [])))
      ∙ reverse-append (map (attempt host) (filter (is_chosen choice) rs)) (map (attempt host) (filter (is_chosen choice) (r ∷ [])))

  pub nothing_before : (before : ℕ) → of_host host es ≡ of_host host (drop before es) → attempts_before host choice before es ≡ []
  nothing_before before all = ap rows_of (none_before host before es all)

  -- the records before a place end with that of the host's last entry before it
  one_more : (at before : ℕ) (e : IsEntryOf es at host) → of_host host (drop (at + 1) es) ≡ of_host host (drop before es) → of_host host (take before es) ≡ of_host host (take at es) ++ e.entry.item ∷ []
  one_more at before e last =
      append_cancel_right (of_host host (take before es)) (of_host host (take at es) ++ e.entry.item ∷ []) (of_host host (drop before es))
      (sym (in_two host before es) ∙ in_two host at es
      ∙ ap (λ (rs : List LoginRecord). of_host host (take at es) ++ rs) (of_host-there es at host e ∙ ap (λ (rs : List LoginRecord). e.entry.item ∷ rs) last)
      ∙ sym (append_assoc (of_host host (take at es)) (e.entry.item ∷ []) (of_host host (drop before es))))

  -- the rows of one entry
  row_of_one : (e : Entry) (rows : List Attempt) → rows_of (e.item ∷ []) ++ rows ≡ with_first (option_map (attempt host) (if_chosen choice (Some e))) rows
  row_of_one e rows = by (is_chosen choice e.item)
    where
      by : (b : Bool) → reverse (map (attempt host) (cond b (e.item ∷ []) [])) ++ rows ≡ with_first (option_map (attempt host) (cond b (Some e.item) None)) rows
      by true = refl
      by false = refl

  -- the failed logins before a place begin with that of the host's last entry before it, where this is one
  pub last_here : (at before : ℕ) (row : Option Attempt) → option_map (λ (e : Entry). e.host) (slice_get es at) ≡ Some host → of_host host (drop (at + 1) es) ≡ of_host host (drop before es)
      → row ≡ option_map (attempt host) (if_chosen choice (slice_get es at)) → attempts_before host choice before es ≡ with_first row (attempts_before host choice at es)
  last_here at before row there last is =
      let e = entry_of es at host there in
      ap rows_of (one_more at before e last) ∙ rows_of-push (of_host host (take at es)) e.entry.item ∙ row_of_one e.entry (attempts_before host choice at es)
      ∙ ap (λ (o : Option Attempt). with_first o (attempts_before host choice at es)) (sym (is ∙ ap (λ (o : Option Entry). option_map (attempt host) (if_chosen choice o)) e.there))
