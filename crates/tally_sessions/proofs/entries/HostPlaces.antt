-- Entries of other hosts that are passed over.
use Rattle.std.proofs.Common.{◌≡◌, ◌≢◌, ◌⊎◌, ℕ, zero, suc, ◌+◌, ◌-◌, ◌<◌, ◌≤◌, List, [], ◌∷◌, Some, drop, length, option_map, refl, slice_get, take, ap, sym, ◌∙◌, inl, inr, arith}
use Rattle.std.proofs.lemmas.Bool.{cases_lt}
use Rattle.std.proofs.lemmas.List.{take_all}
use Rattle.std.proofs.lemmas.Option.{slice_get-get_or}
use Rattle.tally_sessions.specs.declared.entries.Entries.{Entries}
use Rattle.tally_sessions.specs.declared.entry.Entry.{Entry}
use Rattle.tally_sessions.specs.Hosts.{of_host}
use Rattle.tally_sessions.specs.Lent.{entries_in}
use Rattle.tally_sessions.specs.inside.Entries.{AreOf, entry_at, no_entry}
use Rattle.tally_sessions.proofs.entries.Lending.{read_lent}
use Rattle.tally_sessions.proofs.sessions.HostSteps.{of_host-cons_other, of_host-cons_same, of_host-take_other}

module _ (lent : Entries) (host other : ℕ) (apart : other ≢ host) where
  -- entries of another host, as the list that lends them has them
  passed_by : (n k : ℕ) → AreOf other lent.list.now n (n + k) → of_host host (take (n + k) (entries_in lent)) ≡ of_host host (take n (entries_in lent))
  passed_by n zero of = ap (λ j. of_host host (take j (entries_in lent))) (omega arith)
  passed_by n (suc k) of =
      one (cases_lt (n + k) (length (entries_in lent))) ∙ passed_by n k (λ j from to. of j from (omega (arith, to)))
    where
      one : (n + k < length (entries_in lent)) ⊎ (length (entries_in lent) ≤ n + k) → of_host host (take (n + suc k) (entries_in lent)) ≡ of_host host (take (n + k) (entries_in lent))
      one (inl within) =
          ap (λ j. of_host host (take j (entries_in lent))) (omega arith)
          ∙ of_host-take_other host (entries_in lent) (n + k) within (λ same. apart (sym (of (n + k) (omega arith) (omega arith)) ∙ sym (ap (λ (e : Entry). e.host) (read_lent lent (n + k) within)) ∙ same))
      one (inr after) = ap (of_host host) (take_all (n + suc k) (entries_in lent) (omega (arith, after)) ∙ sym (take_all (n + k) (entries_in lent) after))

  pub others_passed : (n m : ℕ) → n ≤ m → AreOf other lent.list.now n m → of_host host (take m (entries_in lent)) ≡ of_host host (take n (entries_in lent))
  others_passed n m le of =
      let place : n + (m - n) ≡ m = omega (arith, le) in
      ap (λ j. of_host host (take j (entries_in lent))) (sym place) ∙ passed_by n (m - n) (λ k from to. of k from (omega (arith, to, place)))

pub host_there : (lent : Entries) (i host : ℕ) → i < length (entries_in lent) → host ≡ (entry_at lent.list.now i).host → option_map (λ (e : Entry). e.host) (slice_get (entries_in lent) i) ≡ Some host
host_there lent i host within is =
    ap (option_map (λ (e : Entry). e.host)) (slice_get-get_or (entries_in lent) i no_entry within)
    ∙ ap Some (ap (λ (e : Entry). e.host) (read_lent lent i within) ∙ sym is)

-- the entries from a place on, and those from the next one on
drop_one : (n : ℕ) (es : List Entry) → n < length es → drop n es ≡ entry_at es n ∷ drop (n + 1) es
drop_one zero [] l = absurd (omega (arith, l))
drop_one zero (e ∷ es) l = refl
drop_one (suc n) [] l = absurd (omega (arith, l))
drop_one (suc n) (e ∷ es) l = drop_one n es (omega (arith, l)) ∙ ap (λ k. entry_at es n ∷ drop k (e ∷ es)) (let next : suc (n + 1) ≡ suc n + 1 = omega arith in next)

pub of_host-drop_same : (host n : ℕ) (es : List Entry) → n < length es → (entry_at es n).host ≡ host → of_host host (drop n es) ≡ (entry_at es n).item ∷ of_host host (drop (n + 1) es)
of_host-drop_same host n es l same = ap (of_host host) (drop_one n es l) ∙ of_host-cons_same host (entry_at es n) (drop (n + 1) es) same

of_host-drop_other : (host n : ℕ) (es : List Entry) → n < length es → (entry_at es n).host ≢ host → of_host host (drop n es) ≡ of_host host (drop (n + 1) es)
of_host-drop_other host n es l other = ap (of_host host) (drop_one n es l) ∙ of_host-cons_other host (entry_at es n) (drop (n + 1) es) other

module _ (lent : Entries) (host other : ℕ) (apart : other ≢ host) where
  -- entries of another host before a place
  left_out : (n k : ℕ) → n + k ≤ length (entries_in lent) → AreOf other lent.list.now n (n + k) → of_host host (drop n (entries_in lent)) ≡ of_host host (drop (n + k) (entries_in lent))
  left_out n zero within of = ap (λ j. of_host host (drop j (entries_in lent))) (omega arith)
  left_out n (suc k) within of =
      left_out n k (omega (arith, within)) (λ j from to. of j from (omega (arith, to)))
      ∙ of_host-drop_other host (n + k) (entries_in lent) (omega (arith, within))
      (λ same. apart (sym (of (n + k) (omega arith) (omega arith)) ∙ sym (ap (λ (e : Entry). e.host) (read_lent lent (n + k) (omega (arith, within)))) ∙ same))
      ∙ ap (λ j. of_host host (drop j (entries_in lent))) (omega arith)

  pub others_left_out : (n m : ℕ) → n ≤ m → m ≤ length (entries_in lent) → AreOf other lent.list.now n m → of_host host (drop n (entries_in lent)) ≡ of_host host (drop m (entries_in lent))
  others_left_out n m le within of =
      let place : n + (m - n) ≡ m = omega (arith, le) in
      left_out n (m - n) (omega (arith, place, within)) (λ k from to. of k from (omega (arith, to, place))) ∙ ap (λ j. of_host host (drop j (entries_in lent))) place
