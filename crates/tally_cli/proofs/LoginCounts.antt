-- Counts of files of login records: how many records there are so far, and what the first that is not taken shows.
use Rattle.std.proofs.Common.{◌≡◌, ◌∙◌, ◌≤◌, ◌<◌, ◌+◌, ◌*◌, ◌%◌, ◌⊎◌, inl, inr, ℕ, zero, suc, List, [], ◌∷◌, ◌++◌, length, set, ap, sym, subst, refl, arith, length-append}
use Rattle.std.proofs.lemmas.Bool.{cases_lt}
use Rattle.std.proofs.lemmas.List.{get_or-set_other, get_or-set_same, get_or_append_left, get_or_at, length-set}
use Rattle.std.proofs.lemmas.List.Sums.{sum_by_push}
use Rattle.std.specs.Prelude.{sum_by}
use Rattle.tally_sessions.specs.ConnectSums.{Counted}
use Rattle.tally_cli.specs.declared.fault.RunFault.{RunFault}
use Rattle.tally_cli.specs.declared.fault.RunFault.TheVariants.{Asker, Callers, File, Memory, Write}
use Rattle.tally_cli.specs.declared.running.files.Count.TheVariants as count
use Rattle.tally_cli.specs.inside.Files.{AreExplained, HasSums, IsFault, counts_of}
use Rattle.tally_cli.specs.inside.LoginCounts.{AreTaken, HasFault, IsFirstNotTaken, IsNotTaken, IsTakeFault, IsTooMany, LoginCount, LoginFile, StopsAt, counted_before, counted_of}
use Rattle.tally_cli.specs.Reading.{IsUnprinted}
use Rattle.tally_cli.proofs.Counted.{counts_at}

-- ---- how many records there are so far

pub counted_none : (at : ℕ → LoginCount) → counted_before at 0 ≡ 0
unfolding counted_before
counted_none at = refl

pub counted_next : (at : ℕ → LoginCount) (n : ℕ) → counted_before at (n + 1) ≡ counted_before at n + counted_of (at n)
unfolding counted_before
counted_next at n = let e : n + 1 ≡ suc n = omega arith in ap (counted_before at) e

counted_alike : (at on : ℕ → LoginCount) (n : ℕ) → ((k : ℕ) → k < n → at k ≡ on k) → counted_before at n ≡ counted_before on n
unfolding counted_before
counted_alike at on zero same = refl
counted_alike at on (suc n) same = λ i. counted_alike at on n (λ k l. same k (omega (arith, l))) i + counted_of (same n (omega arith) i)

counted_up_to : (at : ℕ → LoginCount) (m n : ℕ) → m ≤ n → counted_before at m ≤ counted_before at n
unfolding counted_before
counted_up_to at m zero l = let e : m ≡ zero = omega (arith, l) in subst (λ k. counted_before at k ≤ 0) (sym e) (omega arith)
counted_up_to at m (suc n) l = elim (cases_lt m (suc n)) [
  | inl less ↦ let rest = counted_up_to at m n (omega (arith, less)) in omega (arith, rest)
  | inr all ↦ let e : m ≡ suc n = omega (arith, l, all) in subst (λ k. counted_before at k ≤ counted_before at n + counted_of (at n)) (sym e) (omega arith)
]

-- a feeder's records are among those of all files before a place
own_counted : (at : ℕ → LoginCount) (n w j m : ℕ) → 0 < n → j * n + w < m → counted_before (λ place. at (place * n + w)) (j + 1) ≤ counted_before at m
own_counted at n w zero m some near =
    let own = counted_next (λ place. at (place * n + w)) 0 in
    let none = counted_none (λ place. at (place * n + w)) in
    let here : zero * n + w ≡ w = omega arith in
    let there = ap (λ k. counted_of (at k)) here in
    let next = counted_next at w in
    let below = counted_up_to at (w + 1) m (omega (arith, near, here)) in
    omega (arith, own, none, there, next, below)
own_counted at n w (suc j) m some near =
    let own = counted_next (λ place. at (place * n + w)) (suc j) in
    let times : suc j * n ≡ j * n + n = omega arith in
    let before = own_counted at n w j (suc j * n + w) some (omega (arith, times, some)) in
    let same : j + 1 ≡ suc j = omega arith in
    let first = ap (counted_before (λ place. at (place * n + w))) same in
    let next = counted_next at (suc j * n + w) in
    let below = counted_up_to at ((suc j * n + w) + 1) m (omega (arith, near)) in
    omega (arith, own, before, first, next, below)

-- one file more of a list
pub list_counted : {I : Type 0} (us : List (LoginFile I)) (at : ℕ) (u : LoginFile I) → at < length us → counted_before (counts_of (set us at u)) (at + 1) ≡ counted_before (counts_of us) at + counted_of u.count
list_counted us at u near =
    let within : at < length (set us at u) = omega (arith, near, length-set us at u) in
    let own : counts_of (set us at u) at ≡ u.count = counts_at (set us at u) at u within ∙ ap (λ (f : LoginFile _). f.count) (get_or-set_same us at u u near) in
    let first = counted_alike (counts_of (set us at u)) (counts_of us) at (λ k l.
    counts_at (set us at u) k u (omega (arith, l, within)) ∙ ap (λ (f : LoginFile _). f.count) (get_or-set_other us at k u u (λ same. omega (arith, same, l)))
    ∙ sym (counts_at us k u (omega (arith, l, near)))) in
    let next = counted_next (counts_of (set us at u)) at in
    omega (arith, next, first, ap counted_of own)

-- one count more among those that were taken
pub sum_more : (counts : List Counted) (sums : Counted) (before n : ℕ) → sum_by (λ (c : Counted). c.count) counts ≡ before → n ≡ sums.count → sum_by (λ (c : Counted). c.count) (counts ++ sums ∷ []) ≡ before + n
sum_more counts sums before n all own = omega (arith, sum_by_push (λ (c : Counted). c.count) counts sums, all, own)

-- ---- one count more

sums_or_fault : (c : LoginCount) → (HasSums c ⊎ IsFault c) ⊎ (c ≡ count.Untried)
sums_or_fault count.Untried = inr refl
sums_or_fault (count.Sums sums) = inl (inl tt)
sums_or_fault (count.Fault found) = inl (inr tt)

fault_or_sums : (c : LoginCount) → HasSums c → IsFault c → ⊥
fault_or_sums count.Untried has is = has
fault_or_sums (count.Sums sums) has is = is
fault_or_sums (count.Fault found) has is = has

pub never_untried : (c : LoginCount) → HasSums c ⊎ IsFault c → c ≡ count.Untried → ⊥
never_untried c (inl has) is = subst HasSums is has
never_untried c (inr fault) is = subst IsFault is fault

has_sums : (c : LoginCount) (sums : Counted) → c ≡ count.Sums sums → HasSums c
has_sums c sums is = subst HasSums (sym is) tt

pub all_taken : (files : ℕ) (at : ℕ → LoginCount) (counts : List Counted) → AreTaken files at counts → (k : ℕ) → k < files → HasSums (at k)
all_taken files at [] taken k l = absurd (omega (arith, l, taken.length_is))
all_taken files at (c ∷ cs) taken k l = has_sums (at k) _ (taken.each k c l)

-- the next count was tried
pub tried : (room n files : ℕ) (at : ℕ → LoginCount) (host : ℕ) → 0 < n → AreExplained (StopsAt room) n files at → host < files → ((k : ℕ) → k < host → HasSums (at k)) → counted_before at host ≤ room → HasSums (at host) ⊎ IsFault (at host)
tried room n files at host some explained near all few = elim (sums_or_fault (at host)) [
  | inl known ↦ known
  | inr untried ↦
      let earlier = explained host near untried in
      absurd (elim earlier.2 [
        | inl fault ↦ fault_or_sums (at (earlier.0 * n + host % n)) (all (earlier.0 * n + host % n) earlier.1) fault
        | inr over ↦ let own = own_counted at n (host % n) earlier.0 host some earlier.1 in omega (arith, own, over, few)
      ])
]

module _ (room files : ℕ) (at : ℕ → LoginCount) (host : ℕ) (near : host < files) (c : LoginCount) (is : c ≡ at host) (counts : List Counted) (taken : AreTaken host at counts) where
  pub taken_more : (sums : Counted) → c ≡ count.Sums sums → AreTaken (host + 1) at (counts ++ sums ∷ [])
  taken_more sums own = record {
    length_is = length-append counts (sums ∷ []) ∙ ap (λ n. n + 1) taken.length_is;
    each = λ k d l. elim (cases_lt k host) [
      | inl first ↦ taken.each k d first ∙ ap count.Sums (sym (get_or_append_left counts (sums ∷ []) d k (omega (arith, first, taken.length_is))))
      | inr last ↦
          let here : k ≡ host = omega (arith, l, last) in
          ap at here ∙ sym is ∙ own ∙ ap count.Sums (sym (get_or_at counts sums [] d k (taken.length_is ∙ sym here)))
    ];
  }

  pub counted_more : (sums : Counted) (before after : ℕ) → c ≡ count.Sums sums → before ≡ counted_before at host → after ≡ before + sums.count → after ≡ counted_before at (host + 1)
  counted_more sums before after own same more =
      let next = counted_next at host in
      let here = ap counted_of (sym is ∙ own) in
      omega (arith, next, here, same, more)

  -- why it was not taken, in the words of all counts
  pub take_fault : (before : ℕ) → before ≡ counted_before at host → before ≤ room → (found : RunFault) → IsNotTaken room host before c found → IsTakeFault room files at found
  take_fault before same few Memory own = absurd own
  take_fault before same few (Callers callers) own = absurd own
  take_fault before same few (File number found) own = subst (λ n. IsFirstNotTaken room files at n found) (sym own.0) (record {
    near = near;
    earlier = all_taken host at counts taken;
    few = subst (λ n. n ≤ room) same few;
    own = subst (λ n. IsTooMany room n (at host) found ⊎ HasFault (at host) found) same (subst (λ d. IsTooMany room before d found ⊎ HasFault d found) is own.1);
  })
  take_fault before same few (Asker caller found) own = absurd own
  take_fault before same few Write own = absurd own

-- nothing was printed of it
pub unprinted : (room files : ℕ) (at : ℕ → LoginCount) (found : RunFault) → IsTakeFault room files at found → IsUnprinted found
unprinted room files at Memory own = tt
unprinted room files at (Callers callers) own = tt
unprinted room files at (File host found) own = tt
unprinted room files at (Asker caller found) own = tt
unprinted room files at Write own = absurd own
