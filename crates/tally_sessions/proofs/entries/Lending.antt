-- Entries that are lent, by the list that lends them.
use Rattle.std.proofs.Common.{◌≡◌, ℕ, zero, suc, ◌+◌, ◌<◌, ◌≤◌, List, [], ◌∷◌, length, take, drop, slice_get, Option, None, Some, refl, sym, ap, ◌∙◌, arith}
use Rattle.std.proofs.lemmas.List.{drop_all, get_or-take, length-take}
use Rattle.tally_sessions.specs.declared.entries.Entries.{Entries}
use Rattle.tally_sessions.specs.declared.entry.Entry.{Entry}
use Rattle.tally_sessions.specs.inside.Entries.{entry_at, no_entry}
use Rattle.tally_sessions.specs.Lent.{entries_in}

pub read_lent : (lent : Entries) (i : ℕ) → i < length (entries_in lent) → entry_at (entries_in lent) i ≡ entry_at lent.list.now i
unfolding entries_in
read_lent lent i l = get_or-take lent.count lent.list.now i no_entry (omega (arith, l, length-take lent.count lent.list.now))

pub within_list : (lent : Entries) (i : ℕ) → i < length (entries_in lent) → i < length lent.list.now
unfolding entries_in
within_list lent i l = omega (arith, l, length-take lent.count lent.list.now)

front_get : (n i : ℕ) (es : List Entry) → i < n → slice_get (take n es) i ≡ slice_get es i
front_get zero i es l = absurd (omega (arith, l))
front_get (suc n) i [] l = refl
front_get (suc n) zero (e ∷ es) l = refl
front_get (suc n) (suc i) (e ∷ es) l = front_get n i es (omega (arith, l))

front_none : (n i : ℕ) (es : List Entry) → n ≤ i → slice_get (take n es) i ≡ None
front_none zero i es l = refl
front_none (suc n) i [] l = refl
front_none (suc n) zero (e ∷ es) l = absurd (omega (arith, l))
front_none (suc n) (suc i) (e ∷ es) l = front_none n i es (omega (arith, l))

pub get_front : (lent : Entries) (i : ℕ) (o : Option Entry) → o ≡ slice_get lent.list.now i → i < lent.count → o ≡ slice_get (entries_in lent) i
unfolding entries_in
get_front lent i o e l = e ∙ sym (front_get lent.count i lent.list.now l)

pub get_after : (lent : Entries) (i : ℕ) → lent.count ≤ i → None ≡ slice_get (entries_in lent) i
unfolding entries_in
get_after lent i l = sym (front_none lent.count i lent.list.now l)

-- what is left after an entry was read
drop_none : (n : ℕ) (es : List Entry) → slice_get es n ≡ None → drop n es ≡ []
drop_none zero [] e = refl
drop_none zero (x ∷ es) e = cc
drop_none (suc n) [] e = refl
drop_none (suc n) (x ∷ es) e = drop_none n es e

drop_some : (n : ℕ) (es : List Entry) (x : Entry) → slice_get es n ≡ Some x → drop n es ≡ x ∷ drop (suc n) es
drop_some n [] x e = cc
drop_some zero (y ∷ es) x e = by y x e
  where
    by : (u v : Entry) → Some u ≡ Some v → u ∷ es ≡ v ∷ es
    by u v h = cc
drop_some (suc n) (y ∷ es) x e = drop_some n es x e

pub all_left : (lent : Entries) (n m : ℕ) → m ≡ length (entries_in lent) → m ≤ n → drop n (entries_in lent) ≡ []
all_left lent n m e l = drop_all n (entries_in lent) (omega (arith, e, l))

pub none_left : (lent : Entries) (n : ℕ) (o : Option Entry) → o ≡ slice_get (entries_in lent) n → o ≡ None → drop n (entries_in lent) ≡ []
none_left lent n o e f = drop_none n (entries_in lent) (sym e ∙ f)

pub one_left : (lent : Entries) (n : ℕ) (o : Option Entry) (x : Entry) → o ≡ slice_get (entries_in lent) n → o ≡ Some x → drop n (entries_in lent) ≡ x ∷ drop (n + 1) (entries_in lent)
one_left lent n o x e f =
    let next : suc n ≡ n + 1 = omega arith in
    drop_some n (entries_in lent) x (sym e ∙ f) ∙ ap (λ (k : ℕ). x ∷ drop k (entries_in lent)) next

pub less_left : (lent : Entries) (n : ℕ) (o : Option Entry) (x : Entry) → o ≡ slice_get (entries_in lent) n → o ≡ Some x → length (drop (n + 1) (entries_in lent)) < length (drop n (entries_in lent))
less_left lent n o x e f = omega (arith, ap length (one_left lent n o x e f))
