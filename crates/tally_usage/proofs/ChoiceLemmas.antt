-- The chosen of some records.
use Rattle.std.proofs.Common.{◌≡◌, ◌∷◌, ◌+◌, ◌++◌, ◌<◌, ◌≤◌, ℕ, ℤ, Bool, true, false, ◌&&◌, ◌||◌, not, cond, List, [], Option, Some, None, ap, append-nil, arith, get_or, is_some, length, length-append, pos, refl, subst, sym, take, ◌∙◌}
use Rattle.std.proofs.lemmas.Bool.{false≢true}
use Rattle.std.proofs.lemmas.List.{append_assoc, length-take}
use Rattle.std.proofs.lemmas.List.Elements.{filter_more}
use Rattle.std.proofs.lemmas.List.Filters.{length-filter_both}
use Rattle.std.specs.List.{list_any}
use Rattle.tally_records.specs.Choice.{names_nothing}
use Rattle.tally_records.specs.Period.{is_always, is_within}
use Rattle.tally_records.specs.declared.period.Period.{Period}
use Rattle.tally_records.specs.declared.process.ProcRecord.{ProcRecord}
use Rattle.tally_usage.specs.Choice.{chosen, is_chosen, is_every_proc, is_number, is_number_among}
use Rattle.tally_usage.specs.Sums.{AreSumsOf, Counted, CountsMore}
use Rattle.tally_usage.specs.declared.choice.ProcChoice.{ProcChoice}
use Rattle.tally_usage.proofs.SumsLemmas.{count_is}

-- ---- where all are chosen

both : (a b : Bool) → (a && b) ≡ true → (a ≡ true) × (b ≡ true)
both true b h = (refl, h)
both false b h = absurd (false≢true h)

always_within : (period : Period) (time : ℤ) → is_always period ≡ true → is_within period time ≡ true
always_within period time h = by period.from period.to h
  where
    by : (from to : Option ℤ) → (not (is_some from) && not (is_some to)) ≡ true → is_within (record { from = from; to = to }) time ≡ true
    by None None h = refl
    by None (Some to) h = absurd (false≢true h)
    by (Some from) to h = absurd (false≢true h)

nothing_named : (uids : List (Option ℕ)) (uid : ℕ) → names_nothing uids ≡ true → is_number_among uids uid ≡ true
nothing_named uids uid h = ap (λ b. b || list_any (is_number uid) uids) h

pub every_is_chosen : (choice : ProcChoice) → is_every_proc choice ≡ true → (r : ProcRecord) → is_chosen choice r ≡ true
every_is_chosen choice h r =
    let parts = both (names_nothing choice.uids) (is_always choice.period) h in
    (λ i. nothing_named choice.uids r.uid parts.0 i && always_within choice.period (pos r.begin) parts.1 i)

-- none is left out
pub every_chosen : (choice : ProcChoice) → is_every_proc choice ≡ true → (rs : List ProcRecord) → chosen choice rs ≡ rs
every_chosen choice h [] = refl
every_chosen choice h (r ∷ rs) = ap (λ b. cond b (r ∷ chosen choice rs) (chosen choice rs)) (every_is_chosen choice h r) ∙ ap (λ l. r ∷ l) (every_chosen choice h rs)

-- ---- how many are chosen

pub length-chosen : (choice : ProcChoice) (rs : List ProcRecord) → length (chosen choice rs) ≤ length rs
length-chosen choice rs = omega (arith, length-filter_both (is_chosen choice) (λ r. not (is_chosen choice r)) (λ r. refl) rs)

-- ---- counting the chosen, one by one

module _ (choice : ProcChoice) (records : List ProcRecord) (old : Counted) where
  -- the chosen of the first so many records are counted
  abbrev pub HasCountedTo : ℕ → Counted → Type 0
  HasCountedTo i now = CountsMore old now (chosen choice (take i records))

  pub none_to : HasCountedTo 0 old
  none_to rs sums = subst (AreSumsOf old) (sym (append-nil rs)) sums

  module _ (i : ℕ) (d : ProcRecord) (within : i < length records) (now : Counted) (before : HasCountedTo i now) where
    pub one_to : (new : Counted) → is_chosen choice (get_or records i d) ≡ true → CountsMore now new (get_or records i d ∷ []) → HasCountedTo (i + 1) new
    one_to new is more rs sums =
        subst (AreSumsOf new)
        (append_assoc rs (chosen choice (take i records)) (get_or records i d ∷ [])
        ∙ ap (λ l. rs ++ l) (ap (λ b. chosen choice (take i records) ++ cond b (get_or records i d ∷ []) []) (sym is) ∙ sym (filter_more (is_chosen choice) records i d within)))
        (more (rs ++ chosen choice (take i records)) (before rs sums))

    pub passed_to : is_chosen choice (get_or records i d) ≡ false → HasCountedTo (i + 1) now
    passed_to is rs sums =
        subst (λ l. AreSumsOf now (rs ++ l))
        (sym (filter_more (is_chosen choice) records i d within ∙ ap (λ b. chosen choice (take i records) ++ cond b (get_or records i d ∷ []) []) is ∙ append-nil _))
        (before rs sums)

  -- how many are counted then
  pub count_to : (i : ℕ) (now : Counted) (rs : List ProcRecord) → AreSumsOf old rs → HasCountedTo i now → now.total.count ≤ old.total.count + i
  count_to i now rs sums counted =
      omega (arith, count_is now (rs ++ chosen choice (take i records)) (counted rs sums), length-append rs (chosen choice (take i records)), count_is old rs sums, length-chosen choice (take i records), length-take i records)
