-- The first so many entries, in batches.
use Rattle.std.proofs.Common.{◌≡◌, ◌⊎◌, inl, inr, ℕ, suc, ◌+◌, ◌-◌, ◌*◌, ◌<◌, ◌≤◌, List, [], ◌∷◌, ◌++◌, map, length, get_or, set, take, drop, sym, ap, ◌∙◌, subst, arith, length-append}
use Rattle.std.proofs.lemmas.List.{append-nil, get_or-take, length-take, length-take-le, take-append-le, take-map, take_more_set, take-set}
use Rattle.std.proofs.Math.ListN.{get_or-append}
use Rattle.std.proofs.Math.Seq.{get_or-append_seam, take-append-add}
use Rattle.std.proofs.lemmas.Bool.{cases_lt}
use Rattle.std.specs.Arc.{arc_value}
use Rattle.tally_records.specs.declared.login.LoginRecord.{LoginRecord}
use Rattle.tally_sessions.specs.declared.entries.batches.StoredBatch.{StoredBatch}
use Rattle.tally_sessions.specs.declared.entry.Entry.{Entry}
use Rattle.tally_sessions.specs.Hosts.{posted_by}
use Rattle.tally_sessions.specs.inside.Stored.{AreMarked, IsMark, IsPlaced, all_of, count_before, entries_of}
use Rattle.tally_sessions.proofs.entries.BatchLemmas.{all-last, all-split, before-le, before-more, front-of, length-entries_of}

module _ (bs : List StoredBatch) (number count rest : ℕ) (b : StoredBatch) (there : number < length bs) (is : b ≡ get_or bs number b) (placed : IsPlaced bs number b) (from : b.first ≤ count) (left : rest ≡ count - b.first) (part : rest < b.count) where
  abbrev less : StoredBatch
  less = record b { count = rest }

  front-entries : take count (all_of bs) ≡ all_of (take number bs) ++ entries_of less
  front-entries =
      let before : List Entry = all_of (take number bs) in
      let after : List Entry = all_of (drop (suc number) bs) in
      let at : count ≡ length before + rest = omega (arith, placed.first, left, from) in
      let own : rest ≤ length (entries_of b) = omega (arith, part, length-entries_of b placed.stored) in
      let split : all_of bs ≡ before ++ (entries_of b ++ after) = all-split bs number b there ∙ ap (λ (x : StoredBatch). before ++ (entries_of x ++ after)) (sym is) in
      let one : LoginRecord → Entry = λ r. record { host = b.host; item = r } in
      (λ i. take (at i) (split i)) ∙ take-append-add before (entries_of b ++ after) rest
      ∙ ap (λ (es : List Entry). before ++ es)
      (take-append-le rest (entries_of b) after own ∙ take-map one rest (take b.count (arc_value b.records)) ∙ ap (map one) (front-of (arc_value b.records) rest b.count (omega (arith, part))))

  -- the batches that are left: those before it, and the rest of it, if there is any
  module _ (bs' : List StoredBatch) (m : ℕ) (left_are : bs' ≡ take m (set bs number less)) (either : ((rest ≡ 0) × (m ≡ number)) ⊎ (m ≡ number + 1)) where
    abbrev Left : Type 0
    Left = ((rest ≡ 0) × (bs' ≡ take number bs)) ⊎ (bs' ≡ take number bs ++ less ∷ [])

    left_by : Left
    left_by = by either
      where
        by : ((rest ≡ 0) × (m ≡ number)) ⊎ (m ≡ number + 1) → Left
        by (inl none) = inl (none.0, left_are ∙ ap (λ (k : ℕ). take k (set bs number less)) none.1 ∙ take-set bs number less)
        by (inr some) = inr (left_are ∙ ap (λ (k : ℕ). take k (set bs number less)) some ∙ take_more_set bs number less there)

    pub front-all : all_of bs' ≡ take count (all_of bs)
    front-all = by left_by ∙ sym front-entries
      where
        by : Left → all_of bs' ≡ all_of (take number bs) ++ entries_of less
        by (inl none) = ap all_of none.1 ∙ sym (append-nil (all_of (take number bs))) ∙ ap (λ (k : ℕ). all_of (take number bs) ++ posted_by b.host (take k (arc_value b.records))) (sym none.0)
        by (inr some) = ap all_of some ∙ all-last (take number bs) less

    fronts : (k : ℕ) → k ≤ number → take k bs' ≡ take k bs
    fronts k le = by left_by
      where
        by : Left → take k bs' ≡ take k bs
        by (inl none) = ap (take k) none.1 ∙ front-of bs k number le
        by (inr some) = ap (take k) some ∙ take-append-le k (take number bs) (less ∷ []) (omega (arith, le, there, length-take-le number bs (omega (arith, there)))) ∙ front-of bs k number le

    before-kept : (k : ℕ) → k ≤ number → count_before bs' k ≡ count_before bs k
    before-kept k le = ap (λ (front : List StoredBatch). length (all_of front)) (fronts k le)

    pub front-marked : (ms ms' : List ℕ) (n : ℕ) → AreMarked bs ms → count < count_before bs (number + 1) → ms' ≡ take n ms → 16 * n < count + 16 → count ≤ 16 * n → AreMarked bs' ms'
    front-marked ms ms' n h to marks_are near far = record {
      placed = λ k d lt. by k d lt left_by;
      mark = λ j lt.
          let short : j < n = omega (arith, lt, ap length marks_are, length-take n ms) in
          let old : j < length ms = omega (arith, lt, ap length marks_are, length-take n ms) in
          let mark = h.mark j old in
          let names : get_or ms j 0 ≤ number = at_most j mark (omega (arith, short, near)) in
          subst (IsMark bs' j) (sym (ap (λ (xs : List ℕ). get_or xs j 0) marks_are ∙ get_or-take n ms j 0 short))
          (record { names = named (get_or ms j 0) names (omega (arith, mark.early, short, near)) left_by; early = subst (λ (c : ℕ). c ≤ 16 * j) (sym (before-kept (get_or ms j 0) names)) mark.early });
      reach =
          let all : length (all_of bs') ≡ count = ap length front-all ∙ length-take-le count (all_of bs) (omega (arith, to, before-le bs (number + 1))) in
          omega (arith, all, ap length marks_are, length-take n ms, far, h.reach, to, before-le bs (number + 1));
    }
      where
        by : (k : ℕ) (d : StoredBatch) → k < length bs' → Left → IsPlaced bs' k (get_or bs' k d)
        by k d lt (inl none) =
            let within : k < number = omega (arith, lt, ap length none.1, length-take number bs) in
            let old = h.placed k d (omega (arith, within, there)) in
            subst (IsPlaced bs' k) (sym (ap (λ (xs : List StoredBatch). get_or xs k d) none.1 ∙ get_or-take number bs k d within))
            (record { first = old.first ∙ sym (before-kept k (omega (arith, within))); stored = old.stored })
        by k d lt (inr some) = each (cases_lt k number)
          where
            long : length (take number bs) ≡ number
            long = length-take-le number bs (omega (arith, there))

            each : (k < number) ⊎ (number ≤ k) → IsPlaced bs' k (get_or bs' k d)
            each (inl within) =
                let old = h.placed k d (omega (arith, within, there)) in
                subst (IsPlaced bs' k) (sym (ap (λ (xs : List StoredBatch). get_or xs k d) some ∙ get_or-append (take number bs) (less ∷ []) d k (omega (arith, within, long)) ∙ get_or-take number bs k d within))
                (record { first = old.first ∙ sym (before-kept k (omega (arith, within))); stored = old.stored })
            each (inr after) =
                let at : length (take number bs) ≡ k = omega (arith, after, lt, ap length some, length-append (take number bs) (less ∷ []), long) in
                subst (IsPlaced bs' k) (sym (ap (λ (xs : List StoredBatch). get_or xs k d) some ∙ ap (λ (i : ℕ). get_or (take number bs ++ less ∷ []) i d) (sym at) ∙ get_or-append_seam (take number bs) less [] d))
                (record { first = placed.first ∙ ap (count_before bs) (sym long ∙ at) ∙ sym (before-kept k (omega (arith, at, long))); stored = omega (arith, part, placed.stored) })

        at_most : (j : ℕ) → IsMark bs j (get_or ms j 0) → 16 * j < count → get_or ms j 0 ≤ number
        at_most j mark early = each (cases_lt number (get_or ms j 0))
          where
            each : (number < get_or ms j 0) ⊎ (get_or ms j 0 ≤ number) → get_or ms j 0 ≤ number
            each (inl more) = absurd (omega (arith, mark.early, early, to, before-more bs (number + 1) (get_or ms j 0) (omega (arith, more))))
            each (inr le) = le

        named : (mark : ℕ) → mark ≤ number → count_before bs mark < count → Left → mark < length bs'
        named mark le early (inl none) = each (cases_lt mark number)
          where
            each : (mark < number) ⊎ (number ≤ mark) → mark < length bs'
            each (inl lt) = omega (arith, lt, ap length none.1, length-take-le number bs (omega (arith, there)))
            each (inr ge) = let same : mark ≡ number = omega (arith, le, ge) in absurd (omega (arith, early, ap (count_before bs) same, placed.first, left, none.0, from))
        named mark le early (inr some) = omega (arith, le, ap length some, length-append (take number bs) (less ∷ []), length-take-le number bs (omega (arith, there)))
