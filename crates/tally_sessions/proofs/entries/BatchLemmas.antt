-- Batches and the entries that they stand for.
use Rattle.std.proofs.Common.{◌≡◌, ◌⊎◌, inl, inr, ℕ, zero, suc, ◌+◌, ◌-◌, ◌*◌, ◌<◌, ◌≤◌, List, [], ◌∷◌, ◌++◌, length, get_or, take, drop, replicate, Some, refl, sym, ap, ◌∙◌, subst, arith, length-append}
use Rattle.std.proofs.lemmas.Grind.{flat_map-append}
use Rattle.std.proofs.lemmas.List.{append-nil, get_or-append_right, get_or-map, get_or-take, length-map, length-take-le, take-append-drop, take-append-le, take_more, get_or-replicate, length-replicate}
use Rattle.std.proofs.lemmas.List.Concat.{flat_map-cons}
use Rattle.std.proofs.lemmas.Option.{slice_get-get_or}
use Rattle.std.proofs.Math.ListN.{get_or-append}
use Rattle.std.proofs.Math.Seq.{drop-cons, get_or-append_seam, take-length}
use Rattle.std.proofs.lemmas.Bool.{cases_lt}
use Rattle.std.specs.Arc.{arc_value}
use Rattle.tally_records.specs.declared.login.LoginRecord.{LoginRecord}
use Rattle.tally_sessions.specs.declared.entries.batches.StoredBatch.{StoredBatch}
use Rattle.tally_sessions.specs.declared.entry.Entry.{Entry}
use Rattle.tally_sessions.specs.inside.Entries.{entry_at, no_entry}
use Rattle.tally_sessions.specs.inside.Stored.{AreMarked, Holds, IsBatchOf, IsMark, IsPlaced, all_of, count_before, entries_of}

pub length-entries_of : (b : StoredBatch) → b.count ≤ length (arc_value b.records) → length (entries_of b) ≡ b.count
length-entries_of b fits = length-map (take b.count (arc_value b.records)) (λ (r : LoginRecord). record { host = b.host; item = r }) ∙ length-take-le b.count (arc_value b.records) fits

-- the entries before a batch, its own, and those after it
pub all-split : (bs : List StoredBatch) (k : ℕ) (d : StoredBatch) → k < length bs → all_of bs ≡ all_of (take k bs) ++ (entries_of (get_or bs k d) ++ all_of (drop (suc k) bs))
all-split bs k d lt =
    ap all_of (sym (take-append-drop k bs)) ∙ flat_map-append entries_of (take k bs) (drop k bs)
    ∙ ap (λ (rest : List StoredBatch). all_of (take k bs) ++ all_of rest) (drop-cons bs k d lt)
    ∙ ap (λ (es : List Entry). all_of (take k bs) ++ es) (flat_map-cons entries_of (get_or bs k d) (drop (suc k) bs))

pub all-last : (bs : List StoredBatch) (b : StoredBatch) → all_of (bs ++ b ∷ []) ≡ all_of bs ++ entries_of b
all-last bs b = flat_map-append entries_of bs (b ∷ []) ∙ ap (λ (es : List Entry). all_of bs ++ es) (flat_map-cons entries_of b [] ∙ append-nil (entries_of b))

-- how many entries stand before the next batch
pub before-next : (bs : List StoredBatch) (k : ℕ) (d : StoredBatch) → k < length bs → count_before bs (k + 1) ≡ count_before bs k + length (entries_of (get_or bs k d))
before-next bs k d lt = ap (λ (front : List StoredBatch). length (all_of front)) (take_more bs k d lt) ∙ ap length (all-last (take k bs) (get_or bs k d)) ∙ length-append (all_of (take k bs)) (entries_of (get_or bs k d))

pub before-le : (bs : List StoredBatch) (k : ℕ) → count_before bs k ≤ length (all_of bs)
before-le bs k =
    let whole : length (all_of bs) ≡ count_before bs k + length (all_of (drop k bs)) =
    ap (λ (xs : List StoredBatch). length (all_of xs)) (sym (take-append-drop k bs)) ∙ ap length (flat_map-append entries_of (take k bs) (drop k bs)) ∙ length-append (all_of (take k bs)) (all_of (drop k bs)) in
    omega arith

pub front-of : {X : Type 0} (xs : List X) (m n : ℕ) → m ≤ n → take m (take n xs) ≡ take m xs
front-of xs zero n le = refl
front-of xs (suc m) zero le = absurd (omega (arith, le))
front-of [] (suc m) (suc n) le = refl
front-of (x ∷ xs) (suc m) (suc n) le = ap (λ ys. x ∷ ys) (front-of xs m n (omega (arith, le)))

pub before-more : (bs : List StoredBatch) (m n : ℕ) → m ≤ n → count_before bs m ≤ count_before bs n
before-more bs m n le = subst (λ (k : ℕ). k ≤ count_before bs n) (ap (λ (front : List StoredBatch). length (all_of front)) (front-of bs m n le)) (before-le (take n bs) m)

-- an entry of a batch, by its place
own_entry : (b : StoredBatch) (i : ℕ) → i < b.count → b.count ≤ length (arc_value b.records) → get_or (entries_of b) i no_entry ≡ record { host = b.host; item = get_or (arc_value b.records) i no_entry.item }
own_entry b i lt fits =
    let rs = arc_value b.records in
    let long : i < length (take b.count rs) = omega (arith, lt, length-take-le b.count rs fits) in
    get_or-map (λ (r : LoginRecord). record { host = b.host; item = r }) (take b.count rs) i no_entry.item no_entry long
    ∙ ap (λ (r : LoginRecord). record { host = b.host; item = r }) (get_or-take b.count rs i no_entry.item lt)

entry_in : (bs : List StoredBatch) (k : ℕ) (b : StoredBatch) (i : ℕ) → k < length bs → b ≡ get_or bs k b → IsPlaced bs k b → b.first ≤ i → i < b.first + b.count
    → entry_at (all_of bs) i ≡ record { host = b.host; item = get_or (arc_value b.records) (i - b.first) no_entry.item }
entry_in bs k b i lt is placed from to =
    let front : List Entry = all_of (take k bs) in
    let back : List Entry = all_of (drop (suc k) bs) in
    let fits = placed.stored in
    let split : all_of bs ≡ front ++ (entries_of b ++ back) = all-split bs k b lt ∙ ap (λ (x : StoredBatch). front ++ (entries_of x ++ back)) (sym is) in
    let own : i - b.first < length (entries_of b) = omega (arith, length-entries_of b fits) in
    ap (λ (es : List Entry). entry_at es i) split
    ∙ get_or-append_right front (entries_of b ++ back) b.first i no_entry (sym placed.first) from
    ∙ get_or-append (entries_of b) back no_entry (i - b.first) own
    ∙ own_entry b (i - b.first) (omega arith) fits

pub placed-holds : (bs : List StoredBatch) (k : ℕ) (b : StoredBatch) → k < length bs → b ≡ get_or bs k b → IsPlaced bs k b → Holds (all_of bs) b
placed-holds bs k b lt is placed =
    let fits = placed.stored in
    let own : length (entries_of (get_or bs k b)) ≡ b.count = ap (λ (x : StoredBatch). length (entries_of x)) (sym is) ∙ length-entries_of b fits in record {
      within = omega (arith, placed.first, before-le bs (k + 1), before-next bs k b lt, own);
      host = λ i from to. ap (λ (e : Entry). e.host) (entry_in bs k b i lt is placed from to);
      item = λ i from to.
          slice_get-get_or (arc_value b.records) (i - b.first) no_entry.item (omega (arith, fits, from, to))
          ∙ ap (λ (e : Entry). Some e.item) (sym (entry_in bs k b i lt is placed from to));
    }

-- where the batch of an entry begins and ends
pub batch-from : (bs : List StoredBatch) (at k : ℕ) (b : StoredBatch) → b ≡ get_or bs k b → IsPlaced bs k b → IsBatchOf bs at k → b.first ≤ at
batch-from bs at k b is placed of = omega (arith, placed.first, of.from)

pub batch-to : (bs : List StoredBatch) (at k : ℕ) (b : StoredBatch) → b ≡ get_or bs k b → IsPlaced bs k b → IsBatchOf bs at k → at < b.first + b.count
batch-to bs at k b is placed of =
    let own : length (entries_of (get_or bs k b)) ≡ b.count = ap (λ (x : StoredBatch). length (entries_of x)) (sym is) ∙ length-entries_of b placed.stored in
    omega (arith, placed.first, of.to, before-next bs k b of.names, own)

-- one more batch, and its marks
front-same : (bs : List StoredBatch) (b : StoredBatch) (k : ℕ) → k ≤ length bs → count_before (bs ++ b ∷ []) k ≡ count_before bs k
front-same bs b k le = ap (λ (front : List StoredBatch). length (all_of front)) (take-append-le k bs (b ∷ []) le)

last-before : (bs : List StoredBatch) (b : StoredBatch) → count_before (bs ++ b ∷ []) (length bs) ≡ length (all_of bs)
last-before bs b = front-same bs b (length bs) (omega arith) ∙ ap (λ (front : List StoredBatch). length (all_of front)) (take-length bs)

pub one-more : (bs : List StoredBatch) (ms : List ℕ) (b : StoredBatch) (number n : ℕ) → AreMarked bs ms → number ≡ length bs → b.first ≡ length (all_of bs) → b.count ≤ length (arc_value b.records)
    → length (all_of bs) + b.count ≤ 16 * (length ms + n) → AreMarked (bs ++ b ∷ []) (ms ++ replicate n number)
one-more bs ms b number n h last first fits reach = record {
  placed = λ k d lt. by k d lt (cases_lt k (length bs));
  mark = λ j lt. marked j lt (cases_lt j (length ms));
  reach = omega (arith, reach, ap length (all-last bs b), length-append (all_of bs) (entries_of b), length-entries_of b fits, length-append ms (replicate n number), length-replicate n number);
}
  where
    by : (k : ℕ) (d : StoredBatch) → k < length (bs ++ b ∷ []) → (k < length bs) ⊎ (length bs ≤ k) → IsPlaced (bs ++ b ∷ []) k (get_or (bs ++ b ∷ []) k d)
    by k d lt (inl old) =
        let old_is = h.placed k d old in
        subst (IsPlaced (bs ++ b ∷ []) k) (sym (get_or-append bs (b ∷ []) d k old)) (record { first = old_is.first ∙ sym (front-same bs b k (omega arith)); stored = old_is.stored })
    by k d lt (inr new) =
        let at : length bs ≡ k = omega (arith, new, lt, length-append bs (b ∷ [])) in
        subst (λ (i : ℕ). IsPlaced (bs ++ b ∷ []) i (get_or (bs ++ b ∷ []) i d)) at
        (subst (IsPlaced (bs ++ b ∷ []) (length bs)) (sym (get_or-append_seam bs b [] d)) (record { first = first ∙ sym (last-before bs b); stored = fits }))

    marked : (j : ℕ) → j < length (ms ++ replicate n number) → (j < length ms) ⊎ (length ms ≤ j) → IsMark (bs ++ b ∷ []) j (get_or (ms ++ replicate n number) j 0)
    marked j lt (inl old) =
        let old_is = h.mark j old in
        subst (IsMark (bs ++ b ∷ []) j) (sym (get_or-append ms (replicate n number) 0 j old))
        (record { names = omega (arith, old_is.names, length-append bs (b ∷ [])); early = subst (λ (c : ℕ). c ≤ 16 * j) (sym (front-same bs b (get_or ms j 0) (omega (arith, old_is.names)))) old_is.early })
    marked j lt (inr new) =
        let within : j - length ms < n = omega (arith, lt, length-append ms (replicate n number), length-replicate n number, new) in
        subst (IsMark (bs ++ b ∷ []) j) (sym (get_or-append_right ms (replicate n number) (length ms) j 0 refl new ∙ get_or-replicate n (j - length ms) number 0 within))
        (record { names = omega (arith, last, length-append bs (b ∷ [])); early = omega (arith, ap (count_before (bs ++ b ∷ [])) last, last-before bs b, h.reach, new) })
