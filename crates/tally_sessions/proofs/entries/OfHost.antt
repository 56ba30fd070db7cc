-- The entries of one host, batch by batch.
use Rattle.std.proofs.Common.{◌≡◌, ◌≢◌, ◌⊎◌, inl, inr, ℕ, ◌+◌, ◌-◌, ◌<◌, ◌≤◌, List, [], ◌∷◌, ◌++◌, length, get_or, map, min, take, refl, sym, ap, ◌∙◌, subst, arith, ◌==◌}
use Rattle.std.proofs.lemmas.Bool.{cases_lt}
use Rattle.std.proofs.lemmas.List.{append-nil, length-take, take-append-le, take-map, take-take, take_all, take_more}
use Rattle.std.proofs.lemmas.List.Elements.{filter-append}
use Rattle.std.proofs.lemmas.List.Sums.{count_by-le-length, length-filter}
use Rattle.std.proofs.Math.Seq.{take-append-add}
use Rattle.std.specs.Arc.{arc_value}
use Rattle.tally_records.specs.declared.login.LoginRecord.{LoginRecord}
use Rattle.tally_sessions.specs.declared.entries.batches.StoredBatch.{StoredBatch}
use Rattle.tally_sessions.specs.declared.entry.Entry.{Entry}
use Rattle.tally_sessions.specs.Hosts.{entries_of_host, posted_by}
use Rattle.tally_sessions.specs.inside.Stored.{AreMarked, IsPlaced, all_of, count_before, entries_of}
use Rattle.tally_sessions.proofs.entries.BatchLemmas.{all-last, placed-holds}
use Rattle.tally_sessions.proofs.sessions.HostSteps.{is_other, is_same}

-- records under their host are all of it
posted_same : (host : ℕ) (rs : List LoginRecord) → entries_of_host host (posted_by host rs) ≡ posted_by host rs
posted_same host [] = refl
posted_same host (r ∷ rs) =
    let t = is_same host host refl in
    rw t (ap (λ (es : List Entry). record { host = host; item = r } ∷ es) (posted_same host rs))

-- and none of another
posted_other : (host other : ℕ) (rs : List LoginRecord) → other ≢ host → entries_of_host host (posted_by other rs) ≡ []
posted_other host other [] apart = refl
posted_other host other (r ∷ rs) apart = let t = is_other other host apart in rw t (posted_other host other rs apart)

-- the first so many of two lists
take-two : {X : Type 0} (n : ℕ) (xs ys : List X) → take n (xs ++ ys) ≡ take n xs ++ take (n - length xs) ys
take-two n xs ys = by (cases_lt n (length xs))
  where
    by : (n < length xs) ⊎ (length xs ≤ n) → take n (xs ++ ys) ≡ take n xs ++ take (n - length xs) ys
    by (inl short) =
        let none : n - length xs ≡ 0 = omega (arith, short) in
        take-append-le n xs ys (omega (arith, short)) ∙ sym (append-nil (take n xs)) ∙ ap (λ k. take n xs ++ take k ys) (sym none)
    by (inr long) =
        let all : length xs + (n - length xs) ≡ n = omega (arith, long) in
        ap (λ k. take k (xs ++ ys)) (sym all) ∙ take-append-add xs ys (n - length xs) ∙ ap (λ zs. zs ++ take (n - length xs) ys) (sym (take_all n xs long))

-- the first so many of the first so many
take-least : {X : Type 0} (m n : ℕ) (xs : List X) → take n (take m xs) ≡ take (min m n) xs
take-least m n xs = by (cases_lt n m)
  where
    by : (n < m) ⊎ (m ≤ n) → take n (take m xs) ≡ take (min m n) xs
    by (inl less) = let least : min m n ≡ n = omega (arith, less) in take-take n m xs (omega (arith, less)) ∙ ap (λ k. take k xs) (sym least)
    by (inr all) =
        let least : min m n ≡ m = omega (arith, all) in
        take_all n (take m xs) (omega (arith, all, length-take m xs)) ∙ ap (λ k. take k xs) (sym least)

-- the entries of a host before a place, in so many batches
abbrev pub found : ℕ → ℕ → List StoredBatch → ℕ → List Entry
found host count bs k = entries_of_host host (take count (all_of (take k bs)))

found_few : (host count : ℕ) (bs : List StoredBatch) (k : ℕ) → length (found host count bs k) ≤ count_before bs k
found_few host count bs k =
    let es : List Entry = take count (all_of (take k bs)) in
    omega (arith, length-filter (λ (e : Entry). e.host == host) es, count_by-le-length (λ (e : Entry). e.host == host) es, length-take count (all_of (take k bs)))

-- one batch more
found_more : (host count : ℕ) (bs : List StoredBatch) (k : ℕ) (b : StoredBatch) → k < length bs → b ≡ get_or bs k b → IsPlaced bs k b
    → found host count bs (k + 1) ≡ found host count bs k ++ entries_of_host host (take (count - b.first) (entries_of b))
found_more host count bs k b there is placed =
    let before : List Entry = all_of (take k bs) in
    ap (λ (front : List StoredBatch). entries_of_host host (take count (all_of front))) (take_more bs k b there ∙ ap (λ (x : StoredBatch). take k bs ++ x ∷ []) (sym is))
    ∙ ap (λ (es : List Entry). entries_of_host host (take count es)) (all-last (take k bs) b)
    ∙ ap (entries_of_host host) (take-two count before (entries_of b) ∙ ap (λ n. take count before ++ take (count - n) (entries_of b)) (sym placed.first))
    ∙ filter-append (λ (e : Entry). e.host == host) (take count before) (take (count - b.first) (entries_of b))

module _ (host count : ℕ) (b : StoredBatch) where
  abbrev one : LoginRecord → Entry
  one r = record { host = b.host; item = r }

  -- what a batch has before a place
  part : take (count - b.first) (entries_of b) ≡ posted_by b.host (take (min b.count (count - b.first)) (arc_value b.records))
  part = take-map one (count - b.first) (take b.count (arc_value b.records)) ∙ ap (map one) (take-least b.count (count - b.first) (arc_value b.records))

  pub own_part : b.host ≡ host → posted_by host (take (min b.count (count - b.first)) (arc_value b.records)) ≡ entries_of_host host (take (count - b.first) (entries_of b))
  own_part same =
      let rs : List LoginRecord = take (min b.count (count - b.first)) (arc_value b.records) in
      sym (ap (entries_of_host host) (part ∙ ap (λ h. posted_by h rs) same) ∙ posted_same host rs)

  no_part : b.host ≢ host → entries_of_host host (take (count - b.first) (entries_of b)) ≡ []
  no_part apart = ap (entries_of_host host) part ∙ posted_other host b.host (take (min b.count (count - b.first)) (arc_value b.records)) apart

  pub nothing_added : (es : List Entry) → b.host ≢ host → es ≡ es ++ entries_of_host host (take (count - b.first) (entries_of b))
  nothing_added es apart = sym (ap (λ (more : List Entry). es ++ more) (no_part apart) ∙ append-nil es)

module _ (host count : ℕ) (bs : List StoredBatch) (ms : List ℕ) (marked : AreMarked bs ms) (k : ℕ) (b : StoredBatch) (there : k < length bs) (is : b ≡ get_or bs k b) where
  placed : IsPlaced bs k b
  placed = subst (IsPlaced bs k) (sym is) (marked.placed k b there)

  pub has_room : (found_now : List Entry) → found_now ≡ found host count bs k → length found_now + b.count ≤ length (all_of bs)
  has_room found_now now = omega (arith, ap length now, found_few host count bs k, placed.first, (placed-holds bs k b there is placed).within)

  pub found_next : (before after : List Entry) → before ≡ found host count bs k → after ≡ before ++ entries_of_host host (take (count - b.first) (entries_of b)) → after ≡ found host count bs (k + 1)
  found_next before after old new = new ∙ ap (λ (es : List Entry). es ++ entries_of_host host (take (count - b.first) (entries_of b))) old ∙ sym (found_more host count bs k b there is placed)
