-- What is kept of the lines stays sound.
use Rattle.std.proofs.Common.{◌≡◌, ◌≢◌, ◌⊎◌, inl, inr, ℕ, ◌+◌, ◌*◌, ◌<◌, ◌≤◌, All, Bool, true, false, cond, List, [], ◌∷◌, ◌++◌, length, length-append, get_or, set, Option, Some, None, unwrap_or, refl, sym, ap, subst, ◌∙◌, arith}
use Rattle.std.proofs.Math.Seq.{get_or-append_seam}
use Rattle.std.proofs.lemmas.Bool.{cases_eq, false≢true}
use Rattle.std.proofs.lemmas.List.{get_or_append_left, get_or-set_same, get_or-set_other, length-set}
use Rattle.std.proofs.lemmas.List.Sums.{sum_by-set, sum_by_push}
use Rattle.std.proofs.lemmas.Slice.Eq.{bytes_eq-Decides}
use Rattle.std.proofs.lemmas.Map.Entries.{length-keys_of}
use Rattle.std.proofs.lemmas.Option.{slice_get_within}
use Rattle.std.specs.Map.{keys_of, lookup}
use Rattle.std.specs.Prelude.{bytes_eq, slice_get}
use Rattle.tally_sessions.specs.declared.connect_sums.running.Running.{Running}
use Rattle.tally_sessions.specs.declared.connect_sums.slot.Slot.{Slot}
use Rattle.tally_sessions.specs.declared.connect_sums.ended.Ended.{Ended}
use Rattle.tally_sessions.specs.declared.connect_sums.ended.EndedSession.{EndedSession}
use Rattle.tally_sessions.specs.declared.track.ended.EndedSums.{EndedSums}
use Rattle.tally_sessions.specs.Opens.{Open}
use Rattle.tally_sessions.specs.inside.Ended.{HasGrown, HasRoom}
use Rattle.tally_sessions.specs.inside.Numbers.{Numbers, StandsAt}
use Rattle.tally_sessions.specs.inside.Running.{AreKept, HasPlaces, IsSlot}
use Rattle.tally_sessions.specs.inside.Slots.{begun, closed, no_slot, one, open_count, slot_at, unlisted, weight_at}
use Rattle.tally_sessions.specs.inside.Track.{IsWithin, sum_of}
use Rattle.tally_sessions.proofs.connect_sums.SlotLemmas.{weight-begun}
use Rattle.tally_sessions.proofs.track.Names.{stands_before, stands_last, same_both_ways}
use Rattle.tally_sessions.proofs.track.TrackedAdvance.{IsWithin-more}
use Rattle.tally_sessions.proofs.track.UserPlaces.{unknown_is}

more-slot : (n : ℕ) (lines : Numbers) (listed : List ℕ) (k : ℕ) (s : Slot) → IsSlot n lines listed k s → IsSlot (n + 1) lines listed k s
more-slot n lines listed k s h = record { named = h.named; there = h.there; pending = h.pending; moved = λ is. IsWithin-more n s.clock_at (h.moved is) }

-- one record more
pub kept-more : (n : ℕ) (lines : Numbers) (slots : List Slot) (listed : List ℕ) (ended : Ended) → AreKept n lines slots listed ended → AreKept (n + 1) lines slots listed ended
kept-more n lines slots listed ended h = record {
  lines_are = h.lines_are;
  few = let f = h.few in omega arith;
  slots_are = λ k lt. more-slot n lines listed k (slot_at slots k) (h.slots_are k lt);
  apart = h.apart;
  listed_are = h.listed_are;
  fits = λ who. let f = h.fits who in omega arith;
  users = let f = h.users in omega arith;
  sessions = let f = h.sessions in omega arith;
  have = h.have;
}

-- a slot becomes one of the same line, whose session has ended
kept-over : (n : ℕ) (lines : Numbers) (slots : List Slot) (listed : List ℕ) (ended ended' : Ended) (k : ℕ) (over : Slot) → AreKept n lines slots listed ended → k < length slots
    → over.line ≡ (slot_at slots k).line → over.is_open ≡ false → (over.is_listed ≡ true → (slot_at slots k).is_listed ≡ true)
    → HasGrown (weight_at one (slot_at slots k)) ended ended'
    → AreKept n lines (set slots k over) listed ended'
kept-over n lines slots listed ended ended' k over h lt same_line over_is still grown =
    let len = length-set slots k over in
    let none : weight_at one over ≡ 0 = ap (λ (b : Bool). cond {A = ℕ} b 1 0) over_is in
    let left : open_count (set slots k over) + weight_at one (slot_at slots k) ≡ open_count slots + weight_at one over = sum_by-set (weight_at one) slots k over no_slot lt in record {
      lines_are = h.lines_are ∙ sym len;
      few = subst (λ m. m ≤ n) (sym len) h.few;
      slots_are = λ i within. by i (omega (arith, within, len)) (cases_eq i k);
      apart = λ i j a b same. h.apart i j (omega (arith, a, len)) (omega (arith, b, len)) (sym (line_of i) ∙ same ∙ line_of j);
      listed_are = λ j within. subst (λ m. get_or listed j 0 < m) (sym len) (h.listed_are j within);
      fits = λ who. omega (arith, h.fits who, grown.sums who, left, none);
      users = omega (arith, h.users, grown.users, left, none);
      sessions = omega (arith, h.sessions, grown.sessions, left, none);
      have = grown.have;
    }
  where
    line_of : (i : ℕ) → (slot_at (set slots k over) i).line ≡ (slot_at slots i).line
    line_of i = elim (cases_eq i k) [
      | inl e ↦ ap (λ j. (slot_at (set slots k over) j).line) e ∙ ap (λ (t : Slot). t.line) (get_or-set_same slots k over no_slot lt) ∙ same_line ∙ ap (λ j. (slot_at slots j).line) (sym e)
      | inr apart ↦ ap (λ (t : Slot). t.line) (get_or-set_other slots k i over no_slot apart)
    ]

    by : (i : ℕ) → i < length slots → (i ≡ k) ⊎ (i ≢ k) → IsSlot n lines listed i (slot_at (set slots k over) i)
    by i within (inl e) =
        let old = h.slots_are k lt in
        subst (λ j. IsSlot n lines listed j (slot_at (set slots k over) j)) (sym e)
        (subst (IsSlot n lines listed k) (sym (get_or-set_same slots k over no_slot lt))
        (record { named = subst (StandsAt lines k) (sym same_line) old.named; there = λ is. old.there (still is); pending = λ is. absurd (false≢true (sym over_is ∙ is)); moved = λ is. absurd (false≢true (sym over_is ∙ is)) }))
    by i within (inr apart) = subst (IsSlot n lines listed i) (sym (get_or-set_other slots k i over no_slot apart)) (h.slots_are i within)

-- the session of a slot has ended
pub kept-closed : (n : ℕ) (lines : Numbers) (slots : List Slot) (listed : List ℕ) (ended ended' : Ended) (k : ℕ) → AreKept n lines slots listed ended → k < length slots
    → HasGrown (weight_at one (slot_at slots k)) ended ended'
    → AreKept n lines (set slots k (closed (slot_at slots k))) listed ended'
kept-closed n lines slots listed ended ended' k h lt = kept-over n lines slots listed ended ended' k (closed (slot_at slots k)) h lt refl refl (λ is. is)

-- the same, and its line is not listed any more
pub kept-unlisted : (n : ℕ) (lines : Numbers) (slots : List Slot) (listed : List ℕ) (ended ended' : Ended) (k : ℕ) → AreKept n lines slots listed ended → k < length slots
    → HasGrown (weight_at one (slot_at slots k)) ended ended'
    → AreKept n lines (set slots k (unlisted (slot_at slots k))) listed ended'
kept-unlisted n lines slots listed ended ended' k h lt = kept-over n lines slots listed ended ended' k (unlisted (slot_at slots k)) h lt refl refl (λ no. absurd (false≢true no))

-- a slot is found among the listed, also after one more
listed-more : (listed : List ℕ) (k place : ℕ) → (j : ℕ) × (j < length listed) × (get_or listed j 0 ≡ k) → (j : ℕ) × (j < length (listed ++ place ∷ [])) × (get_or (listed ++ place ∷ []) j 0 ≡ k)
listed-more listed k place f = (f.0, omega (arith, f.1, length-append listed (place ∷ [])), get_or_append_left listed (place ∷ []) 0 f.0 f.1 ∙ f.2)

listed-last : (listed : List ℕ) (place : ℕ) → (j : ℕ) × (j < length (listed ++ place ∷ [])) × (get_or (listed ++ place ∷ []) j 0 ≡ place)
listed-last listed place = (length listed, omega (arith, length-append listed (place ∷ [])), get_or-append_seam listed place [] 0)

-- places within a bound, and one more
places-more : (ls : List ℕ) (place bound : ℕ) → ((j : ℕ) → j < length ls → get_or ls j 0 < bound) → place < bound → (j : ℕ) → j < length (ls ++ place ∷ []) → get_or (ls ++ place ∷ []) j 0 < bound
places-more ls place bound all here j within = elim (cases_eq j (length ls)) [
  | inl e ↦ subst (λ m. m < bound) (sym (ap (λ i. get_or (ls ++ place ∷ []) i 0) e ∙ get_or-append_seam ls place [] 0)) here
  | inr apart ↦ let before : j < length ls = omega (arith, within, length-append ls (place ∷ [])) in subst (λ m. m < bound) (sym (get_or_append_left ls (place ∷ []) 0 j before)) (all j before)
]

-- a slot whose session has ended gets another
pub kept-begun : (n : ℕ) (lines : Numbers) (slots : List Slot) (listed : List ℕ) (ended : Ended) (k : ℕ) (o : Open) → AreKept n lines slots listed ended → k < length slots
    → (slot_at slots k).is_open ≡ false → o.line ≡ (slot_at slots k).line → IsWithin (n + 1) o.clock_at
    → AreKept (n + 1) lines (set slots k (begun o)) (cond (slot_at slots k).is_listed listed (listed ++ k ∷ [])) ended
kept-begun n lines slots listed ended k o h lt over same_line moved = by_listed (slot_at slots k).is_listed refl
  where
    line_of : (i : ℕ) → (slot_at (set slots k (begun o)) i).line ≡ (slot_at slots i).line
    line_of i = elim (cases_eq i k) [
      | inl e ↦ ap (λ j. (slot_at (set slots k (begun o)) j).line) e ∙ ap (λ (t : Slot). t.line) (get_or-set_same slots k (begun o) no_slot lt) ∙ same_line ∙ ap (λ j. (slot_at slots j).line) (sym e)
      | inr apart ↦ ap (λ (t : Slot). t.line) (get_or-set_other slots k i (begun o) no_slot apart)
    ]

    with_listed : (more : List ℕ) → ((j : ℕ) × (j < length more) × (get_or more j 0 ≡ k))
        → ((i : ℕ) → (j : ℕ) × (j < length listed) × (get_or listed j 0 ≡ i) → (j : ℕ) × (j < length more) × (get_or more j 0 ≡ i))
        → ((j : ℕ) → j < length more → get_or more j 0 < length slots)
        → AreKept (n + 1) lines (set slots k (begun o)) more ended
    with_listed more own others places =
        let len = length-set slots k (begun o) in
        let count = weight-begun one slots k o lt over in record {
          lines_are = h.lines_are ∙ sym len;
          few = omega (arith, len, h.few);
          slots_are = λ i within. by i (omega (arith, within, len)) (cases_eq i k);
          apart = λ i j a b same. h.apart i j (omega (arith, a, len)) (omega (arith, b, len)) (sym (line_of i) ∙ same ∙ line_of j);
          listed_are = λ j within. subst (λ m. get_or more j 0 < m) (sym len) (places j within);
          fits = λ who. omega (arith, h.fits who, count);
          users = omega (arith, h.users, count);
          sessions = omega (arith, h.sessions, count);
          have = h.have;
        }
      where
        by : (i : ℕ) → i < length slots → (i ≡ k) ⊎ (i ≢ k) → IsSlot (n + 1) lines more i (slot_at (set slots k (begun o)) i)
        by i within (inl e) =
            subst (λ j. IsSlot (n + 1) lines more j (slot_at (set slots k (begun o)) j)) (sym e)
            (subst (IsSlot (n + 1) lines more k) (sym (get_or-set_same slots k (begun o) no_slot lt))
            (record { named = subst (StandsAt lines k) (sym same_line) (h.slots_are k lt).named; there = λ is. own; pending = λ is. refl; moved = λ is. moved }))
        by i within (inr apart) =
            let old = h.slots_are i within in
            subst (IsSlot (n + 1) lines more i) (sym (get_or-set_other slots k i (begun o) no_slot apart))
            (record { named = old.named; there = λ is. others i (old.there is); pending = old.pending; moved = λ is. IsWithin-more n (slot_at slots i).clock_at (old.moved is) })

    by_listed : (b : Bool) → (slot_at slots k).is_listed ≡ b → AreKept (n + 1) lines (set slots k (begun o)) (cond (slot_at slots k).is_listed listed (listed ++ k ∷ [])) ended
    by_listed true e =
        subst (λ b. AreKept (n + 1) lines (set slots k (begun o)) (cond b listed (listed ++ k ∷ [])) ended) (sym e)
        (with_listed listed ((h.slots_are k lt).there e) (λ i f. f) h.listed_are)
    by_listed false e =
        subst (λ b. AreKept (n + 1) lines (set slots k (begun o)) (cond b listed (listed ++ k ∷ [])) ended) (sym e)
        (with_listed (listed ++ k ∷ []) (listed-last listed k) (λ i f. listed-more listed i k f) (places-more listed k (length slots) h.listed_are lt))

-- the first session of a line
pub kept-first : (n : ℕ) (lines lines' : Numbers) (slots : List Slot) (listed : List ℕ) (ended : Ended) (o : Open) → AreKept n lines slots listed ended
    → lines'.entries ≡ lines.entries ++ (o.line, 0) ∷ [] → lookup (bytes_eq o.line) lines.entries ≡ None → IsWithin (n + 1) o.clock_at
    → AreKept (n + 1) lines' (slots ++ begun o ∷ []) (listed ++ length slots ∷ []) ended
kept-first n lines lines' slots listed ended o h more absent moved =
    let len = length-append slots (begun o ∷ []) in
    let count : open_count (slots ++ begun o ∷ []) ≡ open_count slots + 1 = sum_by_push (weight_at one) slots (begun o) in record {
      lines_are = omega (arith, ap length more, length-append lines.entries ((o.line, 0) ∷ []), h.lines_are, len);
      few = omega (arith, len, h.few);
      slots_are = λ i within. by i (omega (arith, within, len)) (cases_eq i (length slots));
      apart = λ i j a b same. apart i j (omega (arith, a, len)) (omega (arith, b, len)) (cases_eq i (length slots)) (cases_eq j (length slots)) same;
      listed_are = λ j within. places-more listed (length slots) (length (slots ++ begun o ∷ [])) (λ k lt. omega (arith, h.listed_are k lt, len)) (omega (arith, len)) j within;
      fits = λ who. omega (arith, h.fits who, count);
      users = omega (arith, h.users, count);
      sessions = omega (arith, h.sessions, count);
      have = h.have;
    }
  where
    old_at : (i : ℕ) → i < length slots → slot_at (slots ++ begun o ∷ []) i ≡ slot_at slots i
    old_at i lt = get_or_append_left slots (begun o ∷ []) no_slot i lt

    new_at : slot_at (slots ++ begun o ∷ []) (length slots) ≡ begun o
    new_at = get_or-append_seam slots (begun o) [] no_slot

    by : (i : ℕ) → i < length slots + 1 → (i ≡ length slots) ⊎ (i ≢ length slots) → IsSlot (n + 1) lines' (listed ++ length slots ∷ []) i (slot_at (slots ++ begun o ∷ []) i)
    by i within (inl e) =
        subst (λ j. IsSlot (n + 1) lines' (listed ++ length slots ∷ []) j (slot_at (slots ++ begun o ∷ []) j)) (sym e)
        (subst (IsSlot (n + 1) lines' (listed ++ length slots ∷ []) (length slots)) (sym new_at)
        (record { named = stands_last lines.entries lines'.entries o.line 0 more (length slots) (sym h.lines_are); there = λ is. listed-last listed (length slots); pending = λ is. refl; moved = λ is. moved }))
    by i within (inr apart) =
        let lt : i < length slots = omega (arith, within) in
        let old = h.slots_are i lt in
        subst (IsSlot (n + 1) lines' (listed ++ length slots ∷ []) i) (sym (old_at i lt))
        (record { named = stands_before lines.entries lines'.entries o.line 0 more i (slot_at slots i).line old.named; there = λ is. listed-more listed i (length slots) (old.there is); pending = old.pending; moved = λ is. IsWithin-more n (slot_at slots i).clock_at (old.moved is) })

    differs : (i : ℕ) → i < length slots → (slot_at slots i).line ≡ o.line → ⊥
    differs i lt same =
        let apart = unknown_is lines i o.line (slot_at slots i).line absent (h.slots_are i lt).named in
        false≢true (sym apart ∙ (bytes_eq-Decides o.line (slot_at slots i).line).1 (sym same))

    apart : (i j : ℕ) → i < length slots + 1 → j < length slots + 1 → (i ≡ length slots) ⊎ (i ≢ length slots) → (j ≡ length slots) ⊎ (j ≢ length slots)
        → (slot_at (slots ++ begun o ∷ []) i).line ≡ (slot_at (slots ++ begun o ∷ []) j).line → i ≡ j
    apart i j a b (inl e) (inl f) same = e ∙ sym f
    apart i j a b (inl e) (inr f) same =
        let lt : j < length slots = omega (arith, b) in
        absurd (differs j lt (ap (λ (s : Slot). s.line) (sym (old_at j lt)) ∙ sym same ∙ ap (λ k. (slot_at (slots ++ begun o ∷ []) k).line) e ∙ ap (λ (s : Slot). s.line) new_at))
    apart i j a b (inr e) (inl f) same =
        let lt : i < length slots = omega (arith, a) in
        absurd (differs i lt (ap (λ (s : Slot). s.line) (sym (old_at i lt)) ∙ same ∙ ap (λ k. (slot_at (slots ++ begun o ∷ []) k).line) f ∙ ap (λ (s : Slot). s.line) new_at))
    apart i j a b (inr e) (inr f) same =
        let low : i < length slots = omega (arith, a) in
        let high : j < length slots = omega (arith, b) in
        h.apart i j low high (ap (λ (s : Slot). s.line) (sym (old_at i low)) ∙ same ∙ ap (λ (s : Slot). s.line) (old_at j high))

-- the line of the slot where a search found it, which no other slot has
pub line_there : (n : ℕ) (lines : Numbers) (slots : List Slot) (listed : List ℕ) (ended : Ended) (k : ℕ) (line : List ℕ) → AreKept n lines slots listed ended → StandsAt lines k line
    → (k < length slots) × ((slot_at slots k).line ≡ line)
line_there n lines slots listed ended k line h at =
    let within : k < length slots = omega (arith, h.lines_are, slice_get_within (keys_of lines.entries) k line at, length-keys_of lines.entries) in
    let named : Some (slot_at slots k).line ≡ Some line = sym (h.slots_are k within).named ∙ at in
    (within, (let same : (slot_at slots k).line ≡ line = cc in same))

pub line_alone : (n : ℕ) (lines : Numbers) (slots : List Slot) (listed : List ℕ) (ended : Ended) (k : ℕ) (line : List ℕ) → AreKept n lines slots listed ended → StandsAt lines k line
    → (i : ℕ) → i < length slots → (slot_at slots i).line ≡ line → i ≡ k
line_alone n lines slots listed ended k line h at i within same =
    let there = line_there n lines slots listed ended k line h at in
    h.apart i k within there.0 (same ∙ sym there.1)

-- no slot has a line that a search did not find
pub line_none : (n : ℕ) (lines : Numbers) (slots : List Slot) (listed : List ℕ) (ended : Ended) (line : List ℕ) → AreKept n lines slots listed ended → lookup (bytes_eq line) lines.entries ≡ None
    → (i : ℕ) → i < length slots → bytes_eq (slot_at slots i).line line ≡ false
line_none n lines slots listed ended line h absent i within =
    same_both_ways line (slot_at slots i).line false (unknown_is lines i line (slot_at slots i).line absent (h.slots_are i within).named)

-- tables with more room keep the same
pub kept-same : (n : ℕ) (lines lines' : Numbers) (slots : List Slot) (listed : List ℕ) (ended ended' : Ended) → AreKept n lines slots listed ended
    → lines'.entries ≡ lines.entries → ended'.sums.all ≡ ended.sums.all → ended'.sums.users.entries ≡ ended.sums.users.entries → ended'.sessions.items ≡ ended.sessions.items → AreKept n lines' slots listed ended'
kept-same n lines lines' slots listed ended ended' h names all users sessions = record {
  lines_are = ap length names ∙ h.lines_are;
  few = h.few;
  slots_are = λ k lt.
      let old = h.slots_are k lt in
      record { named = ap (λ es. slice_get (keys_of es) k) names ∙ old.named; there = old.there; pending = old.pending; moved = old.moved };
  apart = h.apart;
  listed_are = h.listed_are;
  fits = λ who. subst (λ s. s + 4294967295 * open_count slots ≤ 4294967295 * n) (sym (sum-kept ended.sums ended'.sums all users who)) (h.fits who);
  users = subst (λ es. length es + open_count slots ≤ n) (sym users) h.users;
  sessions = subst (λ ss. length ss + open_count slots ≤ n) (sym sessions) h.sessions;
  have = subst (λ ss. All (λ (t : EndedSession). t.user < length ended'.sums.users.entries) ss) (sym sessions)
      (subst (λ es. All (λ (t : EndedSession). t.user < length es) ended.sessions.items) (sym users) h.have);
}
  where
    sum-kept : (a b : EndedSums) → b.all ≡ a.all → b.users.entries ≡ a.users.entries → (who : Option (List ℕ)) → sum_of b who ≡ sum_of a who
    sum-kept a b total table None = total
    sum-kept a b total table (Some user) = ap (λ es. unwrap_or (lookup (bytes_eq user) es) 0) table

-- room for more sessions is room for fewer
pub HasRoom-less : (j k : ℕ) (e : Ended) → j ≤ k → HasRoom k e → HasRoom j e
HasRoom-less j k e le h = record { users = omega (arith, le, h.users); sessions = λ keeps. omega (arith, le, h.sessions keeps) }

-- room for some records is room for one
pub some-places : (k : ℕ) (r : Running) → HasPlaces (k + 1) r → HasPlaces 1 r
some-places k r h = record {
  lines = omega (arith, h.lines);
  slots = omega (arith, h.slots);
  listed = omega (arith, h.listed);
  ended = HasRoom-less (open_count r.slots.items + 1) (open_count r.slots.items + (k + 1)) r.ended (omega arith) h.ended;
}

-- what is left of the room after more have ended
pub HasRoom-grown : (k n : ℕ) (old new : Ended) → HasGrown k old new → HasRoom (k + n) old → HasRoom n new
HasRoom-grown k n old new grown h = record {
  users = omega (arith, grown.spare, h.users);
  sessions = λ keeps. omega (arith, grown.sessions, grown.capacity, h.sessions (sym grown.keeps ∙ keeps));
}
