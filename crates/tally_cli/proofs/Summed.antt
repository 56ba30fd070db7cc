-- Sums of files that are joined.
use Rattle.std.proofs.Common.{◌≡◌, ◌∙◌, ◌++◌, ◌≤◌, ◌<◌, ◌+◌, ◌*◌, ◌%◌, ◌⊎◌, inl, inr, ℕ, Bool, true, false, List, [], ◌∷◌, Option, Some, map, take, length, get_or, ap, sym, subst, refl, arith, append-nil, length-append}
use Rattle.std.proofs.lemmas.Bool.{cases_lt}
use Rattle.std.proofs.lemmas.Grind.{flat_map-append}
use Rattle.std.proofs.lemmas.List.{get_or-map, length-map, map-append, take-map, take_all, take_more}
use Rattle.std.proofs.lemmas.List.Elements.{filter-append}
use Rattle.std.proofs.lemmas.List.Folds.{flat_map-map}
use Rattle.std.proofs.lemmas.List.Sums.{sum_by-cons}
use Rattle.std.specs.List.{All, enumerate_from, flat_map}
use Rattle.tally_desk.specs.Batches.{records_in}
use Rattle.tally_desk.specs.declared.fault.CountFault.{CountFault}
use Rattle.tally_records.specs.Records.{Records, procs_in}
use Rattle.tally_records.specs.declared.batch.Kind.TheVariants.{Proc}
use Rattle.tally_records.specs.declared.process.ProcRecord.{ProcRecord}
use Rattle.tally_usage.specs.Choice.{chosen, is_chosen}
use Rattle.tally_usage.specs.Summary.{entries_of}
use Rattle.tally_usage.specs.Sums.{AreSumsOf, Counted}
use Rattle.tally_usage.specs.Totals.{records_of}
use Rattle.tally_usage.specs.declared.choice.ProcChoice.{ProcChoice}
use Rattle.tally_usage.specs.declared.entry.ProcEntry.{ProcEntry}
use Rattle.tally_usage.specs.declared.usage.TheConstants.{SUMS_LIMIT}
use Rattle.tally_usage.proofs.SumsLemmas.{count_is}
use Rattle.tally_cli.specs.Output.{proc_entries}
use Rattle.tally_cli.specs.Runs.{Tell, Told, records_told}
use Rattle.tally_cli.specs.UsageOutput.{chosen_entries}
use Rattle.tally_cli.specs.Usages.{IsCountable, IsOfProcs, count_told, procs_told}
use Rattle.tally_cli.specs.declared.fault.UsageFault.{UsageFault}
use Rattle.tally_cli.specs.declared.fault.UsageFault.TheVariants.{Callers, File, Full, Memory, Write}
use Rattle.tally_cli.specs.declared.running.files.Count.TheVariants as count
use Rattle.tally_cli.specs.declared.running.source.Source.{Source}
use Rattle.tally_cli.specs.inside.Counts.{ProcCount, AreJoined, AreSummed, AreSumsIn, AreSumsInEach, CameOf, IsCountCause, IsCountRefusal, IsFirst, IsFirstTooMany, IsJoinFault, IsNotJoined, IsOver, Joins, first_parts}
use Rattle.tally_cli.specs.inside.Files.{AreExplained, HasSums, IsFault, StopsAtFault}
use Rattle.tally_cli.proofs.Counted.{CameEach}

-- ---- the records of entries

entry_records : (host : ℕ) (rs : List ProcRecord) → map (λ (e : ProcEntry). e.item) (entries_of host rs) ≡ rs
entry_records host [] = refl
entry_records host (r ∷ rs) = ap (λ l. r ∷ l) (entry_records host rs)

numbered_records : (n : ℕ) (files : List Records) → records_of (flat_map (λ (numbered : ℕ × Records). entries_of numbered.0 (procs_in numbered.1)) (enumerate_from n files)) ≡ flat_map procs_in files
numbered_records n [] = refl
numbered_records n (f ∷ fs) =
    let rest : List ProcEntry = flat_map (λ (numbered : ℕ × Records). entries_of numbered.0 (procs_in numbered.1)) (enumerate_from (n + 1) fs) in
    map-append (λ (e : ProcEntry). e.item) (entries_of n (procs_in f)) rest
    ∙ ap (λ l. l ++ records_of rest) (entry_records n (procs_in f))
    ∙ ap (λ l. procs_in f ++ l) (numbered_records (n + 1) fs)

-- the records of the files' entries, in order
records_of-entries : (inputs : List Told) → records_of (proc_entries (map records_told inputs)) ≡ flat_map (λ (i : Told). procs_in (records_told i)) inputs
records_of-entries inputs = numbered_records 0 (map records_told inputs) ∙ flat_map-map procs_in records_told inputs

-- the records of chosen entries are the chosen records
records_of-chosen : (choice : ProcChoice) (entries : List ProcEntry) → records_of (chosen_entries choice entries) ≡ chosen choice (records_of entries)
records_of-chosen choice [] = refl
records_of-chosen choice (e ∷ es) = by (is_chosen choice e.item) refl (records_of-chosen choice es)
  where
    by : (b : Bool) → is_chosen choice e.item ≡ b → records_of (chosen_entries choice es) ≡ chosen choice (records_of es)
        → records_of (chosen_entries choice (e ∷ es)) ≡ chosen choice (e.item ∷ records_of es)
    by true is rest = rw is (ap (λ l. e.item ∷ l) rest)
    by false is rest = rw is rest

-- those of all inputs are those of each
chosen_flat : (choice : ProcChoice) (inputs : List Told) → chosen choice (flat_map (λ (i : Told). procs_in (records_told i)) inputs) ≡ flat_map (procs_told choice) inputs
chosen_flat choice [] = refl
chosen_flat choice (i ∷ is) =
    filter-append (is_chosen choice) (procs_in (records_told i)) (flat_map (λ (i : Told). procs_in (records_told i)) is)
    ∙ ap (λ l. procs_told choice i ++ l) (chosen_flat choice is)

-- the records of the files' chosen entries, in order
pub chosen_records : (choice : ProcChoice) (inputs : List Told) → records_of (chosen_entries choice (proc_entries (map records_told inputs))) ≡ flat_map (procs_told choice) inputs
chosen_records choice inputs = records_of-chosen choice (proc_entries (map records_told inputs)) ∙ ap (chosen choice) (records_of-entries inputs) ∙ chosen_flat choice inputs

-- the sums are those of these records
pub entry_sums : (choice : ProcChoice) (inputs : List Told) (s : Counted) → AreSummed choice inputs s → AreSumsOf s (records_of (chosen_entries choice (proc_entries (map records_told inputs))))
entry_sums choice inputs s summed = subst (AreSumsOf s) (sym (chosen_records choice inputs)) summed.sums

count_flat : (choice : ProcChoice) (inputs : List Told) → length (flat_map (procs_told choice) inputs) ≡ count_told choice inputs
count_flat choice [] = refl
count_flat choice (i ∷ is) =
    length-append (procs_told choice i) (flat_map (procs_told choice) is) ∙ ap (λ n. length (procs_told choice i) + n) (count_flat choice is)
    ∙ sym (sum_by-cons (λ (input : Told). length (procs_told choice input)) i is)

-- the inputs have no more chosen records than are counted
pub few_told : (choice : ProcChoice) (inputs : List Told) (s : Counted) → AreSummed choice inputs s → count_told choice inputs ≤ SUMS_LIMIT
few_told choice inputs s summed = omega (arith, summed.sums.few, count_flat choice inputs)

-- ---- one count more

sums_or_fault : (c : ProcCount) → (HasSums c ⊎ IsFault c) ⊎ (c ≡ count.Untried)
sums_or_fault count.Untried = inr refl
sums_or_fault (count.Sums sums) = inl (inl tt)
sums_or_fault (count.Fault found) = inl (inr tt)

fault_or_sums : (c : ProcCount) → HasSums c → IsFault c → ⊥
fault_or_sums count.Untried has is = has
fault_or_sums (count.Sums sums) has is = is
fault_or_sums (count.Fault found) has is = has

-- the next count was tried
pub tried : (n files : ℕ) (at : ℕ → ProcCount) (host : ℕ) → AreExplained StopsAtFault n files at → host < files → ((k : ℕ) → k < host → HasSums (at k)) → HasSums (at host) ⊎ IsFault (at host)
tried n files at host explained near all = elim (sums_or_fault (at host)) [
  | inl known ↦ known
  | inr untried ↦
      let earlier = explained host near untried in
      absurd (fault_or_sums (at (earlier.0 * n + host % n)) (all (earlier.0 * n + host % n) earlier.1) earlier.2)
]

pub has_sums : (c : ProcCount) (old new : Counted) → Joins c old new → HasSums c
has_sums count.Untried old new joins = absurd joins
has_sums (count.Sums sums) old new joins = tt
has_sums (count.Fault found) old new joins = absurd joins

one_joined : (c : ProcCount) (old new : Counted) (rs ss : List ProcRecord) → Joins c old new → AreSumsOf old rs → AreSumsIn c ss → AreSumsOf new (rs ++ ss)
one_joined count.Untried old new rs ss joins sums part = absurd joins
one_joined (count.Sums sums) old new rs ss joins before part = joins rs ss before part
one_joined (count.Fault found) old new rs ss joins sums part = absurd joins

over_many : (c : ProcCount) (old : Counted) (rs ss : List ProcRecord) → IsOver old c → AreSumsOf old rs → AreSumsIn c ss → SUMS_LIMIT < length (rs ++ ss)
over_many count.Untried old rs ss over sums part = absurd over
over_many (count.Sums sums) old rs ss over before part = omega (arith, over, length-append rs ss, count_is old rs before, count_is sums ss part)
over_many (count.Fault found) old rs ss over sums part = absurd over

over_sums : (c : ProcCount) (old : Counted) → IsOver old c → HasSums c
over_sums count.Untried old over = absurd over
over_sums (count.Sums sums) old over = tt
over_sums (count.Fault found) old over = absurd over

one_part : (host : ℕ) (parts : List (List ProcRecord)) → host < length parts → first_parts (host + 1) parts ≡ first_parts host parts ++ get_or parts host []
one_part host parts within =
    ap (flat_map (λ (p : List ProcRecord). p)) (take_more parts host [] within)
    ∙ flat_map-append (λ (p : List ProcRecord). p) (take host parts) (get_or parts host [] ∷ [])
    ∙ ap (λ l. first_parts host parts ++ l) (append-nil (get_or parts host []))

-- the sums of the counts before a number
abbrev pub AreFirstSums : ℕ → (ℕ → ProcCount) → ℕ → Counted → Type 0
AreFirstSums files at host total = (parts : List (List ProcRecord)) → AreSumsInEach files at parts → AreSumsOf total (first_parts host parts)

module _ (files : ℕ) (at : ℕ → ProcCount) (host : ℕ) (near : host < files) (c : ProcCount) (is : c ≡ at host) (total : Counted) (all : (k : ℕ) → k < host → HasSums (at k)) (sums : AreFirstSums files at host total) where
  pub all_more : (new : Counted) → Joins c total new → (k : ℕ) → k < host + 1 → HasSums (at k)
  all_more new joins k l = elim (cases_lt k host) [
    | inl first ↦ all k first
    | inr here ↦
        let there : k ≡ host = omega (arith, l, here) in
        subst HasSums (is ∙ ap at (sym there)) (has_sums c total new joins)
  ]

  part : (parts : List (List ProcRecord)) → AreSumsInEach files at parts → AreSumsIn c (get_or parts host [])
  part parts each = subst (λ a. AreSumsIn a (get_or parts host [])) (sym is) (each.each host near)

  within : (parts : List (List ProcRecord)) → AreSumsInEach files at parts → host < length parts
  within parts each = omega (arith, near, each.length_is)

  pub sums_more : (new : Counted) → Joins c total new → AreFirstSums files at (host + 1) new
  sums_more new joins parts each = subst (AreSumsOf new) (sym (one_part host parts (within parts each)))
      (one_joined c total new (first_parts host parts) (get_or parts host []) joins (sums parts each) (part parts each))

  -- why it was not joined, in the words of all counts
  pub join_fault : (found : UsageFault) → IsNotJoined c total host found → IsJoinFault files at found
  join_fault Memory own = tt
  join_fault (Callers callers) own = absurd own
  join_fault (File number found) own = subst (λ n. IsFirst files at n found) (sym own.0) (record { near = near; earlier = all; own = sym is ∙ own.1 })
  join_fault (Full number) own = subst (IsFirstTooMany files at) (sym own.0) (record {
    near = near;
    all = λ k l. elim (cases_lt k host) [
      | inl first ↦ all k first
      | inr here ↦
          let there : k ≡ host = omega (arith, l, here) in
          subst HasSums (is ∙ ap at (sym there)) (over_sums c total own.1)
    ];
    before = λ parts each. (sums parts each).few;
    over = λ parts each.
        let many = over_many c total (first_parts host parts) (get_or parts host []) own.1 (sums parts each) (part parts each) in
        omega (arith, many, ap length (one_part host parts (within parts each)));
  })
  join_fault Write own = absurd own

-- the last count is joined
pub end_joined : (files : ℕ) (at : ℕ → ProcCount) (total : Counted) (host : ℕ) → host ≡ files → ((k : ℕ) → k < host → HasSums (at k)) → AreFirstSums files at host total → AreJoined files at total
end_joined files at total host end all sums = record {
  all = λ k l. all k (omega (arith, l, end));
  sums = λ parts each. subst (λ n. AreSumsOf total (first_parts n parts)) end (sums parts each);
}

-- ---- in the words of the inputs

counted_good : {I : Type 0} (choice : ProcChoice) (to_come : I → Option (List ℕ)) (can_fail : I → Bool) (source : Source I) (c : ProcCount) (input : Told) → HasSums c → CameOf choice to_come can_fail source c → to_come source.input ≡ Some input.bytes → input.kind ≡ Proc
    → IsCountable input
counted_good choice to_come can_fail source count.Untried input has came told kind = absurd has
counted_good choice to_come can_fail source (count.Sums sums) input has came told kind = (came input.bytes told).no_fault
counted_good choice to_come can_fail source (count.Fault found) input has came told kind = absurd has

counted_sums : {I : Type 0} (choice : ProcChoice) (to_come : I → Option (List ℕ)) (can_fail : I → Bool) (source : Source I) (c : ProcCount) (input : Told) → CameOf choice to_come can_fail source c → to_come source.input ≡ Some input.bytes → input.kind ≡ Proc
    → AreSumsIn c (procs_told choice input)
counted_sums choice to_come can_fail source count.Untried input came told kind = tt
counted_sums choice to_come can_fail source (count.Sums sums) input came told kind = subst (λ k. AreSumsOf sums (chosen choice (procs_in (records_in k input.bytes)))) (sym kind) (came input.bytes told).sums
counted_sums choice to_come can_fail source (count.Fault found) input came told kind = tt

some_of : {X : Type 0} (xs : List X) (k : ℕ) → k < length xs → X
some_of [] k l = absurd (omega (arith, l))
some_of (x ∷ xs) k l = x

module _ {I : Type 0} (choice : ProcChoice) (to_come : I → Option (List ℕ)) (can_fail : I → Bool) (sources : List (Source I)) (n : ℕ) (at : ℕ → ProcCount) (came : CameEach (CameOf choice to_come can_fail) StopsAtFault n sources at) where
  own_fault : (host : ℕ) (s : Source I) (found : CountFault) → host < length sources → at host ≡ count.Fault found → CameOf choice to_come can_fail (get_or sources host s) (count.Fault found)
  own_fault host s found near is = subst (CameOf choice to_come can_fail (get_or sources host s)) is (came.each host s near)

  pub count_refusal : (f : UsageFault) → IsJoinFault (length sources) at f → IsCountRefusal can_fail sources f
  count_refusal Memory found = tt
  count_refusal (Callers callers) found = absurd found
  count_refusal (File host f) found = (found.near, λ read s. (own_fault host s f found.near found.own).0 read)
  count_refusal (Full host) found = found.near
  count_refusal Write found = absurd found

  module _ (procs : All IsOfProcs sources) (inputs : List Told) (tell : Tell to_come sources inputs) where
    kind_at : (k : ℕ) (i : Told) → k < length sources → (get_or inputs k i).kind ≡ Proc
    kind_at k i l =
        let s = some_of sources k l in
        sym (tell.1 k s i l).kind ∙ procs k s l

    good_at : (k : ℕ) (i : Told) → k < length sources → HasSums (at k) → IsCountable (get_or inputs k i)
    good_at k i l has =
        let s = some_of sources k l in
        counted_good choice to_come can_fail (get_or sources k s) (at k) (get_or inputs k i) has (came.each k s l) (tell.1 k s i l).bytes (kind_at k i l)

    abbrev parts : List (List ProcRecord)
    parts = map (procs_told choice) inputs

    pub each_part : AreSumsInEach (length sources) at parts
    each_part = record {
      length_is = length-map inputs (procs_told choice) ∙ tell.0;
      each = λ k l.
          let there : k < length inputs = omega (arith, l, tell.0) in
          let i = some_of inputs k there in
          let s = some_of sources k l in
          subst (AreSumsIn (at k)) (sym (get_or-map (procs_told choice) inputs k i [] there))
          (counted_sums choice to_come can_fail (get_or sources k s) (at k) (get_or inputs k i) (came.each k s l) (tell.1 k s i l).bytes (kind_at k i l));
    }

    first_told : (n : ℕ) → first_parts n parts ≡ flat_map (procs_told choice) (take n inputs)
    first_told n = ap (flat_map (λ (p : List ProcRecord). p)) (take-map (procs_told choice) n inputs) ∙ flat_map-map (λ (p : List ProcRecord). p) (procs_told choice) (take n inputs)

    first_count : (n : ℕ) → length (first_parts n parts) ≡ count_told choice (take n inputs)
    first_count n = ap length (first_told n) ∙ count_flat choice (take n inputs)

    -- all counts, joined
    pub summed : (s : Counted) → AreJoined (length sources) at s → AreSummed choice inputs s
    summed s joined = record {
      good = λ k i l.
          let here : k < length sources = omega (arith, l, tell.0) in
          good_at k i here (joined.all k here);
      sums = subst (AreSumsOf s) (first_told (length sources) ∙ ap (flat_map (procs_told choice)) (take_all (length sources) inputs (omega (arith, tell.0)))) (joined.sums parts each_part);
    }

    pub count_cause : (f : UsageFault) → IsJoinFault (length sources) at f → IsCountCause choice inputs f
    count_cause Memory found = tt
    count_cause (Callers callers) found = absurd found
    count_cause (File host f) found = record {
      near = omega (arith, found.near, tell.0);
      earlier = λ k i l. good_at k i (omega (arith, l, found.near)) (found.earlier k l);
      own = λ i.
          let s = some_of sources host found.near in
          (own_fault host s f found.near found.own).1 (get_or inputs host i).bytes (tell.1 host s i found.near).bytes;
    }
    count_cause (Full host) found = record {
      near = omega (arith, found.near, tell.0);
      good = λ k i l. good_at k i (omega (arith, l, found.near)) (found.all k l);
      before = omega (arith, found.before parts each_part, first_count host);
      over = omega (arith, found.over parts each_part, first_count (host + 1));
    }
    count_cause Write found = absurd found
