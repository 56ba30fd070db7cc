-- How far a count has come.
use Rattle.std.proofs.Common.{◌≡◌, ◌∙◌, ◌++◌, ◌≤◌, ◌<◌, ◌+◌, ◌*◌, ◌/◌, ◌⊎◌, inl, inr, ℕ, List, [], ◌∷◌, Option, Some, None, map, take, drop, length, ap, sym, subst, refl, arith, append-nil, length-append}
use Rattle.std.proofs.lemmas.Grind.{flat_map-append}
use Rattle.std.proofs.lemmas.List.Elements.{filter-append}
use Rattle.std.proofs.lemmas.List.{drop_all, length-drop, length-take, map-append}
use Rattle.std.specs.List.{flat_map}
use Rattle.tally_records.specs.Records.{Records, Logins, Procs, IsProcs, procs_in, record_count}
use Rattle.tally_records.specs.declared.batch.Kind.TheVariants.{Proc}
use Rattle.tally_records.specs.declared.process.ProcRecord.{ProcRecord}
use Rattle.tally_usage.specs.Choice.{chosen, is_chosen}
use Rattle.tally_usage.specs.Sums.{AreSumsOf, Counted, CountsMore}
use Rattle.tally_usage.specs.declared.choice.ProcChoice.{ProcChoice}
use Rattle.tally_usage.proofs.ChoiceLemmas.{length-chosen}
use Rattle.tally_usage.specs.declared.usage.TheConstants.{SUMS_LIMIT}
use Rattle.tally_usage.proofs.SumsLemmas.{count_is}
use Rattle.tally_desk.specs.Blocks.{block_fault, block_size, blocks, feed_fault}
use Rattle.tally_desk.specs.Takings.{TakesAtMost}
use Rattle.tally_desk.specs.Batches.{records_in}
use Rattle.tally_desk.specs.Counting.{AreSumsOfAtMost, IsCounted, count_fault}
use Rattle.tally_desk.specs.Feeds.{IsFull}
use Rattle.tally_desk.specs.inside.CountStops.{IsFirstFault, IsPlace}
use Rattle.tally_desk.specs.inside.Turns.{IsBatch, IsInBlock, IsReadFault, TakesBlock, TurnStops}
use Rattle.tally_desk.specs.declared.fault.FeedFault.{FeedFault}
use Rattle.tally_desk.specs.declared.fault.FeedFault.TheVariants.{Memory, Read, Torn, TooLong, Bad, LoginsFull, ProcsFull, CallsFull}
use Rattle.tally_desk.proofs.JoinLemmas.{covers_all, covers_more, covers_none, Covers}
use Rattle.std.specs.Prelude.{slice_get}
use Rattle.std.specs.List.{enumerate_from, filter_map}
use Rattle.tally_desk.proofs.BlockLemmas.{block_size_some}
use Rattle.tally_desk.proofs.Pieces.{pieces-more, pieces-nil}
use Rattle.tally_desk.proofs.TakeLemmas.{takes_more}

-- these are the sums of the chosen records of the batches
abbrev pub SumUp : ProcChoice → Counted → List Records → Type 0
SumUp choice s batches = AreSumsOf s (chosen choice (flat_map procs_in batches))

-- records of so many full blocks were counted
pub record HasCounted (s : Counted) (turn : ℕ) : Type 0 where
  pub records : List ProcRecord
  pub sums : AreSumsOf s records
  pub count : length records ≤ turn * 1024

pub nothing_counted : (s : Counted) → AreSumsOf s [] → HasCounted s 0
nothing_counted s sums = record { records = []; sums = sums; count = omega arith }

-- a batch of process records has as many
pub procs_count : (batch : Records) → IsProcs batch → length (procs_in batch) ≡ record_count batch
procs_count (Logins records) is = cc
procs_count (Procs records) is = refl

-- there is room for another block
pub has_room : (most : ℕ) (s : Counted) (turn : ℕ) (batch : Records) → HasCounted s turn → turn < most → most ≤ 262144 → IsBatch Proc batch
    → (rs : List ProcRecord) × AreSumsOf s rs × (length rs + record_count batch ≤ SUMS_LIMIT)
has_room most s turn batch counted early all is = (counted.records, counted.sums, omega (arith, counted.count, is.few))

-- so it is not full
pub never_full : {X : Type 0} → (s : Counted) (n : ℕ) → (rs : List ProcRecord) × AreSumsOf s rs × (length rs + n ≤ SUMS_LIMIT) → SUMS_LIMIT < s.total.count + n → X
never_full s n known over = absurd (omega (arith, count_is s known.0 known.1, known.2, over))

-- one more full block
pub block_counted : (choice : ProcChoice) (s t : Counted) (turn : ℕ) (batch : Records) → HasCounted s turn → IsBatch Proc batch → CountsMore s t (chosen choice (procs_in batch)) → HasCounted t (turn + 1)
block_counted choice s t turn batch counted is more = record {
  records = counted.records ++ chosen choice (procs_in batch);
  sums = more counted.records counted.sums;
  count = omega (arith, length-append counted.records (chosen choice (procs_in batch)), length-chosen choice (procs_in batch), counted.count, procs_count batch is.of_kind, is.few);
}

-- sums of some records
pub some_counted : (most : ℕ) (s : Counted) (turn : ℕ) → HasCounted s turn → turn ≤ most → AreSumsOfAtMost (most * 1024) s
some_counted most s turn counted few = (counted.records, counted.sums, omega (arith, counted.count, few))

-- one more batch
sum_more : (choice : ProcChoice) (s t : Counted) (batches : List Records) (batch : Records) → CountsMore s t (chosen choice (procs_in batch)) → SumUp choice s batches → SumUp choice t (batches ++ batch ∷ [])
sum_more choice s t batches batch more sums =
    subst (AreSumsOf t)
    (sym (ap (chosen choice) (flat_map-append procs_in batches (batch ∷ []) ∙ ap (λ l. flat_map procs_in batches ++ l) (append-nil (procs_in batch)))
    ∙ filter-append (is_chosen choice) (flat_map procs_in batches) (procs_in batch)))
    (more (chosen choice (flat_map procs_in batches)) sums)

-- the first fault of the blocks that are numbered from `index`
abbrev pub fault_from : ℕ → ℕ → ℕ → List ℕ → Option FeedFault
fault_from most total index rest = slice_get (filter_map (block_fault most Proc total) (enumerate_from index (blocks Proc rest))) 0

module _ (most total index : ℕ) (rest : List ℕ) where
  fault-end : rest ≡ [] → fault_from most total index rest ≡ None
  fault-end none = ap (λ r. fault_from most total index r) none ∙ ap (λ bs. slice_get (filter_map (block_fault most Proc total) (enumerate_from index bs)) 0) (pieces-nil (block_size Proc))

  fault-here : (f : FeedFault) → 0 < length rest → block_fault most Proc total (index, take (block_size Proc) rest) ≡ Some f
      → fault_from most total index rest ≡ Some f
  fault-here f some bad = ap (λ bs. slice_get (filter_map (block_fault most Proc total) (enumerate_from index bs)) 0) (pieces-more (block_size Proc) rest (block_size_some Proc) some) ∙ rw bad refl

  fault-later : 0 < length rest → block_fault most Proc total (index, take (block_size Proc) rest) ≡ None
      → fault_from most total index rest ≡ fault_from most total (index + 1) (drop (block_size Proc) rest)
  fault-later some good = ap (λ bs. slice_get (filter_map (block_fault most Proc total) (enumerate_from index bs)) 0) (pieces-more (block_size Proc) rest (block_size_some Proc) some) ∙ rw good refl

-- an input has the fault of `feed`
pub fault_of_feed : (most : ℕ) (bytes : List ℕ) → count_fault most bytes ≡ feed_fault most Proc bytes
fault_of_feed most bytes = refl

-- the first blocks were counted, `turn` in number, and these bytes are to come
pub record CountedTo (choice : ProcChoice) (most : ℕ) (bytes : List ℕ) (s : Counted) (turn : ℕ) (rest : List ℕ) : Type 0 where
  pub done : List (List ℕ)
  pub posted : SumUp choice s (map (records_in Proc) done)
  pub fault : fault_from most (length bytes) turn rest ≡ count_fault most bytes
  pub covers : Covers Proc bytes done rest

-- the same, of an input whose bytes to come are known
pub record ToldCount (choice : ProcChoice) (most : ℕ) (now : Option (List ℕ)) (s : Counted) (turn : ℕ) (bytes : List ℕ) : Type 0 where
  pub rest : List ℕ
  pub to_come : now ≡ Some rest
  pub total : length bytes ≡ turn * block_size Proc + length rest
  pub fed : CountedTo choice most bytes s turn rest

module _ (choice : ProcChoice) (most : ℕ) (bytes : List ℕ) where
  none_summed : (s : Counted) → AreSumsOf s [] → CountedTo choice most bytes s 0 bytes
  none_summed s empty = record { done = []; posted = empty; fault = refl; covers = covers_none Proc bytes }

  block_summed : (s t : Counted) (turn : ℕ) (rest : List ℕ) → CountedTo choice most bytes s turn rest → 0 < length rest
      → block_fault most Proc (length bytes) (turn, take (block_size Proc) rest) ≡ None
      → CountsMore s t (chosen choice (procs_in (records_in Proc (take (block_size Proc) rest))))
      → CountedTo choice most bytes t (turn + 1) (drop (block_size Proc) rest)
  block_summed s t turn rest fed some ok more =
      let block = take (block_size Proc) rest in
      record {
        done = fed.done ++ block ∷ [];
        posted = subst (SumUp choice t) (sym (map-append (records_in Proc) fed.done (block ∷ [])))
            (sum_more choice s t (map (records_in Proc) fed.done) (records_in Proc block) more fed.posted);
        fault = sym (fault-later most (length bytes) turn rest some ok) ∙ fed.fault;
        covers = covers_more Proc bytes fed.done rest fed.covers;
      }

  all_summed : (s : Counted) (turn : ℕ) (rest : List ℕ) → CountedTo choice most bytes s turn rest → rest ≡ [] → IsCounted choice most bytes s
  all_summed s turn rest fed end =
      let joined = covers_all Proc bytes fed.done (subst (Covers Proc bytes fed.done) end fed.covers) in
      record {
        no_fault = sym fed.fault ∙ fault-end most (length bytes) turn rest end;
        sums = subst (λ rs. AreSumsOf s (chosen choice rs)) joined.procs fed.posted;
      }

  fault_is : (s : Counted) (turn : ℕ) (rest : List ℕ) (f : FeedFault) → CountedTo choice most bytes s turn rest → length bytes ≡ turn * block_size Proc + length rest → 0 < length rest
      → block_fault most Proc (turn * block_size Proc + length rest) (turn, take (block_size Proc) rest) ≡ Some f → count_fault most bytes ≡ Some f
  fault_is s turn rest f fed total some bad =
      sym fed.fault ∙ fault-here most (length bytes) turn rest f some (ap (λ n. block_fault most Proc n (turn, take (block_size Proc) rest)) total ∙ bad)

  -- a turn that took nothing
  stopped : (s : Counted) (turn : ℕ) (rest : List ℕ) (f : FeedFault) → CountedTo choice most bytes s turn rest → length bytes ≡ turn * block_size Proc + length rest → TurnStops most Proc turn rest f → IsFirstFault most bytes f
  stopped s turn rest Memory fed total stops = tt
  stopped s turn rest Read fed total stops = tt
  stopped s turn rest (Torn records torn) fed total stops = fault_is s turn rest _ fed total stops.0 stops.1
  stopped s turn rest (TooLong limit) fed total stops = fault_is s turn rest _ fed total stops.0 stops.1
  stopped s turn rest (Bad at fault) fed total stops = fault_is s turn rest _ fed total stops.0 stops.1
  stopped s turn rest (LoginsFull stored) fed total stops = absurd stops.1
  stopped s turn rest (ProcsFull stored) fed total stops = absurd stops.1
  stopped s turn rest CallsFull fed total stops = absurd stops.1

pub begins_count : (choice : ProcChoice) (most : ℕ) (bytes : List ℕ) (now : Option (List ℕ)) (s : Counted) → AreSumsOf s [] → now ≡ Some bytes → ToldCount choice most now s 0 bytes
begins_count choice most bytes now s empty tells = record { rest = bytes; to_come = tells; total = omega arith; fed = none_summed choice most bytes s empty }

full_size : (n : ℕ) → n / 64 ≡ 1024 → n ≤ 65536 → n ≡ 65536
full_size n is few = omega arith

short_size : (n : ℕ) → n / 64 < 1024 → n < 65536
short_size n short = omega arith

module _ (choice : ProcChoice) (most : ℕ) (bytes : List ℕ) (now : Option (List ℕ)) where
  -- a turn that stops a count
  pub told_fault : (s : Counted) (turn : ℕ) (f : FeedFault) → (told : ToldCount choice most now s turn bytes) → TurnStops most Proc turn told.rest f → IsFirstFault most bytes f
  told_fault s turn f told stops = stopped choice most bytes s turn told.rest f told.fed told.total stops

  next_summed : (after : Option (List ℕ)) (s t : Counted) (turn : ℕ) (batch : Records) → (told : ToldCount choice most now s turn bytes)
      → TakesBlock most Proc turn told.rest after batch → CountsMore s t (chosen choice (procs_in batch)) → CountedTo choice most bytes t (turn + 1) (drop (block_size Proc) told.rest)
  next_summed after s t turn batch told takes more =
      block_summed choice most bytes s t turn told.rest told.fed takes.some
      (ap (λ n. block_fault most Proc n (turn, take (block_size Proc) told.rest)) told.total ∙ takes.good)
      (subst (λ b. CountsMore s t (chosen choice (procs_in b))) takes.batch_is more)

  -- a full block
  pub told_block : (after : Option (List ℕ)) (s t : Counted) (turn : ℕ) (batch : Records) → (told : ToldCount choice most now s turn bytes)
      → TakesBlock most Proc turn told.rest after batch → CountsMore s t (chosen choice (procs_in batch)) → IsFull batch → ToldCount choice most after t (turn + 1) bytes
  told_block after s t turn batch told takes more full =
      let few : length (take (block_size Proc) told.rest) ≤ block_size Proc = omega (arith, length-take (block_size Proc) told.rest) in
      let size : length (take (block_size Proc) told.rest) ≡ block_size Proc = full_size _ (sym takes.count ∙ full) few in
      let long : block_size Proc ≤ length told.rest = omega (arith, length-take (block_size Proc) told.rest, size) in
      let next : (turn + 1) * block_size Proc ≡ turn * block_size Proc + block_size Proc = omega arith in
      record {
        rest = drop (block_size Proc) told.rest;
        to_come = takes.left_is;
        total = omega (arith, told.total, next, long, length-drop (block_size Proc) told.rest);
        fed = next_summed after s t turn batch told takes more;
      }

  -- a short block, which is the last
  pub told_last : (after : Option (List ℕ)) (s t : Counted) (turn : ℕ) (batch : Records) → (told : ToldCount choice most now s turn bytes)
      → TakesBlock most Proc turn told.rest after batch → CountsMore s t (chosen choice (procs_in batch)) → record_count batch < 1024 → IsCounted choice most bytes t
  told_last after s t turn batch told takes more short =
      let size : length (take (block_size Proc) told.rest) < block_size Proc = short_size _ (subst (λ n. n < 1024) takes.count short) in
      let end : length told.rest ≤ block_size Proc = omega (arith, length-take (block_size Proc) told.rest) in
      all_summed choice most bytes t (turn + 1) (drop (block_size Proc) told.rest) (next_summed after s t turn batch told takes more) (drop_all (block_size Proc) told.rest end)

  -- the end of the input
  pub told_whole : (s : Counted) (turn : ℕ) → (told : ToldCount choice most now s turn bytes) → told.rest ≡ [] → IsCounted choice most bytes s
  told_whole s turn told end = all_summed choice most bytes s turn told.rest told.fed end

-- the end that was not there is a fault of the reading
pub end_is_reading : (limit : ℕ) (f : FeedFault) → (f ≡ Read) ⊎ (f ≡ TooLong limit) → IsReadFault f
end_is_reading limit f (inl read) = subst IsReadFault (sym read) tt
end_is_reading limit f (inr long) = subst IsReadFault (sym long) tt

-- a fault in a block
pub place_in : (most count : ℕ) (f : FeedFault) → IsInBlock Proc count f → IsPlace most count f
place_in most count Memory place = tt
place_in most count Read place = tt
place_in most count (Torn records torn) place = place
place_in most count (TooLong limit) place = absurd place
place_in most count (Bad at fault) place = place
place_in most count (LoginsFull stored) place = tt
place_in most count (ProcsFull stored) place = tt
place_in most count CallsFull place = tt

-- the end that was not there
pub place_after : (most turn : ℕ) (fault : FeedFault) → turn ≡ most → (fault ≡ Read) ⊎ (fault ≡ TooLong (1024 * most)) → IsPlace most turn fault
place_after most turn fault last (inl read) = subst (IsPlace most turn) (sym read) tt
place_after most turn fault last (inr long) = subst (IsPlace most turn) (sym long) (last, refl)

-- how much a count takes
module _ (most turn : ℕ) (a b c : Option (List ℕ)) (so_far : TakesAtMost (turn * block_size Proc) a b) where
  pub count_few : TakesAtMost (block_size Proc) b c → turn < most → TakesAtMost (most * block_size Proc + 1) a c
  count_few block early = takes_more _ _ _ a b c so_far block (omega (arith, early))

  pub count_last : TakesAtMost 1 b c → turn ≤ most → TakesAtMost (most * block_size Proc + 1) a c
  count_last byte early = takes_more _ _ _ a b c so_far byte (omega (arith, early))

pub turns_within : (most turn : ℕ) → turn < most → turn ≤ most
turns_within most turn early = omega (arith, early)

pub turns_all : (most turn : ℕ) → turn ≤ most → most ≤ turn → turn ≡ most
turns_all most turn few many = omega (arith, few, many)
