-- How far a count of login records has come.
use Rattle.std.proofs.Common.{◌≡◌, ◌∙◌, ◌++◌, ◌≤◌, ◌<◌, ◌+◌, ◌*◌, ℕ, List, [], ◌∷◌, Option, map, length, ap, sym, subst, refl, arith, append-nil, length-append}
use Rattle.std.specs.Prelude.{sum_by}
use Rattle.std.proofs.lemmas.Grind.{flat_map-append}
use Rattle.std.proofs.lemmas.List.{map-append}
use Rattle.std.proofs.lemmas.List.Concat.{length-flat_map}
use Rattle.std.proofs.lemmas.List.Sums.{sum_by-append}
use Rattle.std.specs.List.{flat_map}
use Rattle.tally_records.specs.Records.{Records, Logins, Procs, IsLogins, logins_in, record_count}
use Rattle.tally_records.specs.declared.batch.Kind.TheVariants.{Login}
use Rattle.tally_records.specs.declared.login.LoginRecord.{LoginRecord}
use Rattle.tally_sessions.specs.ConnectSums.{Counted, CountsMore, IsCountOf}
use Rattle.tally_sessions.specs.declared.sessions.TheConstants.{ENTRY_LIMIT}
use Rattle.tally_desk.specs.Batches.{records_in}
use Rattle.tally_desk.specs.Feeds.{IsAfter, IsFull, IsWhole, good_batches}
use Rattle.tally_desk.specs.LoginCounting.{IsCountOfAtMost, IsLoginCount, IsLoginFault, IsLoginStop, IsOfInput, IsStoppedLoginCount, good_logins}
use Rattle.tally_desk.specs.inside.LoginStops.{stopped_with}
use Rattle.tally_desk.specs.inside.Turns.{IsBatch, IsReadFault, TurnStops}
use Rattle.tally_desk.specs.declared.fault.FeedFault.{FeedFault}
use Rattle.tally_desk.specs.declared.fault.FeedFault.TheVariants.{Memory, Read, Torn, TooLong, Bad, LoginsFull, ProcsFull, CallsFull}
use Rattle.tally_desk.proofs.BlockLemmas.{good_from}
use Rattle.tally_desk.proofs.Taken.{Adds, Told, told_bad}

-- this is the count of the login records of the batches
abbrev pub CountsIn : Counted → List Records → Type 0
CountsIn s batches = IsCountOf s (flat_map logins_in batches)

-- one more batch
pub counts_one : (s t : Counted) (batch : Records) → CountsMore s t (logins_in batch) → Adds (CountsIn s) (CountsIn t) batch
counts_one s t batch more batches counted =
    subst (IsCountOf t)
    (sym (flat_map-append logins_in batches (batch ∷ []) ∙ ap (λ l. flat_map logins_in batches ++ l) (append-nil (logins_in batch))))
    (more (flat_map logins_in batches) counted)

-- the records of so many full blocks were counted
pub record HasCounted (s : Counted) (turn : ℕ) : Type 0 where
  pub records : List LoginRecord
  pub sums : IsCountOf s records
  pub count : length records ≡ turn * 1024

pub nothing_counted : (s : Counted) → IsCountOf s [] → HasCounted s 0
nothing_counted s sums = record { records = []; sums = sums; count = omega arith }

-- a batch of login records has as many
logins_count : (batch : Records) → IsLogins batch → length (logins_in batch) ≡ record_count batch
logins_count (Logins records) is = refl
logins_count (Procs records) is = cc

-- there is room for another block
pub has_room : (most : ℕ) (s : Counted) (turn : ℕ) (batch : Records) → HasCounted s turn → turn < most → most ≤ 16384 → IsBatch Login batch → s.count + record_count batch ≤ ENTRY_LIMIT
has_room most s turn batch counted early all is = omega (arith, counted.sums.count, counted.count, is.few)

-- one more full block
pub full_counted : (s t : Counted) (turn : ℕ) (batch : Records) → HasCounted s turn → IsBatch Login batch → IsFull batch → CountsMore s t (logins_in batch) → HasCounted t (turn + 1)
full_counted s t turn batch counted is full more = record {
  records = counted.records ++ logins_in batch;
  sums = more counted.records counted.sums;
  count = omega (arith, length-append counted.records (logins_in batch), counted.count, logins_count batch is.of_kind, full);
}

-- the count of full blocks
pub some_counted : (most : ℕ) (s : Counted) (turn : ℕ) → HasCounted s turn → turn ≤ most → IsCountOfAtMost (most * 1024) s
some_counted most s turn counted few = (counted.records, counted.sums, omega (arith, counted.count, few))

-- the count of full blocks and of a last one
pub last_counted : (most : ℕ) (s t : Counted) (turn : ℕ) (batch : Records) → HasCounted s turn → turn < most → IsBatch Login batch → CountsMore s t (logins_in batch) → IsCountOfAtMost (most * 1024) t
last_counted most s t turn batch counted early is more = (
  counted.records ++ logins_in batch,
  more counted.records counted.sums,
  omega (arith, length-append counted.records (logins_in batch), counted.count, logins_count batch is.of_kind, is.few, early),
)

-- records of some batches are as many as their sum
logins_of_batches : (batches : List Records) (s : Counted) → CountsIn s batches → s.count ≡ sum_by (λ batch. length (logins_in batch)) batches
logins_of_batches batches s counted = counted.count ∙ length-flat_map logins_in batches

-- the end of the input
pub whole_count : (most : ℕ) (bytes : List ℕ) (s : Counted) → IsWhole most Login bytes (CountsIn s) → IsLoginCount most bytes s
whole_count most bytes s whole = record {
  no_fault = whole.no_fault;
  count = subst (IsCountOf s) whole.joined.logins whole.all;
  counted = logins_of_batches (good_batches most Login bytes) s whole.all;
}

module _ (most : ℕ) (bytes : List ℕ) (now : Option (List ℕ)) (s : Counted) (turn : ℕ) (told : Told most Login now (CountsIn s) turn bytes) where
  -- what was counted is of good blocks
  within_good : s.count ≤ good_logins most bytes
  within_good =
      let left = good_from most Login (length bytes) turn told.rest in
      let parts : good_batches most Login bytes ≡ map (records_in Login) told.fed.done ++ map (records_in Login) left =
      ap (map (records_in Login)) told.fed.good ∙ map-append (records_in Login) told.fed.done left in
      let all : good_logins most bytes ≡ sum_by (λ (batch : Records). length (logins_in batch)) (map (records_in Login) told.fed.done) + sum_by (λ (batch : Records). length (logins_in batch)) (map (records_in Login) left) =
      ap (sum_by (λ (batch : Records). length (logins_in batch))) parts ∙ sum_by-append (λ batch. length (logins_in batch)) (map (records_in Login) told.fed.done) (map (records_in Login) left) in
      omega (arith, all, logins_of_batches (map (records_in Login) told.fed.done) s told.fed.posted)

  first_fault : (f : FeedFault) → TurnStops most Login turn told.rest f → IsLoginFault most bytes f
  first_fault Memory stops = tt
  first_fault Read stops = tt
  first_fault (Torn records torn) stops = told_bad most Login bytes now (CountsIn s) turn told _ stops.0 stops.1
  first_fault (TooLong limit) stops = told_bad most Login bytes now (CountsIn s) turn told _ stops.0 stops.1
  first_fault (Bad at fault) stops = told_bad most Login bytes now (CountsIn s) turn told _ stops.0 stops.1
  first_fault (LoginsFull stored) stops = absurd stops.1
  first_fault (ProcsFull stored) stops = absurd stops.1
  first_fault CallsFull stops = absurd stops.1

  -- a turn that stops a count
  pub count_stops : (f : FeedFault) → TurnStops most Login turn told.rest f → IsLoginStop most bytes (stopped_with s.count f)
  count_stops f stops = record { fault = first_fault f stops; counted = within_good }

-- the place where full blocks end
pub stopped_count : (most : ℕ) (s : Counted) (turn : ℕ) (f : FeedFault) → HasCounted s turn → turn ≤ most → IsAfter most Login turn f → IsReadFault f → IsStoppedLoginCount most (stopped_with s.count f)
stopped_count most s turn f counted few place reading = record {
  blocks = turn;
  counted = omega (arith, counted.sums.count, counted.count);
  few = few;
  place = place;
  of_input = of_reading f reading;
}
  where
    of_reading : (g : FeedFault) → IsReadFault g → IsOfInput g
    of_reading Memory is = tt
    of_reading Read is = tt
    of_reading (Torn records torn) is = tt
    of_reading (TooLong limit) is = tt
    of_reading (Bad at fault) is = tt
    of_reading (LoginsFull stored) is = absurd is
    of_reading (ProcsFull stored) is = absurd is
    of_reading CallsFull is = absurd is

-- a block that was refused for want of memory leaves all as it was
module _ (s t : Counted) (same : t ≡ s) (turn : ℕ) where
  pub still_counted : HasCounted s turn → HasCounted t turn
  still_counted counted = subst (λ c. HasCounted c turn) (sym same) counted

  pub still_told : (most : ℕ) (now : Option (List ℕ)) (bytes : List ℕ) → Told most Login now (CountsIn s) turn bytes → Told most Login now (CountsIn t) turn bytes
  still_told most now bytes told = subst (λ (c : Counted). Told most Login now (CountsIn c) turn bytes) (sym same) told
