-- What one turn of a feed does.
use Rattle.std.proofs.Common.{◌≡◌, ◌∙◌, ◌++◌, ◌≤◌, ◌<◌, ◌+◌, ◌*◌, ◌/◌, ◌%◌, ◌⊎◌, inl, inr, ℕ, List, [], Option, Some, None, take, drop, length, ap, refl, sym, subst, arith, length-take-le, append-nil, drop_at, length-append}
use Rattle.std.proofs.lemmas.Bool.{cases_lt, le-leb}
use Rattle.std.proofs.lemmas.List.{drop_all, take_all}
use Rattle.std.specs.Io.KnownBytes.{Consumes, IsAtEnd}
use lib.Seq.{take-append-le}
use Rattle.tally_records.specs.Records.{Records, kind_of, record_count}
use Rattle.tally_desk.specs.Batches.{record_size, records_in, stored_kind}
use Rattle.tally_records.specs.declared.batch.Kind.{Kind}
use Rattle.tally_records.specs.declared.batch.Kind.TheVariants.{Login, FailedLogin, Proc}
use Rattle.tally_desk.specs.Blocks.{block_fault, block_size}
use Rattle.tally_desk.specs.inside.Turns.{Gives, IsBatch, IsBlockRefusal, IsReadFault, TakesBlock, TurnStops}
use Rattle.tally_desk.specs.declared.fault.FeedFault.{FeedFault}
use Rattle.tally_desk.specs.declared.fault.FeedFault.TheVariants.{Memory, Read, Torn, TooLong, Bad, LoginsFull, ProcsFull, CallsFull}
use Rattle.tally_desk.proofs.BlockLemmas.{any_total, block_size_whole}

-- a block of `size` bytes was filled up to n
module _ (block : List ℕ) (n size : ℕ) (within : n ≤ length block) (few : n ≤ size) where
  pub filled_length : length (take n block) ≡ n
  filled_length = length-take-le n block within

  -- it has the front of the bytes to come
  pub front_is : (rest ys : List ℕ) → rest ≡ take n block ++ ys → (n < size → ys ≡ []) → take size rest ≡ take n block
  front_is rest ys parts end = elim (cases_lt n size) [
    | inl short ↦
        let all : rest ≡ take n block = parts ∙ ap (λ l. take n block ++ l) (end short) ∙ append-nil (take n block) in
        take_all size rest (omega (arith, ap length all, filled_length)) ∙ all
    | inr over ↦
        let at : size ≡ n = omega arith in
        ap (take size) parts ∙ take-append-le size (take n block) ys (omega (arith, filled_length)) ∙ take_all size (take n block) (omega (arith, filled_length))
  ]

  -- and what follows it is left
  pub back_is : (rest ys : List ℕ) → rest ≡ take n block ++ ys → (n < size → ys ≡ []) → drop size rest ≡ ys
  back_is rest ys parts end = elim (cases_lt n size) [
    | inl short ↦
        let all : rest ≡ take n block = parts ∙ ap (λ l. take n block ++ l) (end short) ∙ append-nil (take n block) in
        drop_all size rest (omega (arith, ap length all, filled_length)) ∙ sym (end short)
    | inr over ↦
        ap (drop size) parts ∙ drop_at (take n block) ys size (filled_length ∙ omega arith)
  ]

kind_of_records : (kind : Kind) (bytes : List ℕ) → kind_of (records_in kind bytes) ≡ stored_kind kind
unfolding records_in
kind_of_records Login bytes = refl
kind_of_records FailedLogin bytes = refl
kind_of_records Proc bytes = refl

some_records : (kind : Kind) (n : ℕ) → n % record_size kind ≡ 0 → 0 < n → 0 < n / record_size kind
some_records Login n whole some = omega arith
some_records FailedLogin n whole some = omega arith
some_records Proc n whole some = omega arith

few_records : (kind : Kind) (n : ℕ) → n ≤ block_size kind → n / record_size kind ≤ 1024
few_records Login n few = omega arith
few_records FailedLogin n few = omega arith
few_records Proc n few = omega arith

pub read_fault : (expected : Option FeedFault) (f : FeedFault) → Gives expected f → IsReadFault f
read_fault expected Memory gives = tt
read_fault expected Read gives = tt
read_fault expected (Torn records torn) gives = tt
read_fault expected (TooLong limit) gives = tt
read_fault expected (Bad at fault) gives = tt
read_fault expected (LoginsFull stored) gives = absurd gives
read_fault expected (ProcsFull stored) gives = absurd gives
read_fault expected CallsFull gives = absurd gives

pub never_read : {X : Type 0} → (expected : Option FeedFault) (f : FeedFault) → Gives expected f → f ≡ Read → X
never_read expected f gives is = absurd (subst (Gives expected) is gives)

module _ (most : ℕ) (kind : Kind) (turn : ℕ) (block : List ℕ) (n : ℕ) (within : n ≤ length block) (few : n ≤ block_size kind) where
  pub same_fault : (rest ys : List ℕ) → rest ≡ take n block ++ ys → (n < block_size kind → ys ≡ [])
      → block_fault most kind (turn * block_size kind + length rest) (turn, take (block_size kind) rest)
      ≡ block_fault most kind (turn * block_size kind + length (take n block)) (turn, take n block)
  same_fault rest ys parts end =
      ap (λ b. block_fault most kind (turn * block_size kind + length rest) (turn, b)) (front_is block n (block_size kind) within few rest ys parts end)
      ∙ elim (cases_lt n (block_size kind)) [
        | inl short ↦
            let all : rest ≡ take n block = parts ∙ ap (λ l. take n block ++ l) (end short) ∙ append-nil (take n block) in
            ap (λ l. block_fault most kind (turn * block_size kind + length l) (turn, take n block)) all
        | inr over ↦
            let whole : length (take n block) ≡ block_size kind = filled_length block n (block_size kind) within few ∙ omega arith in
            any_total most kind _ _ (turn, take n block) (ap (λ m. m % record_size kind) whole ∙ block_size_whole kind)
      ]

  some_left : (rest ys : List ℕ) → rest ≡ take n block ++ ys → 0 < length (take n block) → 0 < length rest
  some_left rest ys parts some = omega (arith, ap length parts, length-append (take n block) ys)

  -- its batch is that of the first block of the bytes to come
  pub takes_block : (rest : List ℕ) (left : Option (List ℕ)) (batch : Records) → 0 < n → Consumes (Some rest) left (take n block)
      → (n < block_size kind → IsAtEnd left)
      → block_fault most kind (turn * block_size kind + length (take n block)) (turn, take n block) ≡ None
      → batch ≡ records_in kind (take n block) → record_count batch ≡ length (take n block) / record_size kind
      → TakesBlock most kind turn rest left batch
  takes_block rest None batch any taken end good is count = absurd taken
  takes_block rest (Some ys) batch any taken end good is count =
      let long : length (take n block) ≡ n = filled_length block n (block_size kind) within few in
      let front = front_is block n (block_size kind) within few rest ys taken end in
      record {
        some = some_left rest ys taken (omega arith);
        good = same_fault rest ys taken end ∙ good;
        batch_is = is ∙ ap (records_in kind) (sym front);
        count = count ∙ ap (λ (b : List ℕ). length b / record_size kind) (sym front);
        left_is = ap Some (sym (back_is block n (block_size kind) within few rest ys taken end));
      }

  -- its fault stops a turn that has the bytes to come
  stops_before : (rest ys : List ℕ) → rest ≡ take n block ++ ys → (n < block_size kind → ys ≡ []) → 0 < n → (f : FeedFault)
      → IsBlockRefusal most kind turn (take n block) f → TurnStops most kind turn rest f
  stops_before rest ys parts end any f refusal = by f refusal
    where
      some : 0 < length rest
      some = some_left rest ys parts (let long : length (take n block) ≡ n = filled_length block n (block_size kind) within few in omega arith)

      same : (g : FeedFault) → IsBlockRefusal most kind turn (take n block) g
          → Gives (block_fault most kind (turn * block_size kind + length rest) (turn, take (block_size kind) rest)) g
      same g = subst (λ (e : Option FeedFault). Gives e g) (sym (same_fault rest ys parts end))

      by : (g : FeedFault) → IsBlockRefusal most kind turn (take n block) g → TurnStops most kind turn rest g
      by Memory is = tt
      by Read is = tt
      by (Torn records torn) is = (some, same (Torn records torn) is)
      by (TooLong limit) is = (some, same (TooLong limit) is)
      by (Bad at fault) is = (some, same (Bad at fault) is)
      by (LoginsFull stored) is = absurd is
      by (ProcsFull stored) is = absurd is
      by CallsFull is = absurd is

  pub stops_here : (rest : List ℕ) (left : Option (List ℕ)) → 0 < n → Consumes (Some rest) left (take n block) → (n < block_size kind → IsAtEnd left) → (f : FeedFault)
      → IsBlockRefusal most kind turn (take n block) f → TurnStops most kind turn rest f
  stops_here rest None any taken end f refusal = absurd taken
  stops_here rest (Some ys) any taken end f refusal = stops_before rest ys taken end any f refusal

  -- what a block of whole records has
  pub is_batch : (batch : Records) → 0 < n → length (take n block) % record_size kind ≡ 0 → batch ≡ records_in kind (take n block)
      → record_count batch ≡ length (take n block) / record_size kind → IsBatch kind batch
  is_batch batch any whole is count =
      let long : length (take n block) ≡ n = filled_length block n (block_size kind) within few in
      let short : length (take n block) ≤ block_size kind = omega arith in
      let all : record_count batch ≡ length (take n block) / record_size kind = count in
      record {
        of_kind = ap kind_of is ∙ kind_of_records kind (take n block);
        some = subst (λ m. 0 < m) (sym all) (some_records kind (length (take n block)) whole (omega arith));
        few = subst (λ m. m ≤ 1024) (sym all) (few_records kind (length (take n block)) short);
      }

-- the turn after the last block
pub last_turn_stops : (most : ℕ) (kind : Kind) (turn : ℕ) (rest : List ℕ) (f : FeedFault) → turn ≡ most → (f ≡ Read) ⊎ (f ≡ TooLong (1024 * most))
    → (f ≡ TooLong (1024 * most) → 0 < length rest) → TurnStops most kind turn rest f
last_turn_stops most kind turn rest f last (inl read) some = subst (TurnStops most kind turn rest) (sym read) tt
last_turn_stops most kind turn rest f last (inr long) some =
    let gives : block_fault most kind (turn * block_size kind + length rest) (turn, take (block_size kind) rest) ≡ Some (TooLong (1024 * most)) =
    rw (le-leb most turn (omega (arith, last))) refl in
    subst (TurnStops most kind turn rest) (sym long) (some long, gives)
