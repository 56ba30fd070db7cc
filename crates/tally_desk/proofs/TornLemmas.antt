-- The fault of a block that ends inside a record.
use Rattle.std.proofs.Common.{◌≡◌, ◌≢◌, ◌∙◌, ◌+◌, ◌*◌, ◌/◌, ◌%◌, ◌<◌, ℕ, List, Option, Some, None, length, ap, refl, sym, subst, arith, length-take-le}
use Rattle.std.proofs.lemmas.Bool.Decides.{nat_tests}
use Rattle.std.specs.Prelude.{not, nat_le, ◌==◌, true, false, unwrap_or}
use Rattle.tally_records.specs.declared.batch.Kind.{Kind}
use Rattle.tally_records.specs.declared.batch.Kind.TheVariants.{Login, FailedLogin, Proc}
use Rattle.tally_desk.specs.Batches.{record_size}
use Rattle.tally_desk.specs.Blocks.{block_size, fault_before_end, block_fault, torn_fault, whole_records}
use Rattle.tally_desk.specs.declared.fault.FeedFault.{FeedFault}
use Rattle.tally_desk.specs.declared.fault.FeedFault.TheVariants.{Memory, Read, Torn, TooLong, Bad, LoginsFull, ProcsFull, CallsFull}
use Rattle.tally_desk.specs.inside.Turns.{Gives, IsBlockRefusal}

-- as many bytes as the whole records have
pub whole_length : (kind : Kind) (bytes : List ℕ) → length (whole_records kind bytes) ≡ length bytes / record_size kind * record_size kind
whole_length Login bytes = length-take-le (length bytes / 384 * 384) bytes (omega arith)
whole_length FailedLogin bytes = length-take-le (length bytes / 384 * 384) bytes (omega arith)
whole_length Proc bytes = length-take-le (length bytes / 64 * 64) bytes (omega arith)

early : (most turn : ℕ) → turn < most → nat_le most turn ≡ false
early most turn lt = grind (arith, nat_tests)

torn : (n : ℕ) → n ≢ 0 → not (n == 0) ≡ true
torn n other = grind (arith, nat_tests)

-- a torn block within the limit is refused for its torn end, or for what is named in its place
torn_is : (most : ℕ) (kind : Kind) (total turn : ℕ) (bytes : List ℕ) → turn < most → length bytes % record_size kind ≢ 0
    → block_fault most kind total (turn, bytes) ≡ Some (torn_fault kind total (turn, bytes))
torn_is most kind total turn bytes lt other = rw (early most turn lt, torn (length bytes % record_size kind) other) refl

pub torn_refusal : (most : ℕ) (kind : Kind) (turn : ℕ) (bytes : List ℕ) (f : FeedFault) → turn < most → length bytes % record_size kind ≢ 0
    → Gives (Some (torn_fault kind (turn * block_size kind + length bytes) (turn, bytes))) f → IsBlockRefusal most kind turn bytes f
torn_refusal most kind turn bytes f lt other gives =
    subst (λ (e : Option FeedFault). Gives e f) (sym (torn_is most kind (turn * block_size kind + length bytes) turn bytes lt other)) gives

given : (expected : Option FeedFault) (otherwise f : FeedFault) → expected ≡ Some f → Some (unwrap_or expected otherwise) ≡ Some f
given expected otherwise f is = ap (λ (e : Option FeedFault). Some (unwrap_or e otherwise)) is

-- a fault that is expected is named, and not the other
gives_expected : (expected : Option FeedFault) (otherwise f : FeedFault) → Gives expected f → Gives (Some (unwrap_or expected otherwise)) f
gives_expected expected otherwise Memory gives = tt
gives_expected expected otherwise Read gives = absurd gives
gives_expected expected otherwise (Torn records rest) gives = given expected otherwise (Torn records rest) gives
gives_expected expected otherwise (TooLong limit) gives = given expected otherwise (TooLong limit) gives
gives_expected expected otherwise (Bad at fault) gives = given expected otherwise (Bad at fault) gives
gives_expected expected otherwise (LoginsFull stored) gives = absurd gives
gives_expected expected otherwise (ProcsFull stored) gives = absurd gives
gives_expected expected otherwise CallsFull gives = absurd gives

-- what is named in the place of a torn end
pub before_gives : (kind : Kind) (total turn : ℕ) (bytes : List ℕ) (f : FeedFault) → Gives (fault_before_end kind (turn, bytes)) f → Gives (Some (torn_fault kind total (turn, bytes))) f
before_gives kind total turn bytes f gives = gives_expected (fault_before_end kind (turn, bytes)) (Torn (total / record_size kind) (total % record_size kind)) f gives

records_before : (kind : Kind) (turn n : ℕ) → (turn * block_size kind + n) / record_size kind ≡ turn * 1024 + n / record_size kind
records_before Login turn n = omega arith
records_before FailedLogin turn n = omega arith
records_before Proc turn n = omega arith

rest_of : (kind : Kind) (turn n : ℕ) → (turn * block_size kind + n) % record_size kind ≡ n % record_size kind
rest_of Login turn n = omega arith
rest_of FailedLogin turn n = omega arith
rest_of Proc turn n = omega arith

-- else the torn end itself, with the numbers of the block
pub torn_here : (kind : Kind) (turn : ℕ) (bytes : List ℕ) → fault_before_end kind (turn, bytes) ≡ None
    → Some (torn_fault kind (turn * block_size kind + length bytes) (turn, bytes)) ≡ Some (Torn (turn * 1024 + length bytes / record_size kind) (length bytes % record_size kind))
torn_here kind turn bytes none =
    ap (λ (e : Option FeedFault). Some (unwrap_or e (Torn ((turn * block_size kind + length bytes) / record_size kind) ((turn * block_size kind + length bytes) % record_size kind)))) none
    ∙ (λ i. Some (Torn (records_before kind turn (length bytes) i) (rest_of kind turn (length bytes) i)))
