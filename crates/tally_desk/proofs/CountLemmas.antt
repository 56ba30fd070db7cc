-- Counts of what was posted.
use Rattle.std.proofs.Common.{◌⊎◌, ◌≡◌, ◌∙◌, ◌++◌, ◌<◌, ◌+◌, ◌-◌, ◌≤◌, ◌*◌, inl, inr, ℕ, List, [], ◌∷◌, take, length, ap, sym, subst, refl, arith, length-append, ne_eqb, false}
use Rattle.std.specs.Prelude.{◌==◌, if◌then◌else◌, sum_by}
use Rattle.std.specs.List.{All}
use Rattle.std.proofs.Math.Seq.{take-length}
use Rattle.std.proofs.lemmas.List.Sums.{sum_by-append}
use Rattle.std.proofs.lemmas.List.Elements.{All-drop, All-nil, All-push, All-take, All-weaker}
use lib.Seq.{take-append-le}
use Rattle.tally_records.specs.Records.{Records, kind_of, record_count}
use Rattle.tally_book.specs.declared.fault.PostFault.{PostFault}
use Rattle.tally_book.specs.declared.fault.PostFault.TheVariants as post
use Rattle.tally_records.specs.declared.batch.Kind.{Kind}
use Rattle.tally_desk.specs.Batches.{stored_kind}
use Rattle.tally_desk.specs.Feeds.{AreOf, Counts, IsAfter, IsFull, IsStopped, Posts, refusal_of}
use Rattle.tally_desk.specs.inside.Turns.{IsBatch, IsInBlock}
use Rattle.tally_desk.specs.declared.fault.FeedFault.{FeedFault}
use Rattle.tally_desk.specs.declared.fault.FeedFault.TheVariants.{Memory, Read, Torn, TooLong, Bad, LoginsFull, ProcsFull, CallsFull}
use Rattle.tally_desk.specs.Passes.{PassState, deeds}
use Rattle.tally_desk.specs.declared.feeding.Fed.{Fed}
use Rattle.tally_desk.proofs.PostLemmas.{posts_more, posts_none, posts_same}
use Rattle.tally_desk.proofs.FeedLemmas.{FullPosts}

sum_full : (xs : List Records) → All IsFull xs → sum_by (λ b. record_count b) xs ≡ length xs * 1024
sum_full [] full = refl
sum_full (x ∷ xs) full =
    let here : record_count x ≡ 1024 = full 0 x (omega arith) in
    let one : sum_by (λ (b : Records). record_count b) (x ∷ []) ≡ record_count x = omega arith in
    let rest = sum_full xs (All-drop IsFull 1 (x ∷ xs) full) in
    let long : length (x ∷ xs) ≡ length xs + 1 = omega arith in
    sum_by-append (λ b. record_count b) (x ∷ []) xs ∙ omega (arith, one, here, rest, long)

some_full : (xs : List Records) → All IsFull xs → All (λ b. 0 < record_count b) xs
some_full xs full = All-weaker IsFull (λ b. 0 < record_count b) (λ b h. omega arith) xs full

front_full : (xs : List Records) (n : ℕ) → All IsFull xs → All IsFull (take n xs)
front_full xs n full = All-take IsFull n xs full

pub one_more_batch : (n turn b : ℕ) → 0 < n → b ≡ turn + (if n == 0 then 0 else 1) → b ≡ turn + 1
one_more_batch n turn b some is =
    let not_zero : (n == 0) ≡ false = ne_eqb n 0 (λ none. let bad : ⊥ = absurd (omega arith) in bad) in
    rw not_zero at is

-- full batches alone
pub counts_full : (kind : Kind) (posts : List Records → Type 0) (turn : ℕ) (fed : Fed) → FullPosts kind posts turn → fed.batches ≡ turn → fed.records ≡ turn * 1024
    → (batches : List Records) × posts batches × Counts kind batches fed
counts_full kind posts turn fed full batches records = (
  full.batches,
  full.posted,
  record {
    of_kind = full.of_kind;
    batches = full.count ∙ sym batches;
    records = sum_full full.batches full.full ∙ ap (λ n. n * 1024) full.count ∙ sym records;
    some_records = some_full full.batches full.full;
    full = front_full full.batches (length full.batches - 1) full.full;
  },
)

module _ (kind : Kind) (old mid new : PassState) (turn : ℕ) (full : FullPosts kind (Posts old mid) turn) (batch : Records) (is : IsBatch kind batch) (posted : Posts mid new (batch ∷ [])) where
  all_of_kind : AreOf kind (full.batches ++ batch ∷ [])
  all_of_kind = All-push (λ b. kind_of b ≡ stored_kind kind) full.batches batch full.of_kind is.of_kind

  posted_all : Posts old new (full.batches ++ batch ∷ [])
  posted_all = posts_more old mid new full.batches (batch ∷ []) full.posted posted

  one_more : length (full.batches ++ batch ∷ []) ≡ turn + 1
  one_more = length-append full.batches (batch ∷ []) ∙ ap (λ m. m + 1) full.count

  -- full batches, and a last one
  pub counts_last : (fed : Fed) → fed.records ≡ turn * 1024 + record_count batch → fed.batches ≡ turn + 1
      → (batches : List Records) × Posts old new batches × Counts kind batches fed
  counts_last fed records batches =
      let front : take (length (full.batches ++ batch ∷ []) - 1) (full.batches ++ batch ∷ []) ≡ full.batches =
      ap (λ m. take m (full.batches ++ batch ∷ [])) (omega (arith, one_more, full.count)) ∙ take-append-le (length full.batches) full.batches (batch ∷ []) (omega arith) ∙ take-length full.batches in
      let alone : sum_by (λ (b : Records). record_count b) (batch ∷ []) ≡ record_count batch = omega arith in
      let all_records : sum_by (λ (b : Records). record_count b) full.batches + sum_by (λ (b : Records). record_count b) (batch ∷ []) ≡ fed.records =
      omega (arith, sum_full full.batches full.full, alone, records, full.count) in (
        full.batches ++ batch ∷ [],
        posted_all,
        record {
          of_kind = all_of_kind;
          batches = one_more ∙ sym batches;
          records = sum_by-append (λ b. record_count b) full.batches (batch ∷ []) ∙ all_records;
          some_records = All-push (λ b. 0 < record_count b) full.batches batch (some_full full.batches full.full) is.some;
          full = subst (All IsFull) (sym front) full.full;
        },
      )

  -- one more full batch
  pub full_more : IsFull batch → FullPosts kind (Posts old new) (turn + 1)
  full_more whole = record {
    batches = full.batches ++ batch ∷ [];
    posted = posted_all;
    count = one_more;
    of_kind = all_of_kind;
    full = All-push IsFull full.batches batch full.full whole;
  }

-- nothing more, and a fault of the next block
pub full_cut : (most : ℕ) (kind : Kind) (old mid new : PassState) (turn : ℕ) (fault : FeedFault) → FullPosts kind (Posts old mid) turn → turn ≤ most → deeds new ≡ deeds mid
    → IsAfter most kind turn fault → IsStopped most kind (Posts old new) fault
full_cut most kind old mid new turn fault full few same place = record {
  batches = full.batches;
  posted = posts_same old mid new full.batches full.posted same;
  of_kind = full.of_kind;
  full = full.full;
  few = omega (arith, full.count);
  place = subst (λ n. IsAfter most kind n fault) (sym full.count) place;
}

pub full_none : (kind : Kind) (p : PassState) → FullPosts kind (Posts p p) 0
full_none kind p = record { batches = []; posted = posts_none p p refl; count = refl; of_kind = All-nil (λ b. kind_of b ≡ stored_kind kind); full = All-nil IsFull }

-- a refused post names no place
pub unplaced : (most : ℕ) (kind : Kind) (count : ℕ) (refusal : PostFault) → IsAfter most kind count (refusal_of refusal)
unplaced most kind count post.Memory = tt
unplaced most kind count (post.LoginsFull stored) = tt
unplaced most kind count (post.ProcsFull stored) = tt
unplaced most kind count post.CallsFull = tt

-- a fault in a block lies after those before it
pub in_block : (most : ℕ) (kind : Kind) (count : ℕ) (fault : FeedFault) → IsInBlock kind count fault → IsAfter most kind count fault
in_block most kind count Memory place = tt
in_block most kind count Read place = tt
in_block most kind count (Torn records torn) place = place
in_block most kind count (TooLong limit) place = absurd place
in_block most kind count (Bad at fault) place = place
in_block most kind count (LoginsFull stored) place = tt
in_block most kind count (ProcsFull stored) place = tt
in_block most kind count CallsFull place = tt

-- the end that was not there
pub after_all : (most : ℕ) (kind : Kind) (turn : ℕ) (fault : FeedFault) → turn ≡ most → (fault ≡ Read) ⊎ (fault ≡ TooLong (1024 * most)) → IsAfter most kind turn fault
after_all most kind turn fault last (inl read) = subst (IsAfter most kind turn) (sym read) tt
after_all most kind turn fault last (inr long) = subst (IsAfter most kind turn) (sym long) (last, refl)
