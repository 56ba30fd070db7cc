-- What a feed posts, and what it leaves where it is refused.
use Rattle.std.specs.Prelude.{◌≡◌, ◌+◌, ◌-◌, ◌*◌, ◌<◌, ◌≤◌, ◌++◌, ◌∷◌, ℕ, List, Some, None, ⊤, length, map, sum_by, take}
use Rattle.std.specs.List.{All}
use Rattle.tally_records.specs.Records.{Records, kind_of, logins_in, procs_in, record_count}
use Rattle.tally_records.specs.declared.batch.Kind.{Kind}
use Rattle.tally_records.specs.declared.batch.Kind.TheVariants.{Login, Proc}
use Rattle.tally_book.specs.Books.{counts_of}
use Rattle.tally_book.specs.Contents.{Contents}
use Rattle.tally_book.specs.Deeds.{Deed, Post}
use Rattle.tally_book.specs.Refusals.{IsPostRefusal}
use Rattle.tally_book.specs.declared.fault.PostFault.{PostFault}
use Rattle.tally_book.specs.declared.fault.PostFault.TheVariants as post
use Rattle.tally_desk.specs.Batches.{AreJoined, record_size, records_in, stored_kind}
use Rattle.tally_desk.specs.Blocks.{feed_fault, good_blocks}
use Rattle.tally_desk.specs.Passes.{PassState, deeds}
use Rattle.tally_desk.specs.declared.fault.FeedFault.{FeedFault}
use Rattle.tally_desk.specs.declared.fault.FeedFault.TheVariants.{Memory, Read, Torn, TooLong, Bad, LoginsFull, ProcsFull, CallsFull}
use Rattle.tally_desk.specs.declared.feeding.Fed.{Fed}

-- what a caller did that posted a batch
abbrev pub post_of : Records → Deed
post_of batch = Post (logins_in batch) (procs_in batch)

-- what the caller did between are posts of these batches
abbrev pub Posts : PassState → PassState → List Records → Type 0
Posts old new batches = deeds new ≡ deeds old ++ map post_of batches

-- a batch of the most records
abbrev pub IsFull : Records → Type 0
IsFull batch = record_count batch ≡ 1024

-- the batches are of the kind in which files of a kind are stored
abbrev pub AreOf : Kind → List Records → Type 0
AreOf kind batches = All (λ batch. kind_of batch ≡ stored_kind kind) batches

-- batches of a kind, as many as counted, none empty, and each but the last full
pub record Counts (kind : Kind) (posts : List Records) (fed : Fed) : Type 0 where
  pub of_kind : AreOf kind posts
  pub batches : length posts ≡ fed.batches
  pub records : sum_by record_count posts ≡ fed.records
  pub some_records : All (λ batch. 0 < record_count batch) posts
  pub full : All IsFull (take (length posts - 1) posts)

-- the batches of the good blocks of an input that may have so many
abbrev pub good_batches : ℕ → Kind → List ℕ → List Records
good_batches most kind bytes = map (records_in kind) (good_blocks most kind bytes)

-- an input that was read to its end: it has no fault, and its blocks were posted
pub record IsWhole (most : ℕ) (kind : Kind) (bytes : List ℕ) (posts : List Records → Type 0) : Type 0 where
  pub no_fault : feed_fault most kind bytes ≡ None
  pub all : posts (good_batches most kind bytes)
  pub joined : AreJoined (good_batches most kind bytes) (records_in kind bytes)

-- a fault of the input itself: the blocks before it were posted
pub record IsRefused (most : ℕ) (kind : Kind) (bytes : List ℕ) (posts : List Records → Type 0) (fault : FeedFault) : Type 0 where
  pub fault_is : feed_fault most kind bytes ≡ Some fault
  pub all : posts (good_batches most kind bytes)

-- some of the good blocks were posted, and `left` were not
pub record IsCut (most : ℕ) (kind : Kind) (bytes : List ℕ) (posts : List Records → Type 0) (left : List (List ℕ)) : Type 0 where
  pub done : List (List ℕ)
  pub good : good_blocks most kind bytes ≡ done ++ left
  pub some : posts (map (records_in kind) done)

-- what was seen gives this cause to refuse the post of a batch
abbrev pub Refuses : Contents → Records → PostFault → Type 0
Refuses seen batch refusal = IsPostRefusal seen.room (counts_of seen) (length seen.calls) batch refusal

-- a refused post: the good blocks before `next` were posted, and what was seen refuses that one
pub record IsFullAt (most : ℕ) (kind : Kind) (bytes : List ℕ) (posts : List Records → Type 0) (seen : Contents) (refusal : PostFault) : Type 0 where
  pub next : List ℕ
  pub left : List (List ℕ)
  pub cut : IsCut most kind bytes posts (next ∷ left)
  pub cause : Refuses seen (records_in kind next) refusal

-- what was posted before a refusal
abbrev pub Stops : ℕ → Kind → List ℕ → (List Records → Type 0) → Contents → FeedFault → Type 0
Stops most kind bytes posts seen Memory = (left : List (List ℕ)) × IsCut most kind bytes posts left
Stops most kind bytes posts seen Read = (left : List (List ℕ)) × IsCut most kind bytes posts left
Stops most kind bytes posts seen (LoginsFull stored) = IsFullAt most kind bytes posts seen (post.LoginsFull stored)
Stops most kind bytes posts seen (ProcsFull stored) = IsFullAt most kind bytes posts seen (post.ProcsFull stored)
Stops most kind bytes posts seen CallsFull = IsFullAt most kind bytes posts seen post.CallsFull
Stops most kind bytes posts seen fault = IsRefused most kind bytes posts fault

-- the fault is one of the block after the first `count` of an input that may have so many, where it names its place
abbrev pub IsAfter : ℕ → Kind → ℕ → FeedFault → Type 0
IsAfter most kind count (Torn records rest) =
    (1024 * count ≤ records) × (records < 1024 * (count + 1)) × (0 < rest) × (rest < record_size kind)
IsAfter most kind count (TooLong limit) = (count ≡ most) × (limit ≡ 1024 * most)
IsAfter most kind count (Bad at fault) = (1024 * count ≤ at) × (at < 1024 * (count + 1))
IsAfter most kind count fault = ⊤

-- full batches were posted, no more than an input may have, and the fault is one of the block after them
pub record IsStopped (most : ℕ) (kind : Kind) (posts : List Records → Type 0) (fault : FeedFault) : Type 0 where
  pub batches : List Records
  pub posted : posts batches
  pub of_kind : AreOf kind batches
  pub full : All IsFull batches
  pub few : length batches ≤ most
  pub place : IsAfter most kind (length batches) fault

-- what was seen refuses the post of some batch of the kind in which files of a kind are stored
pub record IsFullFor (kind : Kind) (seen : Contents) (refusal : PostFault) : Type 0 where
  pub batch : Records
  pub of_kind : kind_of batch ≡ stored_kind kind
  pub few : record_count batch ≤ 1024
  pub cause : Refuses seen batch refusal

-- a full list is that in which files of the kind are stored, and a full book is one that was seen
abbrev pub IsFeedRefusal : Kind → Contents → FeedFault → Type 0
IsFeedRefusal kind seen (LoginsFull stored) = (stored_kind kind ≡ Login) × IsFullFor kind seen (post.LoginsFull stored)
IsFeedRefusal kind seen (ProcsFull stored) = (kind ≡ Proc) × IsFullFor kind seen (post.ProcsFull stored)
IsFeedRefusal kind seen CallsFull = IsFullFor kind seen post.CallsFull
IsFeedRefusal kind seen fault = ⊤

-- the fault of a feed whose post was refused
abbrev pub refusal_of : PostFault → FeedFault
refusal_of post.Memory = Memory
refusal_of (post.LoginsFull stored) = LoginsFull stored
refusal_of (post.ProcsFull stored) = ProcsFull stored
refusal_of post.CallsFull = CallsFull
