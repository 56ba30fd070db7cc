-- How far a feed has come.
use Rattle.std.proofs.Common.{◌≡◌, ◌∙◌, ◌++◌, ◌<◌, ◌+◌, ◌*◌, ℕ, List, [], ◌∷◌, Option, Some, None, map, take, drop, length, ap, sym, subst, refl, append-nil}
use Rattle.std.specs.List.{All}
use Rattle.std.specs.Prelude.{IfSome}
use Rattle.tally_records.specs.Records.{Records, record_count}
use Rattle.tally_records.specs.declared.batch.Kind.{Kind}
use Rattle.tally_desk.specs.Blocks.{block_fault, block_size, good_blocks}
use Rattle.tally_desk.specs.Batches.{records_in}
use Rattle.tally_book.specs.Contents.{Contents}
use Rattle.tally_book.specs.declared.fault.PostFault.{PostFault}
use Rattle.tally_book.specs.declared.fault.PostFault.TheVariants as post
use Rattle.tally_desk.specs.Feeds.{AreOf, IsCut, IsFull, IsFullAt, IsRefused, IsWhole, Posts, Refuses, Stops, refusal_of}
use Rattle.tally_desk.specs.Passes.{PassState, deeds}
use Rattle.tally_desk.specs.inside.Turns.{IsBatch, Takes, TakesBlock, TurnStops}
use Rattle.tally_desk.specs.declared.fault.FeedFault.{FeedFault}
use Rattle.tally_desk.specs.declared.fault.FeedFault.TheVariants.{Memory, Read, Torn, TooLong, Bad, LoginsFull, ProcsFull, CallsFull}
use Rattle.tally_desk.proofs.PostLemmas.{posts_more, posts_none, posts_same}
use Rattle.tally_desk.proofs.BlockLemmas.{good-here, good-later, good_from}
use Rattle.tally_desk.proofs.Taken.{Adds, FedTo, Told, block_of_total, fed_fault, told_all, told_full, told_last, told_none}

-- what was posted, and then a batch
pub posts_one : (old mid new : PassState) (batch : Records) → Posts mid new (batch ∷ []) → Adds (Posts old mid) (Posts old new) batch
posts_one old mid new batch posted batches before = posts_more old mid new batches (batch ∷ []) before posted

module _ (most : ℕ) (kind : Kind) (bytes : List ℕ) (old : PassState) where
  -- a block with a fault
  pub fed_refused : (new : PassState) (turn : ℕ) (rest : List ℕ) (f : FeedFault) → FedTo most kind bytes (Posts old new) turn rest → 0 < length rest
      → block_fault most kind (length bytes) (turn, take (block_size kind) rest) ≡ Some f → IsRefused most kind bytes (Posts old new) f
  fed_refused new turn rest f fed some bad =
      let all : fed.done ≡ good_blocks most kind bytes =
      sym (fed.good ∙ ap (λ l. fed.done ++ l) (good-here most kind (length bytes) turn rest f some bad) ∙ append-nil fed.done) in
      record {
        fault_is = fed_fault most kind bytes (Posts old new) turn rest f fed some bad;
        all = subst (Posts old new) (ap (map (records_in kind)) all) fed.posted;
      }

  cut : (new : PassState) (turn : ℕ) (rest : List ℕ) → FedTo most kind bytes (Posts old new) turn rest
      → IsCut most kind bytes (Posts old new) (good_from most kind (length bytes) turn rest)
  cut new turn rest fed = record { done = fed.done; good = fed.good; some = fed.posted }

  -- a turn that took nothing
  pub fed_stops : (new : PassState) (turn : ℕ) (rest : List ℕ) (seen : Contents) (f : FeedFault) → FedTo most kind bytes (Posts old new) turn rest
      → length bytes ≡ turn * block_size kind + length rest → TurnStops most kind turn rest f → Stops most kind bytes (Posts old new) seen f
  fed_stops new turn rest seen Memory fed total stops = (_, cut new turn rest fed)
  fed_stops new turn rest seen Read fed total stops = (_, cut new turn rest fed)
  fed_stops new turn rest seen (Torn records torn) fed total stops =
      fed_refused new turn rest _ fed stops.0 (ap (λ n. block_fault most kind n (turn, take (block_size kind) rest)) total ∙ stops.1)
  fed_stops new turn rest seen (TooLong limit) fed total stops =
      fed_refused new turn rest _ fed stops.0 (ap (λ n. block_fault most kind n (turn, take (block_size kind) rest)) total ∙ stops.1)
  fed_stops new turn rest seen (Bad at fault) fed total stops =
      fed_refused new turn rest _ fed stops.0 (ap (λ n. block_fault most kind n (turn, take (block_size kind) rest)) total ∙ stops.1)
  fed_stops new turn rest seen (LoginsFull stored) fed total stops = absurd stops.1
  fed_stops new turn rest seen (ProcsFull stored) fed total stops = absurd stops.1
  fed_stops new turn rest seen CallsFull fed total stops = absurd stops.1

  -- a good block whose post was refused
  pub fed_full : (new : PassState) (turn : ℕ) (rest : List ℕ) (seen : Contents) (refusal : PostFault) → FedTo most kind bytes (Posts old new) turn rest → 0 < length rest
      → block_fault most kind (length bytes) (turn, take (block_size kind) rest) ≡ None → Refuses seen (records_in kind (take (block_size kind) rest)) refusal
      → IsFullAt most kind bytes (Posts old new) seen refusal
  fed_full new turn rest seen refusal fed some ok cause = record {
    next = take (block_size kind) rest;
    left = good_from most kind (length bytes) (turn + 1) (drop (block_size kind) rest);
    cut = record {
      done = fed.done;
      good = fed.good ∙ ap (λ l. fed.done ++ l) (good-later most kind (length bytes) turn rest some ok);
      some = fed.posted;
    };
    cause = cause;
  }

  pub fed_unposted : (new : PassState) (turn : ℕ) (rest : List ℕ) (seen : Contents) (refusal : PostFault) → FedTo most kind bytes (Posts old new) turn rest → 0 < length rest
      → block_fault most kind (length bytes) (turn, take (block_size kind) rest) ≡ None → Refuses seen (records_in kind (take (block_size kind) rest)) refusal
      → Stops most kind bytes (Posts old new) seen (refusal_of refusal)
  fed_unposted new turn rest seen post.Memory fed some ok cause = (_, cut new turn rest fed)
  fed_unposted new turn rest seen (post.LoginsFull stored) fed some ok cause = fed_full new turn rest seen (post.LoginsFull stored) fed some ok cause
  fed_unposted new turn rest seen (post.ProcsFull stored) fed some ok cause = fed_full new turn rest seen (post.ProcsFull stored) fed some ok cause
  fed_unposted new turn rest seen post.CallsFull fed some ok cause = fed_full new turn rest seen post.CallsFull fed some ok cause

  -- a turn that posted nothing keeps what was fed
  pub fed_same : (mid new : PassState) (turn : ℕ) (rest : List ℕ) → FedTo most kind bytes (Posts old mid) turn rest → deeds new ≡ deeds mid → FedTo most kind bytes (Posts old new) turn rest
  fed_same mid new turn rest fed same = record {
    done = fed.done;
    posted = posts_same old mid new (map (records_in kind) fed.done) fed.posted same;
    good = fed.good;
    fault = fed.fault;
    covers = fed.covers;
  }

-- full batches were posted, `turn` in number
pub record FullPosts (kind : Kind) (posts : List Records → Type 0) (turn : ℕ) : Type 0 where
  pub batches : List Records
  pub posted : posts batches
  pub count : length batches ≡ turn
  pub of_kind : AreOf kind batches
  pub full : All IsFull batches

pub begins : (most : ℕ) (kind : Kind) (bytes : List ℕ) (now : Option (List ℕ)) (p : PassState) → now ≡ Some bytes → Told most kind now (Posts p p) 0 bytes
begins most kind bytes now p tells = told_none most kind bytes now (Posts p p) (posts_none p p refl) tells

module _ (most : ℕ) (kind : Kind) (bytes : List ℕ) (now : Option (List ℕ)) (old : PassState) where
  -- a turn that stops a feed
  pub told_stops : (new : PassState) (turn : ℕ) (seen : Contents) (f : FeedFault) → (told : Told most kind now (Posts old new) turn bytes)
      → TurnStops most kind turn told.rest f → Stops most kind bytes (Posts old new) seen f
  told_stops new turn seen f told stops = fed_stops most kind bytes old new turn told.rest seen f told.fed told.total stops

  -- a block whose post was refused
  pub told_unposted : (after : Option (List ℕ)) (mid new : PassState) (turn : ℕ) (batch : Records) (seen : Contents) (refusal : PostFault) → (told : Told most kind now (Posts old mid) turn bytes)
      → TakesBlock most kind turn told.rest after batch → deeds new ≡ deeds mid → Refuses seen batch refusal → Stops most kind bytes (Posts old new) seen (refusal_of refusal)
  told_unposted after mid new turn batch seen refusal told takes same cause =
      fed_unposted most kind bytes old new turn told.rest seen refusal (fed_same most kind bytes old mid new turn told.rest told.fed same) takes.some
      (block_of_total most kind bytes now (Posts old mid) turn told None takes.good)
      (subst (λ b. Refuses seen b refusal) takes.batch_is cause)

  -- a full block
  pub told_more : (after : Option (List ℕ)) (mid new : PassState) (turn : ℕ) (batch : Records) → (told : Told most kind now (Posts old mid) turn bytes)
      → TakesBlock most kind turn told.rest after batch → Posts mid new (batch ∷ []) → IsFull batch → Told most kind after (Posts old new) (turn + 1) bytes
  told_more after mid new turn batch told takes posted full =
      told_full most kind bytes now (Posts old mid) turn told after (Posts old new) batch takes (posts_one old mid new batch posted) full

  -- a short block, which is the last
  pub told_short : (after : Option (List ℕ)) (mid new : PassState) (turn : ℕ) (batch : Records) → (told : Told most kind now (Posts old mid) turn bytes)
      → TakesBlock most kind turn told.rest after batch → Posts mid new (batch ∷ []) → record_count batch < 1024 → IsWhole most kind bytes (Posts old new)
  told_short after mid new turn batch told takes posted short =
      told_last most kind bytes now (Posts old mid) turn told after (Posts old new) batch takes (posts_one old mid new batch posted) short

  -- the end of the input
  pub told_end : (new : PassState) (turn : ℕ) → (told : Told most kind now (Posts old new) turn bytes) → told.rest ≡ [] → IsWhole most kind bytes (Posts old new)
  told_end new turn told end = told_all most kind bytes now (Posts old new) turn told end

module _ (most : ℕ) (kind : Kind) (next : Option Records) where
  -- the first block, or the end
  pub takes_some : (turn : ℕ) (rest : List ℕ) (left : Option (List ℕ)) (batch : Records) → next ≡ Some batch
      → Takes most kind turn rest left next → TakesBlock most kind turn rest left batch
  takes_some turn rest left batch is takes = subst (Takes most kind turn rest left) is takes

  pub takes_end : (turn : ℕ) (rest : List ℕ) (left : Option (List ℕ)) → next ≡ None → Takes most kind turn rest left next → rest ≡ []
  takes_end turn rest left is takes = subst (Takes most kind turn rest left) is takes

module _ (kind : Kind) (next : Option Records) where
  pub some_batch : (batch : Records) → next ≡ Some batch → IfSome next (IsBatch kind) → IsBatch kind batch
  some_batch batch is all = subst (λ n. IfSome n (IsBatch kind)) is all
