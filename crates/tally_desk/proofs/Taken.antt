-- How far the blocks of an input were taken, and what holds of their batches: `posts` is any fact about them.
use Rattle.std.proofs.Common.{◌≡◌, ◌∙◌, ◌++◌, ◌≤◌, ◌<◌, ◌+◌, ◌*◌, ◌/◌, ℕ, List, [], ◌∷◌, Option, Some, None, map, take, drop, length, ap, sym, subst, refl, arith, append-nil, append_assoc}
use Rattle.std.proofs.lemmas.List.{drop_all, length-drop, length-take, map-append}
use Rattle.tally_records.specs.Records.{Records, record_count}
use Rattle.tally_records.specs.declared.batch.Kind.{Kind}
use Rattle.tally_records.specs.declared.batch.Kind.TheVariants.{Login, FailedLogin, Proc}
use Rattle.tally_desk.specs.Blocks.{block_fault, block_size, feed_fault, good_blocks}
use Rattle.tally_desk.specs.Batches.{AreJoined, record_size, records_in}
use Rattle.tally_desk.specs.Feeds.{IsFull, IsWhole, good_batches}
use Rattle.tally_desk.specs.inside.Turns.{TakesBlock}
use Rattle.tally_desk.specs.declared.fault.FeedFault.{FeedFault}
use Rattle.tally_desk.proofs.JoinLemmas.{Covers, covers_all, covers_more, covers_none}
use Rattle.tally_desk.proofs.BlockLemmas.{fault-end, fault-here, fault-later, first_fault_from, good-end, good-later, good_from}

-- this holds of the batches of the first blocks, `turn` in number, and these bytes are to come
pub record FedTo (most : ℕ) (kind : Kind) (bytes : List ℕ) (posts : List Records → Type 0) (turn : ℕ) (rest : List ℕ) : Type 0 where
  pub done : List (List ℕ)
  pub posted : posts (map (records_in kind) done)
  pub good : good_blocks most kind bytes ≡ done ++ good_from most kind (length bytes) turn rest
  pub fault : first_fault_from most kind (length bytes) turn rest ≡ feed_fault most kind bytes
  pub covers : Covers kind bytes done rest

-- what holds of batches holds of one more
abbrev pub Adds : (List Records → Type 0) → (List Records → Type 0) → Records → Type 0
Adds before after batch = (batches : List Records) → before batches → after (batches ++ batch ∷ [])

module _ (most : ℕ) (kind : Kind) (bytes : List ℕ) where
  pub fed_none : (posts : List Records → Type 0) → posts [] → FedTo most kind bytes posts 0 bytes
  fed_none posts empty = record { done = []; posted = empty; good = refl; fault = refl; covers = covers_none kind bytes }

  -- one more block
  pub fed_block : (before after : List Records → Type 0) (turn : ℕ) (rest : List ℕ) → FedTo most kind bytes before turn rest → 0 < length rest
      → block_fault most kind (length bytes) (turn, take (block_size kind) rest) ≡ None
      → Adds before after (records_in kind (take (block_size kind) rest))
      → FedTo most kind bytes after (turn + 1) (drop (block_size kind) rest)
  fed_block before after turn rest fed some ok adds =
      let block = take (block_size kind) rest in
      record {
        done = fed.done ++ block ∷ [];
        posted = subst after (sym (map-append (records_in kind) fed.done (block ∷ []))) (adds (map (records_in kind) fed.done) fed.posted);
        good = fed.good ∙ ap (λ l. fed.done ++ l) (good-later most kind (length bytes) turn rest some ok)
            ∙ sym (append_assoc fed.done (block ∷ []) (good_from most kind (length bytes) (turn + 1) (drop (block_size kind) rest)));
        fault = sym (fault-later most kind (length bytes) turn rest some ok) ∙ fed.fault;
        covers = covers_more kind bytes fed.done rest fed.covers;
      }

  -- the end
  pub fed_all : (posts : List Records → Type 0) (turn : ℕ) (rest : List ℕ) → FedTo most kind bytes posts turn rest → rest ≡ [] → IsWhole most kind bytes posts
  fed_all posts turn rest fed end =
      let all : fed.done ≡ good_blocks most kind bytes =
      sym (fed.good ∙ ap (λ l. fed.done ++ l) (good-end most kind (length bytes) turn rest end) ∙ append-nil fed.done) in
      let batches : map (records_in kind) fed.done ≡ good_batches most kind bytes = ap (map (records_in kind)) all in
      record {
        no_fault = sym fed.fault ∙ fault-end most kind (length bytes) turn rest end;
        all = subst posts batches fed.posted;
        joined = subst (λ l. AreJoined l (records_in kind bytes)) batches
            (covers_all kind bytes fed.done (subst (Covers kind bytes fed.done) end fed.covers));
      }

  -- a block with a fault
  pub fed_fault : (posts : List Records → Type 0) (turn : ℕ) (rest : List ℕ) (f : FeedFault) → FedTo most kind bytes posts turn rest → 0 < length rest
      → block_fault most kind (length bytes) (turn, take (block_size kind) rest) ≡ Some f → feed_fault most kind bytes ≡ Some f
  fed_fault posts turn rest f fed some bad = sym fed.fault ∙ fault-here most kind (length bytes) turn rest f some bad

-- where an input tells its bytes, its blocks were taken so far
pub record Told (most : ℕ) (kind : Kind) (now : Option (List ℕ)) (posts : List Records → Type 0) (turn : ℕ) (bytes : List ℕ) : Type 0 where
  pub rest : List ℕ
  pub to_come : now ≡ Some rest
  pub total : length bytes ≡ turn * block_size kind + length rest
  pub fed : FedTo most kind bytes posts turn rest

-- nothing was taken yet
pub told_none : (most : ℕ) (kind : Kind) (bytes : List ℕ) (now : Option (List ℕ)) (posts : List Records → Type 0) → posts [] → now ≡ Some bytes → Told most kind now posts 0 bytes
told_none most kind bytes now posts empty tells = record { rest = bytes; to_come = tells; total = omega arith; fed = fed_none most kind bytes posts empty }

count_full : (kind : Kind) (n : ℕ) → n / record_size kind ≡ 1024 → n ≤ block_size kind → n ≡ block_size kind
count_full Login n is few = omega arith
count_full FailedLogin n is few = omega arith
count_full Proc n is few = omega arith

count_short : (kind : Kind) (n : ℕ) → n / record_size kind < 1024 → n < block_size kind
count_short Login n short = omega arith
count_short FailedLogin n short = omega arith
count_short Proc n short = omega arith

module _ (most : ℕ) (kind : Kind) (bytes : List ℕ) (now : Option (List ℕ)) (before : List Records → Type 0) (turn : ℕ) (told : Told most kind now before turn bytes) where
  pub block_of_total : (found : Option FeedFault) → block_fault most kind (turn * block_size kind + length told.rest) (turn, take (block_size kind) told.rest) ≡ found
      → block_fault most kind (length bytes) (turn, take (block_size kind) told.rest) ≡ found
  block_of_total found is = ap (λ n. block_fault most kind n (turn, take (block_size kind) told.rest)) told.total ∙ is

  module _ (left : Option (List ℕ)) (after : List Records → Type 0) (batch : Records) (takes : TakesBlock most kind turn told.rest left batch) (adds : Adds before after batch) where
    fed_next : FedTo most kind bytes after (turn + 1) (drop (block_size kind) told.rest)
    fed_next = fed_block most kind bytes before after turn told.rest told.fed takes.some (block_of_total None takes.good) (subst (Adds before after) takes.batch_is adds)

    -- a full block
    pub told_full : IsFull batch → Told most kind left after (turn + 1) bytes
    told_full full =
        let few : length (take (block_size kind) told.rest) ≤ block_size kind = omega (arith, length-take (block_size kind) told.rest) in
        let size : length (take (block_size kind) told.rest) ≡ block_size kind = count_full kind _ (sym takes.count ∙ full) few in
        let long : block_size kind ≤ length told.rest = omega (arith, length-take (block_size kind) told.rest, size) in
        let next : (turn + 1) * block_size kind ≡ turn * block_size kind + block_size kind = omega arith in
        record {
          rest = drop (block_size kind) told.rest;
          to_come = takes.left_is;
          total = omega (arith, told.total, next, long, length-drop (block_size kind) told.rest);
          fed = fed_next;
        }

    -- a short block, which is the last
    pub told_last : record_count batch < 1024 → IsWhole most kind bytes after
    told_last short =
        let size : length (take (block_size kind) told.rest) < block_size kind = count_short kind _ (subst (λ n. n < 1024) takes.count short) in
        let end : length told.rest ≤ block_size kind = omega (arith, length-take (block_size kind) told.rest) in
        fed_all most kind bytes after (turn + 1) (drop (block_size kind) told.rest) fed_next (drop_all (block_size kind) told.rest end)

  -- the end of the input
  pub told_all : told.rest ≡ [] → IsWhole most kind bytes before
  told_all end = fed_all most kind bytes before turn told.rest told.fed end

  -- a block with a fault
  pub told_bad : (f : FeedFault) → 0 < length told.rest → block_fault most kind (turn * block_size kind + length told.rest) (turn, take (block_size kind) told.rest) ≡ Some f
      → feed_fault most kind bytes ≡ Some f
  told_bad f some bad = fed_fault most kind bytes before turn told.rest f told.fed some (block_of_total (Some f) bad)
