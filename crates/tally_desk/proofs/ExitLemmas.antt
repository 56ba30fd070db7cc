-- What holds at the exits of a feed.
use Rattle.std.proofs.Common.{◌≡◌, ◌∙◌, ◌+◌, ◌<◌, ◌≤◌, ◌⊎◌, inl, inr, ℕ, Bool, true, Option, Some, None, ap, sym, subst, arith}
use Rattle.tally_records.specs.Records.{Records, record_count}
use Rattle.tally_records.specs.declared.batch.Kind.{Kind}
use Rattle.tally_book.specs.Contents.{Contents}
use Rattle.tally_book.specs.declared.fault.PostFault.{PostFault}
use Rattle.tally_book.specs.declared.fault.PostFault.TheVariants as post
use Rattle.tally_desk.specs.Feeds.{IsFeedRefusal, refusal_of}
use Rattle.tally_desk.specs.inside.Turns.{IsLast}
use Rattle.tally_desk.specs.declared.fault.FeedFault.{FeedFault}
use Rattle.tally_desk.specs.declared.fault.FeedFault.TheVariants.{Memory, Read, TooLong}

-- a count that stayed is as small as it was
pub still_below : (now old most : ℕ) → now ≡ old → old < most → now < most
still_below now old most same small = subst (λ (n : ℕ). n < most) (sym same) small

-- a size under its name
module _ (size named n : ℕ) (same : size ≡ named) where
  pub holds_named : size ≤ n → named ≤ n
  holds_named large = subst (λ (m : ℕ). m ≤ n) same large

  pub within_named : n ≤ size → n ≤ named
  within_named small = subst (λ (m : ℕ). n ≤ m) same small

pub plus_none : (now old : ℕ) → now ≡ old + 0 → now ≡ old
plus_none now old is = omega arith

pub within_turns : (most turn : ℕ) → turn < most → turn ≤ most
within_turns most turn early = omega (arith, early)

-- all turns were had
pub all_turns : (most turn : ℕ) → turn ≤ most → most ≤ turn → turn ≡ most
all_turns most turn few many = omega (arith, few, many)

module _ (next : Option Records) (End : Type 0) (last : IsLast next → End) where
  -- there was no batch
  pub ends_at_none : next ≡ None → End
  ends_at_none is = last (subst IsLast (sym is) tt)

  -- it was not full
  pub ends_at_short : (batch : Records) → next ≡ Some batch → record_count batch < 1024 → End
  ends_at_short batch is short = last (subst IsLast (sym is) short)

-- memory was refused, and no read failed
pub memory_is_no_read : {X : Type 0} → ◌≡◌ {A = FeedFault} Memory Read → X
memory_is_no_read is = cc

-- a post was refused, and no read failed
pub post_is_no_read : {X : Type 0} → (refusal : PostFault) → refusal_of refusal ≡ Read → X
post_is_no_read post.Memory is = cc
post_is_no_read (post.LoginsFull stored) is = cc
post_is_no_read (post.ProcsFull stored) is = cc
post_is_no_read post.CallsFull is = cc

-- a read failed, and none before it
pub first_failed : (now mid old : ℕ) (can_mid can_old : Bool) → mid ≡ old → can_mid ≡ can_old → (now ≡ mid + 1) × (can_mid ≡ true) → (now ≡ old + 1) × (can_old ≡ true)
first_failed now mid old can_mid can_old count nature failed = (failed.0 ∙ ap (λ (n : ℕ). n + 1) count, sym nature ∙ failed.1)

-- the end that was not there refuses no post
pub end_is_no_refusal : (limit : ℕ) (kind : Kind) (seen : Contents) (fault : FeedFault) → (fault ≡ Read) ⊎ (fault ≡ TooLong limit) → IsFeedRefusal kind seen fault
end_is_no_refusal limit kind seen fault (inl read) = subst (IsFeedRefusal kind seen) (sym read) tt
end_is_no_refusal limit kind seen fault (inr long) = subst (IsFeedRefusal kind seen) (sym long) tt
