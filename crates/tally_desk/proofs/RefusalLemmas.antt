-- Posts of a feed that were refused.
use Rattle.std.proofs.Common.{◌≡◌, ◌∙◌, ◌+◌, ◌<◌, length, refl, sym, arith}
use Rattle.tally_book.specs.Books.{IsLegal}
use Rattle.tally_book.specs.Contents.{Contents}
use Rattle.tally_book.specs.declared.fault.PostFault.{PostFault}
use Rattle.tally_book.specs.declared.fault.PostFault.TheVariants as post
use Rattle.tally_records.specs.Records.{Records, Logins, Procs, kind_of, logins_in, procs_in}
use Rattle.tally_records.specs.declared.batch.Kind.{Kind}
use Rattle.tally_records.specs.declared.batch.Kind.TheVariants.{Login, FailedLogin, Proc}
use Rattle.tally_desk.specs.Batches.{stored_kind}
use Rattle.tally_desk.specs.Feeds.{IsFeedRefusal, IsFullFor, Refuses, refusal_of}
use Rattle.tally_desk.specs.inside.Turns.{IsBatch, IsReadFault}
use Rattle.tally_desk.specs.declared.fault.FeedFault.{FeedFault}
use Rattle.tally_desk.specs.declared.fault.FeedFault.TheVariants.{Memory, Read, Torn, TooLong, Bad, LoginsFull, ProcsFull, CallsFull}

-- a fault of the reading refuses no post
pub no_refusal : (kind : Kind) (seen : Contents) (f : FeedFault) → IsReadFault f → IsFeedRefusal kind seen f
no_refusal kind seen Memory reading = tt
no_refusal kind seen Read reading = tt
no_refusal kind seen (Torn records torn) reading = tt
no_refusal kind seen (TooLong limit) reading = tt
no_refusal kind seen (Bad at fault) reading = tt
no_refusal kind seen (LoginsFull stored) reading = absurd reading
no_refusal kind seen (ProcsFull stored) reading = absurd reading
no_refusal kind seen CallsFull reading = absurd reading

-- process records alone are stored as process records
stored_procs : (kind : Kind) → stored_kind kind ≡ Proc → kind ≡ Proc
stored_procs Login e = cc
stored_procs FailedLogin e = cc
stored_procs Proc e = refl

module _ (seen : Contents) (legal : IsLegal seen) where
  -- only a batch of login records finds their list full
  logins_full : (batch : Records) → seen.room < length seen.logins + length (logins_in batch) → kind_of batch ≡ Login
  logins_full (Logins records) over = refl
  logins_full (Procs records) over = absurd (omega (arith, legal.few_logins))

  procs_full : (batch : Records) → seen.room < length seen.procs + length (procs_in batch) → kind_of batch ≡ Proc
  procs_full (Logins records) over = absurd (omega (arith, legal.few_procs))
  procs_full (Procs records) over = refl

  full_for : (kind : Kind) (batch : Records) (refusal : PostFault) → IsBatch kind batch → Refuses seen batch refusal → IsFullFor kind seen refusal
  full_for kind batch refusal is cause = record { batch = batch; of_kind = is.of_kind; few = is.few; cause = cause }

  pub post_refusal : (kind : Kind) (batch : Records) (refusal : PostFault) → IsBatch kind batch → Refuses seen batch refusal → IsFeedRefusal kind seen (refusal_of refusal)
  post_refusal kind batch post.Memory is cause = tt
  post_refusal kind batch (post.LoginsFull stored) is cause = (sym is.of_kind ∙ logins_full batch (omega (arith, cause.0, cause.1)), full_for kind batch (post.LoginsFull stored) is cause)
  post_refusal kind batch (post.ProcsFull stored) is cause = (stored_procs kind (sym is.of_kind ∙ procs_full batch (omega (arith, cause.0, cause.1))), full_for kind batch (post.ProcsFull stored) is cause)
  post_refusal kind batch post.CallsFull is cause = full_for kind batch post.CallsFull is cause
