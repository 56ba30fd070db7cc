-- The records that bytes of one kind stand for.
use Rattle.std.specs.Prelude.{◌≡◌, ◌/◌, ℕ, List, Result, length}
use Rattle.std.specs.List.{filter_map, flat_map}
use Rattle.std.specs.Simd.{first_chunks}
use Rattle.tally_records.specs.FailedLogin.{failed_of}
use Rattle.tally_records.specs.LoginRecord.{login_of}
use Rattle.tally_records.specs.ProcRecord.{proc_of}
use Rattle.tally_records.specs.Records.{Records, Logins, Procs, failed_logins_of, logins_in, logins_of, procs_in, procs_of}
use Rattle.tally_records.specs.declared.fault.BatchFault.{BatchFault}
use Rattle.tally_records.specs.declared.batch.Kind.{Kind}
use Rattle.tally_records.specs.declared.batch.Kind.TheVariants.{Login, FailedLogin, Proc}

-- the kind of the batches of a file: failed logins are stored as login records
abbrev pub stored_kind : Kind → Kind
stored_kind Login = Login
stored_kind FailedLogin = Login
stored_kind Proc = Proc

-- how many bytes a record has
abbrev pub record_size : Kind → ℕ
record_size Login = 384
record_size FailedLogin = 384
record_size Proc = 64

-- the pieces of a size that bytes begin with, without a shorter one at the end
abbrev pub whole_pieces : ℕ → List ℕ → List (List ℕ)
whole_pieces size bytes = first_chunks size (length bytes / size) bytes

-- the records of bytes
unfoldable pub records_in : Kind → List ℕ → Records
records_in Login bytes = Logins (filter_map login_of (whole_pieces 384 bytes))
records_in FailedLogin bytes = Logins (filter_map failed_of (whole_pieces 384 bytes))
records_in Proc bytes = Procs (filter_map proc_of (whole_pieces 64 bytes))

-- the batch of bytes, or why they are none
abbrev pub batch_of : Kind → List ℕ → Result Records BatchFault
batch_of Login bytes = logins_of bytes
batch_of FailedLogin bytes = failed_logins_of bytes
batch_of Proc bytes = procs_of bytes

-- batches that are the records when they are joined in order
pub record AreJoined (batches : List Records) (all : Records) : Type 0 where
  pub logins : flat_map logins_in batches ≡ logins_in all
  pub procs : flat_map procs_in batches ≡ procs_in all
