-- How many records a book has room for.
use Rattle.std.specs.Prelude.{◌≡◌, ℕ, ◌*◌, ◌/◌, ◌%◌, ◌≤◌}
use Rattle.tally_records.specs.declared.batch.TheConstants.{BATCH_LIMIT}
use Rattle.tally_book.specs.declared.room.TheConstants.{MILLION, MOST_MILLIONS}

-- a number of records that a book may have room for: whole millions, one at least and no more than the most
pub record IsRoom (records : ℕ) : Type 0 where
  pub some : MILLION ≤ records
  pub few : records ≤ MILLION * MOST_MILLIONS
  pub whole : records % MILLION ≡ 0

-- how many full batches so many records are
abbrev pub batches_in : ℕ → ℕ
batches_in records = records / BATCH_LIMIT
