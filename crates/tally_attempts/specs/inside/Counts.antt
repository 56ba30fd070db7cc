-- Tables that count records by their users and remote hosts.
use Rattle.std.specs.Prelude.{◌≡◌, ℕ, zero, suc, ◌+◌, if◌then◌else◌, List, filter, length, Option, None, Some, unwrap_or}
use Rattle.std.specs.Map.{lookup}
use Rattle.tally_attempts.specs.Sums.{is_from, sum_rows}
use Rattle.tally_attempts.specs.declared.attempt.AttemptSum.{AttemptSum}
use Rattle.tally_attempts.specs.inside.Sources.{is_same}
use Rattle.tally_attempts.specs.declared.source.Source.{Source}
use Rattle.tally_records.specs.declared.login.LoginRecord.{LoginRecord}

-- the user and the remote host of a record
abbrev pub source_of : LoginRecord → Source
source_of r = record { user = r.user; remote = r.remote }

-- how many records are of a source
abbrev pub count_of : Source → List LoginRecord → ℕ
count_of source rs = length (filter (is_from source.user source.remote) rs)

-- a number, where it is not 0
abbrev pub if_some : ℕ → Option ℕ
if_some zero = None
if_some (suc n) = Some (suc n)

-- the number that a table has for a source
abbrev pub count_at : List (Source × ℕ) → Source → ℕ
count_at table source = unwrap_or (lookup (is_same source) table) 0

-- a source has one more, and each other what it had
pub record HasOneMore (old new : List (Source × ℕ)) (source : Source) : Type 0 where
  pub at : (s : Source) → lookup (is_same s) new ≡ (if is_same source s then Some (count_at old source + 1) else lookup (is_same s) old)

-- each source of a record has the count of its records, and others are not there
pub record HasCounts (table : List (Source × ℕ)) (rs : List LoginRecord) : Type 0 where
  pub at : (source : Source) → lookup (is_same source) table ≡ if_some (count_of source rs)

-- the row of a source and its count
abbrev pub row_of : Source × ℕ → AttemptSum
row_of e = record { user = e.0.user; remote = e.0.remote; attempts = e.1 }

-- these are the rows of all records of which the table has the counts
abbrev pub IsSumRows : List (Source × ℕ) → List AttemptSum → Type 0
IsSumRows table rows = (rs : List LoginRecord) → HasCounts table rs → rows ≡ sum_rows rs
