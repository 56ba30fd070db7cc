-- What is noted of records, kept record by record.
use Rattle.std.specs.Prelude.{ℕ, ◌+◌, ◌<◌, ◌^◌, Bool, List, [], ◌∷◌, Some, cond, count_by, map, slice_index, if◌then◌else◌}
use Rattle.std.specs.Option.{option_or}
use Rattle.tally_check.specs.Counts.{counts_of}
use Rattle.tally_check.specs.Findings.{types_in}
use Rattle.tally_check.specs.Logins.{good_login, logins_in}
use Rattle.tally_check.specs.Seen.{is_of_kind, is_typed, is_unknown, is_zeros, seen_login, seen_proc}
use Rattle.tally_check.specs.declared.counts.Counts.{Counts}
use Rattle.tally_check.specs.declared.counts.Found.{Found}
use Rattle.tally_check.specs.declared.counts.Zeros.{Zeros}
use Rattle.tally_check.specs.declared.notes.LoginNotes.{LoginNotes}
use Rattle.tally_check.specs.declared.notes.ProcNotes.{ProcNotes}
use Rattle.tally_check.specs.declared.seen.Seen.{Seen}
use Rattle.tally_check.specs.inside.Spans.{with_one}
use Rattle.tally_check.specs.inside.Stepping.{after_if, walk_of}

-- one more at a place, where it is of the sort
abbrev pub with_found : Found → Bool → ℕ → Found
with_found found is at = if is then record { count = found.count + 1; first = option_or found.first (Some at) } else found

-- one more at a place, where it is of zeros
abbrev pub with_zeros : Zeros → Bool → ℕ → Zeros
with_zeros zeros is at = record { all = with_found zeros.all is at; at_end = if is then zeros.at_end + 1 else 0 }

-- the counts with one record more
abbrev pub with_seen : Counts → Seen → Counts
with_seen counts x = record {
  records = counts.records + 1;
  zeros = with_zeros counts.zeros (is_zeros x) counts.records;
  unknown = with_found counts.unknown (is_unknown x) counts.records;
  span = with_one counts.span x;
}

-- a count, and one more where the record is of the kind
abbrev pub with_kind : ℕ → Seen → ℕ → ℕ
with_kind kind x count = count + cond (is_of_kind kind x) 1 0

-- the counts of types, with one record more
abbrev pub with_type : List ℕ → Seen → List ℕ
with_type types x =
    with_kind 0 x (slice_index types 0)
    ∷ with_kind 1 x (slice_index types 1)
    ∷ with_kind 2 x (slice_index types 2)
    ∷ with_kind 3 x (slice_index types 3)
    ∷ with_kind 4 x (slice_index types 4)
    ∷ with_kind 5 x (slice_index types 5)
    ∷ with_kind 6 x (slice_index types 6)
    ∷ with_kind 7 x (slice_index types 7)
    ∷ with_kind 8 x (slice_index types 8)
    ∷ with_kind 9 x (slice_index types 9)
    ∷ []

-- ---- login records

-- what is noted of the bytes of login records
abbrev pub login_notes : List (List ℕ) → LoginNotes
login_notes records = record {
  counts = counts_of (map seen_login records);
  typed = count_by is_typed (map seen_login records);
  types = types_in (map seen_login records);
  walk = walk_of (logins_in records);
}

-- the notes with one record more
abbrev pub with_login : LoginNotes → List ℕ → LoginNotes
with_login notes bytes = record {
  counts = with_seen notes.counts (seen_login bytes);
  typed = notes.typed + cond (is_typed (seen_login bytes)) 1 0;
  types = with_type notes.types (seen_login bytes);
  walk = after_if notes.walk (good_login bytes);
}

-- ---- process records

-- what is noted of the bytes of process records
abbrev pub proc_notes : List (List ℕ) → ProcNotes
proc_notes records = record {
  counts = counts_of (map seen_proc records);
  typed = count_by is_typed (map seen_proc records);
  version_2 = count_by (is_of_kind 2) (map seen_proc records);
  version_3 = count_by (is_of_kind 3) (map seen_proc records);
}

-- the notes with one record more
abbrev pub with_proc : ProcNotes → List ℕ → ProcNotes
with_proc notes bytes = record {
  counts = with_seen notes.counts (seen_proc bytes);
  typed = notes.typed + cond (is_typed (seen_proc bytes)) 1 0;
  version_2 = with_kind 2 (seen_proc bytes) notes.version_2;
  version_3 = with_kind 3 (seen_proc bytes) notes.version_3;
}

-- ---- that no count is too large to go on

-- the most records of which counts are kept
abbrev pub MOST : ℕ
MOST = 2 ^ 60

pub record AreFew (counts : Counts) : Type 0 where
  pub records : counts.records < MOST
  pub zeros : counts.zeros.all.count < MOST
  pub at_end : counts.zeros.at_end < MOST
  pub unknown : counts.unknown.count < MOST

pub record AreFewLogins (notes : LoginNotes) : Type 0 where
  pub counts : AreFew notes.counts
  pub typed : notes.typed < MOST
  pub zero : slice_index notes.types 0 < MOST
  pub one : slice_index notes.types 1 < MOST
  pub two : slice_index notes.types 2 < MOST
  pub three : slice_index notes.types 3 < MOST
  pub four : slice_index notes.types 4 < MOST
  pub five : slice_index notes.types 5 < MOST
  pub six : slice_index notes.types 6 < MOST
  pub seven : slice_index notes.types 7 < MOST
  pub eight : slice_index notes.types 8 < MOST
  pub nine : slice_index notes.types 9 < MOST
  pub steps : notes.walk.steps.count < MOST

pub record AreFewProcs (notes : ProcNotes) : Type 0 where
  pub counts : AreFew notes.counts
  pub typed : notes.typed < MOST
  pub version_2 : notes.version_2 < MOST
  pub version_3 : notes.version_3 < MOST
