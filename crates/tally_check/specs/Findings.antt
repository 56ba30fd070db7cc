-- What is found of the bytes of a file, by the kind that it has.
use Rattle.std.specs.Prelude.{ℕ, Bool, false, true, List, count_by, length, map, nat_lt, ◌%◌, ◌||◌}
use Rattle.std.specs.List.{range_with_len}
use Rattle.tally_check.specs.Counts.{counts_of}
use Rattle.tally_check.specs.Kinds.{kind_of, logins_seen, procs_seen}
use Rattle.tally_check.specs.Logins.{logins_in}
use Rattle.tally_check.specs.Seen.{is_of_kind}
use Rattle.tally_check.specs.Stays.{sessions_in}
use Rattle.tally_check.specs.Steps.{steps_in}
use Rattle.tally_check.specs.declared.counts.Counts.{Counts}
use Rattle.tally_check.specs.declared.findings.Content.{Content}
use Rattle.tally_check.specs.declared.findings.Content.TheVariants as content
use Rattle.tally_check.specs.declared.findings.Findings.{Findings}
use Rattle.tally_check.specs.declared.findings.LoginFindings.{LoginFindings}
use Rattle.tally_check.specs.declared.findings.ProcFindings.{ProcFindings}
use Rattle.tally_check.specs.declared.kind.FileKind.{FileKind}
use Rattle.tally_check.specs.declared.kind.FileKind.TheVariants as kind
use Rattle.tally_check.specs.declared.seen.Seen.{Seen}
use Rattle.tally_kinds.specs.Records.{records}
use Rattle.tally_kinds.specs.declared.kinds.Looks.TheVariants as looks

-- how many records there are of each type of utmp(5), 0 to 9
abbrev pub types_in : List Seen → List ℕ
types_in seen = map (λ type. count_by (is_of_kind type) seen) (range_with_len 0 10)

-- what is found of a file of login records
abbrev pub logins_found : List ℕ → LoginFindings
logins_found bytes = record {
  counts = counts_of (logins_seen bytes);
  types = types_in (logins_seen bytes);
  steps = steps_in (logins_in (records 384 bytes));
  sessions = sessions_in (records 384 bytes);
  rest = length bytes % 384;
}

-- what is found of a file of process records
abbrev pub procs_found : List ℕ → ProcFindings
procs_found bytes = record {
  counts = counts_of (procs_seen bytes);
  version_2 = count_by (is_of_kind 2) (procs_seen bytes);
  version_3 = count_by (is_of_kind 3) (procs_seen bytes);
  rest = length bytes % 64;
}

-- what is found of a file of a kind
abbrev pub content_of : FileKind → List ℕ → Content
content_of kind.Logins bytes = content.Logins (logins_found bytes)
content_of kind.Processes bytes = content.Processes (procs_found bytes)
content_of (kind.Other looks) bytes = content.Other looks

-- what is found of a file
abbrev pub findings_of : List ℕ → Findings
findings_of bytes = record { size = length bytes; content = content_of (kind_of bytes) bytes }

-- ---- doubts

-- some records say nothing
abbrev pub are_doubtful : Counts → Bool
are_doubtful counts = nat_lt 0 counts.zeros.all.count || nat_lt 0 counts.unknown.count

-- something makes totals over the content doubtful
abbrev pub is_doubtful : Content → Bool
is_doubtful (content.Logins found) = (are_doubtful found.counts || nat_lt 0 found.steps.count) || nat_lt 0 found.rest
is_doubtful (content.Processes found) = are_doubtful found.counts || nat_lt 0 found.rest
is_doubtful (content.Other looks.Nothing) = false
is_doubtful (content.Other other) = true
