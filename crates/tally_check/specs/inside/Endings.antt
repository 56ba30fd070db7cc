-- What is found of a file, by what was counted of it.
use Rattle.std.specs.Prelude.{ℕ, List, nat_lt, ◌%◌, if◌then◌else◌}
use Rattle.tally_check.specs.Kinds.{login_kind}
use Rattle.tally_check.specs.Stays.{stays_among, weighed}
use Rattle.tally_check.specs.declared.findings.Content.{Content}
use Rattle.tally_check.specs.declared.findings.Content.TheVariants as content
use Rattle.tally_check.specs.declared.findings.Findings.{Findings}
use Rattle.tally_check.specs.declared.findings.LoginFindings.{LoginFindings}
use Rattle.tally_check.specs.declared.findings.ProcFindings.{ProcFindings}
use Rattle.tally_check.specs.declared.kind.FileKind.{FileKind}
use Rattle.tally_check.specs.declared.kind.FileKind.TheVariants as kind
use Rattle.tally_check.specs.declared.kind.Guess.{Guess}
use Rattle.tally_check.specs.declared.kind.Guess.TheVariants as guess
use Rattle.tally_check.specs.declared.tally.Tally.{Tally}
use Rattle.tally_kinds.specs.Kinds.{looks_of}
use Rattle.tally_kinds.specs.declared.kinds.Looks.TheVariants as looks
use Rattle.tally_sessions.specs.State.{State}

abbrev pub logins_counted : Tally → State → LoginFindings
logins_counted tally kept = record {
  counts = tally.logins.counts;
  types = tally.logins.types;
  steps = tally.logins.walk.steps;
  sessions = weighed (stays_among kept.entries);
  rest = tally.size % 384;
}

abbrev pub procs_counted : Tally → ProcFindings
procs_counted tally = record {
  counts = tally.procs.counts;
  version_2 = tally.procs.version_2;
  version_3 = tally.procs.version_3;
  rest = tally.size % 64;
}

abbrev pub damaged_counted : Tally → FileKind
damaged_counted tally =
    if nat_lt tally.logins.counts.unknown.count tally.logins.typed then kind.Logins else (
    if nat_lt tally.procs.counts.unknown.count tally.procs.typed then kind.Processes else kind.Other looks.Unknown)

abbrev pub kind_counted_by : Guess → List ℕ → Tally → FileKind
kind_counted_by guess.Logins front tally = login_kind (looks_of front tally.size)
kind_counted_by guess.Processes front tally = kind.Processes
kind_counted_by guess.Damaged front tally = damaged_counted tally
kind_counted_by (guess.Other other) front tally = kind.Other other

abbrev pub kind_counted : List ℕ → Tally → FileKind
kind_counted front tally = kind_counted_by tally.guess front tally

abbrev pub content_counted : FileKind → Tally → State → Content
content_counted kind.Logins tally kept = content.Logins (logins_counted tally kept)
content_counted kind.Processes tally kept = content.Processes (procs_counted tally)
content_counted (kind.Other other) tally kept = content.Other other

abbrev pub found : List ℕ → Tally → State → Findings
found front tally kept = record { size = tally.size; content = content_counted (kind_counted front tally) tally kept }
