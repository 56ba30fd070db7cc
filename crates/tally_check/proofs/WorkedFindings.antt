-- Worked findings, computed by the definitions.
use Rattle.std.proofs.Common.{◌≡◌, ℕ, ◌+◌, Bool, pos, List, [], ◌∷◌, map, true, false, Some, None, refl}
use Rattle.std.specs.Prelude.{codes}
use Rattle.tally_check.specs.Counts.{counts_of}
use Rattle.tally_check.specs.Findings.{findings_of, is_doubtful, types_in}
use Rattle.tally_check.specs.Kinds.{is_mostly_typed, kind_of, login_kind}
use Rattle.tally_check.specs.Stays.{weighed}
use Rattle.tally_check.specs.Steps.{steps_from, steps_in}
use Rattle.tally_check.specs.declared.findings.Content.TheVariants as content
use Rattle.tally_check.specs.declared.kind.FileKind.TheVariants as kind
use Rattle.tally_check.specs.declared.seen.Seen.{Seen}
use Rattle.tally_check.specs.declared.seen.Seen.TheVariants.{Zeros, Unknown, Known}
use Rattle.tally_kinds.specs.declared.kinds.Looks.TheVariants as looks
use Rattle.tally_records.specs.Event.{event_of}
use Rattle.tally_records.specs.Text.{padded}
use Rattle.tally_records.specs.declared.login.LoginRecord.{LoginRecord}
use Rattle.tally_sessions.specs.Clock.{pending_old_time}
use Rattle.tally_sessions.specs.declared.entry.End.{End}
use Rattle.tally_sessions.specs.declared.entry.End.TheVariants as ends
use Rattle.tally_sessions.specs.declared.entry.Stay.{Stay}

-- ---- counts

-- zeros in between and at the end, a type that is none, and times that go back
abbrev seen : List Seen
seen = Known 2 (pos 100) ∷ Zeros ∷ Known 7 (pos 300) ∷ Unknown ∷ Known 8 (pos 50) ∷ Zeros ∷ Zeros ∷ []

counts : counts_of seen ≡ record {
  records = 7;
  zeros = record { all = record { count = 3; first = Some 1 }; at_end = 2 };
  unknown = record { count = 1; first = Some 3 };
  span = Some (record { first = pos 50; last = pos 300 });
}
counts = refl

no_counts : counts_of [] ≡ record {
  records = 0;
  zeros = record { all = record { count = 0; first = None }; at_end = 0 };
  unknown = record { count = 0; first = None };
  span = None;
}
no_counts = refl

types : types_in (Known 7 (pos 1) ∷ Known 0 (pos 2) ∷ Zeros ∷ Known 7 (pos 3) ∷ Known 9 (pos 4) ∷ Unknown ∷ []) ≡ 1 ∷ 0 ∷ 0 ∷ 0 ∷ 0 ∷ 0 ∷ 0 ∷ 2 ∷ 0 ∷ 1 ∷ []
types = refl

-- a type other than 0 tells what a damaged file is, and as many of none do not
mostly : map is_mostly_typed (seen ∷ (Known 7 (pos 1) ∷ Unknown ∷ []) ∷ (Known 0 (pos 1) ∷ []) ∷ []) ≡ true ∷ false ∷ false ∷ []
mostly = refl

-- ---- steps back

-- a record of a type at a second
abbrev at : ℕ → ℕ → LoginRecord
at kind time = record { kind = kind; line = padded 32 (codes "~"); user = padded 32 []; remote = padded 256 []; time = pos time }

steps : steps_from [] (at 2 100 ∷ at 6 90 ∷ at 6 95 ∷ at 6 60 ∷ []) ≡ 0 ∷ 10 ∷ 0 ∷ 35 ∷ []
unfolding event_of pending_old_time
steps = refl

greatest : steps_in (at 2 100 ∷ at 6 60 ∷ at 6 50 ∷ []) ≡ record { count = 2; greatest = 40 }
unfolding event_of pending_old_time
greatest = refl

-- a recorded clock change is no step back, whether it goes back or forward
changes : steps_from [] (at 2 100 ∷ at 4 110 ∷ at 3 50 ∷ at 6 51 ∷ at 4 60 ∷ at 3 900 ∷ at 6 901 ∷ []) ≡ 0 ∷ 0 ∷ 0 ∷ 0 ∷ 0 ∷ 0 ∷ 0 ∷ []
unfolding event_of pending_old_time
changes = refl

-- a record between its two halves is 2 seconds after the old time
between_halves : steps_from [] (at 4 100 ∷ at 6 102 ∷ at 3 50 ∷ []) ≡ 0 ∷ 0 ∷ 2 ∷ []
unfolding event_of pending_old_time
between_halves = refl

-- a new time without an old one accounts for nothing
half : steps_from [] (at 2 100 ∷ at 3 50 ∷ []) ≡ 0 ∷ 50 ∷ []
unfolding event_of pending_old_time
half = refl

-- ---- sessions that weigh

-- a session of a user, or a running time, of so many seconds
abbrev stay : Bool → End → ℕ → Stay
stay is_boot end length = record {
  host = 0;
  is_boot = is_boot;
  user = padded 32 (codes "ann");
  line = padded 32 (codes "pts/0");
  remote = padded 256 [];
  start = pos 100;
  begin = pos 100;
  end = end;
  end_time = pos (100 + length);
  length = length;
}

-- a running time weighs in neither, and a session that is over does not
sessions : weighed (stay false ends.Still 7 ∷ stay true ends.Still 100 ∷ stay false ends.Crash 20 ∷ stay false ends.Logout 50 ∷ stay false ends.Still 5 ∷ stay true ends.Crash 60 ∷ stay false ends.Crash 1 ∷ []) ≡ record {
  still_open = record { count = 2; seconds = 12 };
  crashed = record { count = 2; seconds = 21 };
}
sessions = refl

-- ---- kinds

-- an empty file is of no kind, and nothing is doubtful of it
nothing : findings_of [] ≡ record { size = 0; content = content.Other looks.Nothing }
nothing = refl

healthy : is_doubtful (content.Other looks.Nothing) ≡ false
healthy = refl

other_kind : is_doubtful (content.Other looks.Gzip) ≡ true
other_kind = refl

-- a file of 400-byte records may begin as one of 384-byte records does
longer : map login_kind (looks.Logins ∷ looks.Unknown ∷ looks.Logins400 ∷ []) ≡ kind.Logins ∷ kind.Logins ∷ kind.Other looks.Logins400 ∷ []
longer = refl

-- bytes that are no text and of which nothing is told
unknown : kind_of (1 ∷ 255 ∷ []) ≡ kind.Other looks.Unknown
unknown = refl
