-- What is counted of the bytes of a file so far.
use Rattle.std.specs.Prelude.{◌≡◌, ◌≤◌, ℕ, List, [], None, true, length}
use Rattle.tally_check.specs.Kinds.{has_logins, has_procs}
use Rattle.tally_check.specs.Logins.{logins_in}
use Rattle.tally_check.specs.declared.kind.Guess.{Guess}
use Rattle.tally_check.specs.declared.notes.LoginNotes.{LoginNotes}
use Rattle.tally_check.specs.declared.tally.Tally.{Tally}
use Rattle.tally_check.specs.inside.Notes.{login_notes, proc_notes}
use Rattle.tally_kinds.specs.Records.{records}
use Rattle.tally_sessions.specs.Hosts.{posted_by}
use Rattle.tally_sessions.specs.State.{State}
use Rattle.tally_sessions.specs.declared.sessions.TheConstants.{ENTRY_LIMIT}

-- that of a file of which no byte was counted
abbrev pub no_tally : Guess → Tally
no_tally guess = record { guess = guess; size = 0; logins = login_notes []; procs = proc_notes [] }

-- the sessions of one host that the bytes of login records were posted to
abbrev pub kept_of : List (List ℕ) → State
kept_of rs = record { hosts = 1; entries = posted_by 0 (logins_in rs); ready = None }

-- this was noted of the bytes of login records, which were posted
pub record AreLoginsOf (rs : List (List ℕ)) (notes : LoginNotes) (kept : State) : Type 0 where
  pub noted : notes ≡ login_notes rs
  pub posted : kept ≡ kept_of rs

-- the bytes were counted as login records, where they may be
abbrev pub AreLoginsIn : List ℕ → Tally → State → Type 0
AreLoginsIn bytes tally kept = has_logins tally.guess ≡ true → AreLoginsOf (records 384 bytes) tally.logins kept

-- the bytes were counted as process records, where they may be
abbrev pub AreProcsIn : List ℕ → Tally → Type 0
AreProcsIn bytes tally = has_procs tally.guess ≡ true → tally.procs ≡ proc_notes (records 64 bytes)

-- sessions of one host
pub record IsKept (kept : State) : Type 0 where
  pub host : kept.hosts ≡ 1
  pub few : length kept.entries ≤ ENTRY_LIMIT

-- the bytes were counted, as records of the kinds that they may be
pub record IsTallyOf (bytes : List ℕ) (tally : Tally) (kept : State) : Type 0 where
  pub size : tally.size ≡ length bytes
  pub sessions : IsKept kept
  pub logins : AreLoginsIn bytes tally kept
  pub procs : AreProcsIn bytes tally
