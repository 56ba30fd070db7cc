use Rattle.std.proofs.Common.{◌≡◌, ◌++◌, List, ℕ, take}
use Rattle.tally_check.specs.inside.Notes.{login_notes}
use Rattle.tally_check.proofs.notes.note_logins.Given as goal

abbrev pub invariant-loop-bytes : goal.invariant-loop-bytes
invariant-loop-bytes l = (before : List (List ℕ)) → l.initial.notes ≡ login_notes before → l.notes ≡ login_notes (before ++ take l.bytes-index l.records)
