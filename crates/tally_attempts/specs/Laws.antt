-- What holds of the rows of every list of login records.
use Rattle.std.specs.Prelude.{◌≡◌, List, length, sum_by, IsPermutation, None}
use Rattle.tally_attempts.specs.Sums.{attempt_sums, chosen_attempts, sum_rows}
use Rattle.tally_records.specs.declared.choice.LoginChoice.{LoginChoice}
use Rattle.tally_records.specs.declared.login.LoginRecord.{LoginRecord}
use Rattle.tally_sessions.specs.declared.entry.Entry.{Entry}

-- all rows together count the chosen failed logins
abbrev pub SumsAddUp : Type 0
SumsAddUp = (choice : LoginChoice) (entries : List Entry) → sum_by (λ row. row.attempts) (attempt_sums None choice entries) ≡ length (chosen_attempts choice entries)

-- the order of the records changes no row
abbrev pub RecordOrderIsFree : Type 0
RecordOrderIsFree = (rs ss : List LoginRecord) → IsPermutation rs ss → sum_rows ss ≡ sum_rows rs
