-- Worked connect times of one host, computed by the definitions.
use Rattle.std.proofs.Common.{◌≡◌, Bool, true, false, List, [], ◌∷◌, ◌++◌, None, Some, ℕ, pos, refl}
use Rattle.std.specs.Prelude.{codes}
use Rattle.tally_answers.specs.Answers.{answer_of}
use Rattle.tally_answers.specs.declared.question.Answer.{Answer}
use Rattle.tally_answers.specs.declared.question.Answer.TheVariants as answers
use Rattle.tally_answers.specs.declared.question.Question.TheVariants as questions
use Rattle.tally_clock.specs.Rows.{utc}
use Rattle.tally_records.specs.Choice.{every_login}
use Rattle.tally_records.specs.declared.login.LoginRecord.{LoginRecord}
use Rattle.tally_records.specs.Event.{event_of}
use Rattle.tally_records.specs.Sorted.{in_order, insert_in_order}
use Rattle.tally_records.specs.Text.{padded}
use Rattle.tally_sessions.specs.Clock.{pending_old_time}
use Rattle.tally_sessions.specs.declared.entry.Entry.{Entry}
use Rattle.tally_sessions.specs.Hosts.{entries_of_host, posted_by}
use Rattle.tally_sessions.specs.Stays.{seconds_of}
use Rattle.tally_sessions.specs.Totals.{every_host}

abbrev utmp : ℕ → List ℕ → ℕ → LoginRecord
utmp kind user time = record { kind = kind; line = padded 32 (codes "tty1"); user = padded 32 user; remote = padded 256 []; time = pos time }

abbrev ann : List ℕ
ann = codes "ann"

-- an hour of ann on one host, and half an hour of ann within it on another, posted in turn
abbrev logins : List Entry
logins = posted_by 0 (utmp 7 ann 100 ∷ []) ++ posted_by 1 (utmp 7 ann 200 ∷ []) ++ posted_by 0 (utmp 8 [] 3700 ∷ []) ++ posted_by 1 (utmp 8 [] 2000 ∷ []) ++ []

abbrev connect_of : ℕ → Bool → Answer
connect_of host by_user = answer_of utc (questions.Connect false by_user (pos 0) every_login None) (entries_of_host host logins) []

of_first : connect_of 0 true ≡ answers.Connect (record { day = None; user = Some (padded 32 ann); seconds = 3600 } ∷ []) 3600
unfolding answer_of every_host seconds_of pending_old_time event_of in_order insert_in_order
of_first = refl

of_second : connect_of 1 true ≡ answers.Connect (record { day = None; user = Some (padded 32 ann); seconds = 1800 } ∷ []) 1800
unfolding answer_of every_host seconds_of pending_old_time event_of in_order insert_in_order
of_second = refl

-- a host that has stored nothing
of_none : connect_of 2 false ≡ answers.Connect [] 0
unfolding answer_of every_host seconds_of pending_old_time event_of
of_none = refl
