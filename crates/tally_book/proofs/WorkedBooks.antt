-- Worked books: what calls store and answer, and what each caller did, computed by the definitions.
use Rattle.std.proofs.Common.{◌≡◌, List, [], ◌∷◌, ◌++◌, true, false, map, None, ℕ, pos, refl}
use Rattle.std.specs.Prelude.{codes}
use Rattle.tally_answers.specs.Answers.{answer_of}
use Rattle.tally_book.specs.Books.{Chains, IsReceipt, IsServed, after_of, asked, before_of, between, caller_of, calls_of, counts_of, counts_with, empty, empty_with_room, nothing, posted}
use Rattle.tally_book.specs.Contents.{Contents}
use Rattle.tally_book.specs.Deeds.{Ask, Post, deeds_of, login_records, logins_added, procs_added, procs_of_host}
use Rattle.tally_book.specs.declared.history.Call.{Call}
use Rattle.tally_book.specs.declared.history.Call.TheVariants.{Posted, Asked}
use Rattle.tally_book.specs.declared.history.Counts.{Counts}
use Rattle.tally_answers.specs.declared.question.Answer.TheVariants as answers
use Rattle.tally_answers.specs.declared.question.Question.{Question}
use Rattle.tally_answers.specs.declared.question.Question.TheVariants as questions
use Rattle.tally_clock.specs.Rows.{utc}
use Rattle.tally_records.specs.Choice.{every_login}
use Rattle.tally_records.specs.Event.{event_of}
use Rattle.tally_records.specs.Records.{Logins, Procs}
use Rattle.tally_records.specs.Sorted.{in_order, insert_in_order}
use Rattle.tally_records.specs.Text.{padded}
use Rattle.tally_records.specs.declared.login.LoginRecord.{LoginRecord}
use Rattle.tally_records.specs.declared.process.ProcRecord.{ProcRecord}
use Rattle.tally_sessions.specs.Clock.{pending_old_time}
use Rattle.tally_sessions.specs.Stays.{seconds_of}
use Rattle.tally_sessions.specs.Totals.{every_host}
use Rattle.tally_usage.specs.Command.{command_rows}
use Rattle.tally_usage.specs.Usage.{usage_of}
use Rattle.tally_usage.specs.declared.command.CommandRow.{CommandRow}
use Rattle.tally_usage.specs.declared.order.Order.TheVariants.{Cpu}
use Rattle.tally_usage.specs.declared.usage.Usage.{Usage}

abbrev counts : ℕ → ℕ → Counts
counts logins procs = record { logins = logins; procs = procs }

abbrev utmp : ℕ → List ℕ → ℕ → LoginRecord
utmp kind user time = record { kind = kind; line = padded 32 (codes "tty1"); user = padded 32 user; remote = padded 256 []; time = pos time }

abbrev login : LoginRecord
login = utmp 7 (codes "ann") 1000000

abbrev logout : LoginRecord
logout = utmp 8 [] 1003600

abbrev make : ℕ → ℕ → ℕ → ℕ → ℕ → ℕ → ProcRecord
make flag user system real mem io = record { flag = flag; uid = 1000; begin = 0; user_ticks = user; system_ticks = system; real_ticks = real; mem = mem; io = io; comm = padded 17 (codes "make") }

abbrev whole : ProcRecord
whole = make 0 120 60 600 500 1000

abbrev forked : ProcRecord
forked = make 1 60 0 60 200 3

abbrev connect : Question
connect = questions.Connect false false (pos 0) every_login None

abbrev commands : Question
commands = questions.Commands Cpu false false

abbrev total : Usage
total = record { count = 3; real = 720; cpu = 300; io = 1006; mem_cpu = 114000 }

abbrev stray_row : CommandRow
stray_row = record { name = padded 17 (codes "***other"); forked = false; other = true; usage = record { count = 1; real = 600; cpu = 180; io = 1000; mem_cpu = 90000 } }

abbrev forked_row : CommandRow
forked_row = record { name = padded 17 (codes "make"); forked = true; other = false; usage = record { count = 2; real = 120; cpu = 120; io = 6; mem_cpu = 24000 } }

-- a new book of two callers, and what it is after a post of each and a report to each
abbrev new_book : Contents
new_book = empty utc 2

abbrev with_logins : Contents
with_logins = posted new_book 0 (Logins (login ∷ logout ∷ []))

abbrev with_connect : Contents
with_connect = asked with_logins 1 connect

abbrev with_procs : Contents
with_procs = posted with_connect 1 (Procs (whole ∷ forked ∷ forked ∷ []))

abbrev with_commands : Contents
with_commands = asked with_procs 0 commands

-- a new book has no calls and stores nothing; it has room for 1,048,576 records of each kind, unless another room is asked for
new_books : new_book ∷ empty_with_room utc 2097152 3 ∷ []
    ≡ record { callers = 2; clock = utc; room = 1048576; logins = []; procs = []; calls = [] } ∷ record { callers = 3; clock = utc; room = 2097152; logins = []; procs = []; calls = [] } ∷ []
new_books = refl

-- records are stored under the caller, in order, and a report changes none of them
stored_logins : with_commands.logins ≡ record { host = 0; item = login } ∷ record { host = 0; item = logout } ∷ []
stored_logins = refl

stored_procs : with_commands.procs ≡ record { host = 1; item = whole } ∷ record { host = 1; item = forked } ∷ record { host = 1; item = forked } ∷ []
stored_procs = refl

-- an answered call is the last of the history, with what was stored before and after it, or by then
history : with_commands.calls ≡ Posted 0 (counts 0 0) (counts 2 0) ∷ Asked 1 (counts 2 0) connect (answers.Connect [] 3600) ∷ Posted 1 (counts 2 0) (counts 2 3)
    ∷ Asked 0 (counts 2 3) commands (answers.Commands (stray_row ∷ forked_row ∷ []) total) ∷ []
unfolding answer_of every_host seconds_of pending_old_time event_of command_rows in_order insert_in_order usage_of
history = refl

-- callers, clock and room stay
unchanged : (with_commands.callers ∷ with_commands.room ∷ [] ≡ 2 ∷ 1048576 ∷ []) × (with_commands.clock ≡ utc)
unchanged = (refl, refl)

-- an empty batch is a call too
empty_batch : (posted with_commands 0 (Logins [])).calls ≡ with_commands.calls ++ Posted 0 (counts 2 3) (counts 2 3) ∷ []
empty_batch = refl

-- how much is stored, and would be with a batch
amounts : map counts_of (new_book ∷ with_logins ∷ with_procs ∷ []) ∷ map (counts_with with_procs) (Logins (login ∷ []) ∷ Procs (forked ∷ forked ∷ []) ∷ Procs [] ∷ []) ∷ (nothing ∷ []) ∷ []
    ≡ (counts 0 0 ∷ counts 2 0 ∷ counts 2 3 ∷ []) ∷ (counts 3 3 ∷ counts 2 5 ∷ counts 2 3 ∷ []) ∷ (counts 0 0 ∷ []) ∷ []
amounts = refl

-- the number of a call counts it in
receipt : IsReceipt with_connect with_procs (record { call = 3; before = counts 2 0; after = counts 2 3 })
receipt = record { call = refl; before = refl; after = refl }

served : IsServed with_logins with_connect connect (record { call = 2; at = counts 2 0; answer = answers.Connect [] 3600 })
unfolding answer_of every_host seconds_of pending_old_time event_of
served = record { call = refl; at = refl; answer = refl }

abbrev post_call : Call
post_call = Posted 1 (counts 2 0) (counts 2 3)

abbrev report_call : Call
report_call = Asked 0 (counts 2 3) connect (answers.Connect [] 3600)

-- a post's caller and counts, and a report's, which stores nothing
of_calls : map caller_of (post_call ∷ report_call ∷ []) ≡ 1 ∷ 0 ∷ []
of_calls = refl

counts_around : map before_of (post_call ∷ report_call ∷ []) ∷ map after_of (post_call ∷ report_call ∷ []) ∷ [] ≡ (counts 2 0 ∷ counts 2 3 ∷ []) ∷ (counts 2 3 ∷ counts 2 3 ∷ []) ∷ []
counts_around = refl

-- the calls of a caller, in order
own_calls : map (λ caller. calls_of caller (report_call ∷ post_call ∷ Posted 0 (counts 2 3) (counts 3 3) ∷ [])) (0 ∷ 1 ∷ 2 ∷ []) ≡ (report_call ∷ Posted 0 (counts 2 3) (counts 3 3) ∷ []) ∷ (post_call ∷ []) ∷ [] ∷ []
own_calls = refl

-- each call begins where the one before it ended, the first at nothing, and the last ends at what is stored
chained : Chains nothing [] (counts 0 0) × Chains nothing (Posted 0 (counts 0 0) (counts 2 0) ∷ post_call ∷ report_call ∷ []) (counts 2 3)
chained = (refl, (refl, (refl, (refl, refl))))

unchained : Chains nothing (post_call ∷ []) (counts 2 4) ≡ ((counts 2 0 ≡ counts 0 0) × (counts 2 3 ≡ counts 2 4))
unchained = refl

-- entries from the first place up to the second, which is not among them
places : between {X = ℕ} 1 3 (10 ∷ 11 ∷ 12 ∷ 13 ∷ []) ∷ between {X = ℕ} 0 4 (10 ∷ 11 ∷ 12 ∷ 13 ∷ []) ∷ between {X = ℕ} 2 2 (10 ∷ 11 ∷ 12 ∷ 13 ∷ []) ∷ between {X = ℕ} 3 9 (10 ∷ 11 ∷ 12 ∷ 13 ∷ []) ∷ []
    ≡ (11 ∷ 12 ∷ []) ∷ (10 ∷ 11 ∷ 12 ∷ 13 ∷ []) ∷ [] ∷ (13 ∷ []) ∷ []
places = refl

-- what each caller did: the records that it posted, or the question that it asked
deeds : map (λ caller. deeds_of caller with_commands) (0 ∷ 1 ∷ 2 ∷ []) ≡ (Post (login ∷ logout ∷ []) [] ∷ Ask commands ∷ []) ∷ (Ask connect ∷ Post [] (whole ∷ forked ∷ forked ∷ []) ∷ []) ∷ [] ∷ []
deeds = refl

-- what a deed added, which is nothing for a question
added_logins : map logins_added (Post (login ∷ []) (whole ∷ []) ∷ Ask connect ∷ []) ≡ (login ∷ []) ∷ [] ∷ []
added_logins = refl

added_procs : map procs_added (Post (login ∷ []) (whole ∷ []) ∷ Ask connect ∷ []) ≡ (whole ∷ []) ∷ [] ∷ []
added_procs = refl

-- records without their host, and the process records of one
without_host : login_records with_commands.logins ≡ login ∷ logout ∷ []
without_host = refl

procs_of_hosts : map (λ host. procs_of_host host with_commands.procs) (0 ∷ 1 ∷ []) ≡ [] ∷ (whole ∷ forked ∷ forked ∷ []) ∷ []
procs_of_hosts = refl
