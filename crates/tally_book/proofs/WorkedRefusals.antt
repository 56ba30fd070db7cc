-- Worked refusals, rooms and hosts of questions, computed by the definitions.
use Rattle.std.proofs.Common.{◌≡◌, ◌<◌, ◌≤◌, [], ◌∷◌, map, true, None, Some, ℕ, ℤ, pos, neg_ℤ, refl, replicate, arith}
use Rattle.std.proofs.lemmas.Int.{ints}
use Rattle.tally_answers.specs.Answers.{HasDays, IsAskable, NamesHost, NamesHostBelow}
use Rattle.tally_book.specs.Refusals.{HasRoom, IsAskRefusal, IsPostRefusal}
use Rattle.tally_book.specs.Rooms.{IsRoom, batches_in}
use Rattle.tally_book.specs.declared.book.TheConstants.{CALL_LIMIT}
use Rattle.tally_book.specs.declared.fault.AskFault.TheVariants as ask
use Rattle.tally_book.specs.declared.fault.PostFault.TheVariants as post
use Rattle.tally_book.specs.declared.history.Counts.{Counts}
use Rattle.tally_answers.specs.declared.question.Answer.{Answer}
use Rattle.tally_answers.specs.declared.question.Answer.TheVariants as answers
use Rattle.tally_answers.specs.declared.question.Question.{Question}
use Rattle.tally_answers.specs.declared.question.Question.TheVariants as questions
use Rattle.tally_book.specs.declared.room.TheConstants.{MOST_MILLIONS}
use Rattle.tally_records.specs.Choice.{every_login}
use Rattle.tally_records.specs.Records.{Logins, Procs, Records}
use Rattle.tally_records.specs.declared.login.LoginRecord.{LoginRecord}
use Rattle.tally_records.specs.declared.process.ProcRecord.{ProcRecord}
use Rattle.tally_usage.specs.declared.order.Order.TheVariants.{Calls}

abbrev counts : ℕ → ℕ → Counts
counts logins procs = record { logins = logins; procs = procs }

abbrev same : ℕ → ℕ → Type 0
same m n = m ≡ n

abbrev login : LoginRecord
login = record { kind = 0; line = replicate 32 0; user = replicate 32 0; remote = replicate 256 0; time = pos 0 }

abbrev process : ProcRecord
process = record { flag = 0; uid = 0; begin = 0; user_ticks = 0; system_ticks = 0; real_ticks = 0; mem = 0; io = 0; comm = replicate 17 0 }

abbrev one_login : Records
one_login = Logins (login ∷ [])

abbrev one_proc : Records
one_proc = Procs (process ∷ [])

-- a batch may fill a book, and an empty one fits a full book
has_room : HasRoom 1048576 (counts 1048575 0) one_login × HasRoom 1048576 (counts 1048576 1048575) one_proc × HasRoom 1048576 (counts 1048576 1048576) (Logins [])
has_room = (record { logins = omega arith; procs = omega arith }, record { logins = omega arith; procs = omega arith }, record { logins = omega arith; procs = omega arith })

-- where a record more is too many, the fault names how many of its kind are stored
logins_full : IsPostRefusal 1048576 (counts 1048576 5) 9 one_login (post.LoginsFull 1048576) ≡ (same 1048576 1048576 × (1048576 < 1048577))
logins_full = refl

procs_full : IsPostRefusal 1048576 (counts 5 1048576) 9 one_proc (post.ProcsFull 1048576) ≡ (same 1048576 1048576 × (1048576 < 1048577))
procs_full = refl

-- a history has up to 65,536 calls, and is found full only where the batch has room
call_limit : CALL_LIMIT ≡ 65536
call_limit = refl

post_calls_full : IsPostRefusal 1048576 (counts 5 6) 65536 one_login post.CallsFull ≡ (HasRoom 1048576 (counts 5 6) one_login × same 65536 65536)
post_calls_full = refl

-- want of memory comes last
post_memory : IsPostRefusal 1048576 (counts 5 6) 9 one_login post.Memory ≡ (HasRoom 1048576 (counts 5 6) one_login × (9 < 65536))
post_memory = refl

abbrev last : ℕ → Question
last host = questions.Last host None every_login None

abbrev attempts : ℕ → Question
attempts host = questions.Attempts host None every_login

abbrev connect : ℤ → Question
connect offset = questions.Connect true true offset every_login None

abbrev commands : Question
commands = questions.Commands Calls true true

abbrev users : Question
users = questions.Users Calls true

abbrev attempt_sums : Question
attempt_sums = questions.AttemptSums None every_login

-- of a report a full history is named first, then a host from the number of callers up, and want of memory last
ask_calls_full : IsAskRefusal 2 65536 (last 2) ask.CallsFull ≡ same 65536 65536
ask_calls_full = refl

no_such_host : IsAskRefusal 2 9 (last 2) (ask.NoSuchHost 2) ≡ ((9 < 65536) × (2 ≤ 2) × same 2 2)
no_such_host = refl

ask_memory : IsAskRefusal 2 9 (attempts 1) ask.Memory ≡ ((9 < 65536) × (1 < 2))
ask_memory = refl

-- lists of stays and of failed logins are of a host, which is one of the callers, and no other report is
named_hosts : NamesHost (last 3) 3 × NamesHost (attempts 3) 3
named_hosts = (refl, refl)

other_hosts : (NamesHost (last 3) 4 ≡ same 3 4) × (NamesHost (attempts 3) 4 ≡ same 3 4)
other_hosts = (refl, refl)

no_hosts : (NamesHost (connect (pos 0)) 0 ≡ ⊥) × (NamesHost commands 0 ≡ ⊥) × (NamesHost users 0 ≡ ⊥) × (NamesHost attempt_sums 0 ≡ ⊥)
no_hosts = (refl, refl, refl, refl)

hosts_below : (NamesHostBelow 2 (last 1) ≡ (1 < 2)) × (NamesHostBelow 2 (attempts 1) ≡ (1 < 2)) × NamesHostBelow 0 (connect (pos 0)) × NamesHostBelow 0 commands × NamesHostBelow 0 users × NamesHostBelow 0 attempt_sums
hosts_below = (refl, refl, tt, tt, tt, tt)

-- an offset is less than a day to either side, and no other question needs anything
offsets : IsAskable (connect (pos 1439)) × IsAskable (connect (neg_ℤ (pos 1439)))
offsets = (record { low = omega (arith, ints); high = omega (arith, ints) }, record { low = omega (arith, ints); high = omega (arith, ints) })

too_far_east : IsAskable (connect (pos 1440)) → ⊥
too_far_east h = let high = h.high in omega (arith, ints)

too_far_west : IsAskable (connect (neg_ℤ (pos 1440))) → ⊥
too_far_west h = let low = h.low in omega (arith, ints)

without_offset : IsAskable (last 9) × IsAskable commands × IsAskable users × IsAskable (attempts 9) × IsAskable attempt_sums
without_offset = (tt, tt, tt, tt, tt)

-- the days of rows are those that a time can have, and other answers have no days
abbrev on_day : ℤ → Answer
on_day day = answers.Connect (record { day = Some day; user = None; seconds = 1 } ∷ []) 1

no_later_day : HasDays (on_day (pos 24858)) → ⊥
no_later_day h = let high = (h 0 (record { day = None; user = None; seconds = 0 }) (omega arith)).high in omega (arith, ints)

no_earlier_day : HasDays (on_day (neg_ℤ (pos 24859))) → ⊥
no_earlier_day h = let low = (h 0 (record { day = None; user = None; seconds = 0 }) (omega arith)).low in omega (arith, ints)

without_days : HasDays (answers.Last [] (Some (pos 0))) × HasDays (answers.Attempts [] None) × HasDays (answers.AttemptSums [])
without_days = (tt, tt, tt)

-- rooms are of 1 to 16 millions, each of 1,048,576 records, and of whole ones
most_millions : MOST_MILLIONS ≡ 16
most_millions = refl

rooms : IsRoom 1048576 × IsRoom 16777216
rooms = (record { some = omega arith; few = omega arith; whole = refl }, record { some = omega arith; few = omega arith; whole = refl })

no_million : IsRoom 0 → ⊥
no_million r = let some = r.some in omega arith

too_many_millions : IsRoom 17825792 → ⊥
too_many_millions r = let few = r.few in omega arith

no_whole_million : IsRoom 1048577 → ⊥
no_whole_million r = let whole : 1 ≡ 0 = r.whole in omega (arith, whole)

-- a million is 1,024 full batches
batches : map batches_in (1048576 ∷ 16777216 ∷ []) ≡ 1024 ∷ 16384 ∷ []
batches = refl
