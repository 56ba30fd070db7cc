-- Worked calls of legal books, and calls that no legal book has.
use Rattle.std.proofs.Common.{◌≡◌, ◌<◌, All, List, [], ◌∷◌, ap, false, None, ℕ, zero, suc, pos, refl, inr, ⊎_elim, length, replicate, arith}
use Rattle.tally_answers.specs.Answers.{answer_of}
use Rattle.tally_book.specs.Books.{IsCall, IsLegal, IsPost, IsReport, between, empty, empty_with_room}
use Rattle.tally_book.specs.Contents.{Contents}
use Rattle.tally_book.specs.declared.history.Call.TheVariants.{Posted, Asked}
use Rattle.tally_book.specs.declared.history.Counts.{Counts}
use Rattle.tally_answers.specs.declared.question.Answer.{Answer}
use Rattle.tally_answers.specs.declared.question.Answer.TheVariants as answers
use Rattle.tally_answers.specs.declared.question.Question.{Question}
use Rattle.tally_answers.specs.declared.question.Question.TheVariants as questions
use Rattle.tally_clock.specs.Rows.{utc}
use Rattle.tally_records.specs.Choice.{every_login}
use Rattle.tally_records.specs.Event.{event_of}
use Rattle.tally_sessions.specs.Clock.{pending_old_time}
use Rattle.tally_sessions.specs.Stays.{seconds_of}
use Rattle.tally_sessions.specs.Totals.{every_host}
use Rattle.tally_sessions.specs.declared.entry.Entry.{Entry}
use Rattle.tally_usage.specs.declared.entry.ProcEntry.{ProcEntry}

abbrev counts : ℕ → ℕ → Counts
counts logins procs = record { logins = logins; procs = procs }

-- an entry of a host
abbrev of_host : ℕ → Entry
of_host host = record { host = host; item = record { kind = 0; line = replicate 32 0; user = replicate 32 0; remote = replicate 256 0; time = pos 0 } }

-- a process entry of a host
abbrev process_of : ℕ → ProcEntry
process_of host = record { host = host; item = record { flag = 0; uid = 0; begin = 0; user_ticks = 0; system_ticks = 0; real_ticks = 0; mem = 0; io = 0; comm = replicate 17 0 } }

abbrev logins : List Entry
logins = of_host 0 ∷ of_host 1 ∷ []

abbrev procs : List ProcEntry
procs = process_of 0 ∷ process_of 1 ∷ []

-- a post of a book of two callers
abbrev is_post : (caller : ℕ) (before after : Counts) → Type 0
is_post caller before after = IsPost 2 logins procs caller before after

own_first : All (λ (e : Entry). e.host ≡ 0) (between 0 1 logins)
own_first zero d h = refl
own_first (suc k) d h = omega arith

no_process : All (λ (e : ProcEntry). e.host ≡ 0) (between 0 0 procs)
no_process k d h = omega arith

-- caller 0 posted the first login record
own_post : is_post 0 (counts 0 0) (counts 1 0)
own_post = record {
  caller_in = omega arith;
  logins_grow = omega arith;
  procs_grow = omega arith;
  logins_in = omega arith;
  procs_in = omega arith;
  one_kind = inr refl;
  few_logins = omega arith;
  few_procs = omega arith;
  own_logins = own_first;
  own_procs = no_process;
}

-- no post is of a caller that there is not
no_caller : is_post 2 (counts 0 0) (counts 0 0) → ⊥
no_caller p = let caller_in = p.caller_in in omega arith

-- nor does it take records away
no_fewer_logins : is_post 0 (counts 1 0) (counts 0 0) → ⊥
no_fewer_logins p = let grow = p.logins_grow in omega arith

no_fewer_procs : is_post 0 (counts 0 1) (counts 0 0) → ⊥
no_fewer_procs p = let grow = p.procs_grow in omega arith

-- nor does it add records that are not stored
no_more_logins : is_post 0 (counts 2 0) (counts 3 0) → ⊥
no_more_logins p = let within = p.logins_in in omega arith

no_more_procs : is_post 0 (counts 0 2) (counts 0 3) → ⊥
no_more_procs p = let within = p.procs_in in omega arith

-- nor records of both kinds
no_two_kinds : is_post 0 (counts 0 0) (counts 1 1) → ⊥
no_two_kinds p = ⊎_elim (λ (e : 1 ≡ 0). omega arith) (λ (e : 1 ≡ 0). omega arith) p.one_kind

-- nor more than a batch
no_long_batch : IsPost 2 (replicate 1025 (of_host 0)) [] 0 (counts 0 0) (counts 1025 0) → ⊥
no_long_batch p = let few = p.few_logins in omega arith

no_long_process_batch : IsPost 2 [] (replicate 1025 (process_of 0)) 0 (counts 0 0) (counts 0 1025) → ⊥
no_long_process_batch p = let few = p.few_procs in omega arith

-- nor the record of another host
no_foreign_login : is_post 0 (counts 1 0) (counts 2 0) → ⊥
no_foreign_login p = let wrong : 1 ≡ 0 = p.own_logins 0 (of_host 0) (omega arith) in omega (arith, wrong)

no_foreign_process : is_post 0 (counts 0 1) (counts 0 2) → ⊥
no_foreign_process p = let wrong : 1 ≡ 0 = p.own_procs 0 (process_of 0) (omega arith) in omega (arith, wrong)

abbrev connect : Question
connect = questions.Connect false false (pos 0) every_login None

-- a report to a caller of a book of two
abbrev is_report : ℕ → Counts → Question → Answer → Type 0
is_report caller at question answer = IsReport 2 utc logins procs caller at question answer

-- the answer over what was stored by then
own_report : is_report 1 (counts 1 2) connect (answers.Connect [] 0)
unfolding answer_of every_host seconds_of pending_old_time event_of
own_report = record { caller_in = omega arith; logins_in = omega arith; procs_in = omega arith; host_in = tt; defined = refl }

abbrev seconds_in : Answer → ℕ
seconds_in (answers.Connect rows total) = total
seconds_in answer = 0

-- no report has another answer
no_other_answer : is_report 1 (counts 1 2) connect (answers.Connect [] 1) → ⊥
unfolding answer_of every_host seconds_of pending_old_time event_of
no_other_answer r = let wrong : 1 ≡ 0 = ap seconds_in r.defined in omega (arith, wrong)

-- nor is it of a host or to a caller that there is not, or of records that are not stored
no_host : (answer : Answer) → is_report 1 (counts 1 2) (questions.Last 2 None every_login None) answer → ⊥
no_host answer r = let host_in = r.host_in in omega arith

no_asker : (answer : Answer) → is_report 2 (counts 1 2) connect answer → ⊥
no_asker answer r = let caller_in = r.caller_in in omega arith

no_later_logins : (answer : Answer) → is_report 1 (counts 3 2) connect answer → ⊥
no_later_logins answer r = let within = r.logins_in in omega arith

no_later_procs : (answer : Answer) → is_report 1 (counts 1 3) connect answer → ⊥
no_later_procs answer r = let within = r.procs_in in omega arith

-- calls are posts or reports, by their kind
kinds : (IsCall 2 utc logins procs (Posted 0 (counts 0 0) (counts 1 0)) ≡ is_post 0 (counts 0 0) (counts 1 0))
    × (IsCall 2 utc logins procs (Asked 1 (counts 1 2) connect (answers.Connect [] 0)) ≡ is_report 1 (counts 1 2) connect (answers.Connect [] 0))
kinds = (refl, refl)

-- a book has 1 to 128 callers
no_callers : IsLegal (empty utc 0) → ⊥
no_callers b = let some = b.some_callers in omega arith

too_many_callers : IsLegal (empty utc 129) → ⊥
too_many_callers b = let few = b.few_callers in omega arith

-- and no more records of a kind than it has room for, nor more than 65,536 calls
too_many_logins : (b : Contents) → b.room < length b.logins → IsLegal b → ⊥
too_many_logins b more l = let few = l.few_logins in omega arith

too_many_procs : (b : Contents) → b.room < length b.procs → IsLegal b → ⊥
too_many_procs b more l = let few = l.few_procs in omega arith

too_many_calls : (b : Contents) → 65536 < length b.calls → IsLegal b → ⊥
too_many_calls b more l = let few = l.few_calls in omega arith

-- its room is of whole millions
no_whole_room : IsLegal (empty_with_room utc 1048577 1) → ⊥
no_whole_room l = let wrong : 1 ≡ 0 = l.room.whole in omega (arith, wrong)

-- what no call stored is not in it
no_record_without_call : IsLegal (record (empty utc 2) { logins = logins }) → ⊥
no_record_without_call l = let wrong : 0 ≡ 2 = ap (λ (c : Counts). c.logins) l.chained in omega (arith, wrong)

-- each of its calls is one
no_bad_call : IsLegal (record (empty utc 2) { calls = Posted 2 (counts 0 0) (counts 0 0) ∷ [] }) → ⊥
no_bad_call l = let caller_in : 2 < 2 = (l.sound 0 (Posted 2 (counts 0 0) (counts 0 0)) (omega arith)).caller_in in omega (arith, caller_in)
