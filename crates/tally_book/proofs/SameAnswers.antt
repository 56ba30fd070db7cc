-- An answer depends on each host's own records alone.
use Rattle.std.proofs.Common.{Bool, false, refl, ap, filter, Option, ℤ, ◌≡◌, ◌∙◌, ℕ, List, [], map, reverse, sym, true}
use Rattle.std.specs.Prelude.{slice_get, option_map}
use Rattle.std.specs.List.{flat_map}
use Rattle.std.specs.List.Sorted.{IsPermutation}
use Rattle.tally_answers.specs.declared.question.Question.{Question}
use Rattle.tally_answers.specs.declared.question.Question.TheVariants as questions
use Rattle.tally_answers.specs.declared.question.Answer.TheVariants as answers
use Rattle.tally_attempts.specs.Attempts.{attempt, is_chosen}
use Rattle.tally_attempts.specs.Laws as attempts
use Rattle.tally_attempts.specs.Sums.{chosen_attempts}
use Rattle.tally_records.specs.declared.choice.LoginChoice.{LoginChoice}
use Rattle.tally_records.specs.declared.login.LoginRecord.{LoginRecord}
use Rattle.tally_sessions.specs.declared.entry.Entry.{Entry}
use Rattle.tally_clock.specs.Rows.{ClockRows}
use Rattle.tally_sessions.specs.Choice.{is_shown}
use Rattle.tally_sessions.specs.Days.{local}
use Rattle.tally_sessions.specs.Stays.{stays_from}
use Rattle.tally_sessions.specs.Rows.{day_times, day_user_times, user_times}
use Rattle.tally_sessions.specs.Sums.{seconds_in, sessions_among, sessions_of}
use Rattle.tally_sessions.specs.Totals.{every_host, limited}
use Rattle.tally_sessions.specs.Hosts.{of_host}
use Rattle.tally_usage.specs.declared.entry.ProcEntry.{ProcEntry}
use Rattle.tally_usage.specs.Laws.{RecordOrderIsFree}
use Rattle.tally_usage.specs.Totals.{records_of}
use Rattle.tally_answers.specs.Answers.{answer_of, connect_rows, row_of_day, row_of_day_user, row_of_user}
use Rattle.tally_book.specs.Deeds.{SameOfEachHost}
use Rattle.tally_book.proofs.ChosenOwn.{owned_passing, passing}
use Rattle.tally_book.proofs.Parts.{owned}
use Rattle.tally_book.proofs.Permuted.{same_items}

-- the same sessions
same_sessions : (choice : LoginChoice) (logins others : List Entry) → ((host : ℕ) → of_host host logins ≡ of_host host others) → (until : Option ℤ) → sessions_of choice logins until ≡ sessions_of choice others until
same_sessions choice logins others same until = λ i. flat_map (λ host. sessions_among choice (stays_from host [] (same host i) until)) every_host

same_rows : (choice : LoginChoice) (logins others : List Entry) → ((host : ℕ) → of_host host logins ≡ of_host host others) → (until : Option ℤ) (by_day by_user : Bool) (clock : ℤ → ℤ)
    → connect_rows by_day by_user clock choice logins until ≡ connect_rows by_day by_user clock choice others until
same_rows choice logins others same until false false clock = refl
same_rows choice logins others same until false true clock = λ i. map row_of_user (user_times (same_sessions choice logins others same until i))
same_rows choice logins others same until true false clock = λ i. map row_of_day (day_times clock (same_sessions choice logins others same until i))
same_rows choice logins others same until true true clock = λ i. map row_of_day_user (day_user_times clock (same_sessions choice logins others same until i))

-- the same failed logins in some order, of those that are chosen
mixed_attempts : (choice : LoginChoice) (logins others : List Entry) → ((host : ℕ) → of_host host logins ≡ of_host host others) → IsPermutation (chosen_attempts choice logins) (chosen_attempts choice others)
mixed_attempts choice logins others same =
    let host : Entry → ℕ = λ e. e.host in
    let item : Entry → LoginRecord = λ e. e.item in
    let p = is_chosen choice in
    let each : (k : ℕ) → owned host item k (passing host item p logins) ≡ owned host item k (passing host item p others) =
    λ k. owned_passing host item p k logins ∙ ap (filter p) (same k) ∙ sym (owned_passing host item p k others) in
    same_items host item (passing host item p logins) (passing host item p others) each

pub same_answer : RecordOrderIsFree → attempts.RecordOrderIsFree → (logins others : List Entry) (procs rest : List ProcEntry) → SameOfEachHost logins others procs rest → (clock : ClockRows) (question : Question) → answer_of clock question logins procs ≡ answer_of clock question others rest
unfolding answer_of
same_answer free free_sums logins others procs rest same clock (questions.Last host limit choice until) =
    λ i. answers.Last (limited limit (reverse (filter (is_shown choice until) (stays_from host [] (same.same_logins host i) until)))) (option_map (λ r. r.time) (slice_get (same.same_logins host i) 0))
same_answer free free_sums logins others procs rest same clock (questions.Connect by_day by_user offset choice until) =
    λ i. answers.Connect (same_rows choice logins others same.same_logins until by_day by_user (local clock offset) i) (seconds_in (same_sessions choice logins others same.same_logins until i))
same_answer free free_sums logins others procs rest same clock (questions.Commands order reversed all) =
    let mixed : IsPermutation (records_of procs) (records_of rest) = same_items (λ (e : ProcEntry). e.host) (λ (e : ProcEntry). e.item) procs rest same.same_procs in
    let law = free order all reversed (records_of procs) (records_of rest) mixed in
    λ i. answers.Commands (sym law.0 i) (sym law.2 i)
same_answer free free_sums logins others procs rest same clock (questions.Users order reversed) =
    let mixed : IsPermutation (records_of procs) (records_of rest) = same_items (λ (e : ProcEntry). e.host) (λ (e : ProcEntry). e.item) procs rest same.same_procs in
    let law = free order true reversed (records_of procs) (records_of rest) mixed in
    λ i. answers.Users (sym law.1 i) (sym law.2 i)
same_answer free free_sums logins others procs rest same clock (questions.Attempts host limit choice) =
    λ i. answers.Attempts (limited limit (reverse (map (attempt host) (filter (is_chosen choice) (same.same_logins host i))))) (option_map (λ r. r.time) (slice_get (same.same_logins host i) 0))
same_answer free free_sums logins others procs rest same clock (questions.AttemptSums limit choice) =
    λ i. answers.AttemptSums (limited limit (sym (free_sums (chosen_attempts choice logins) (chosen_attempts choice others) (mixed_attempts choice logins others same.same_logins)) i))
