-- The output of a run is that of its job and files.
use Rattle.std.proofs.Common.{◌≡◌, ℕ, zero, suc, ◌+◌, Bool, true, false, cond, IsTrue, List, [], ◌∷◌, ◌++◌, Option, Result, Ok, Err, inl, inr, length, map, refl, sym, subst, ap, ◌∙◌, append-nil, add-zero, arith}
use Rattle.std.proofs.lemmas.Bool.{eqb-true}
use Rattle.std.specs.Prelude.{IfErr, None, OnOk, if◌then◌else◌, slice_index_or, ◌==◌}
use Rattle.std.specs.List.{All, flat_map, range_with_len}
use Rattle.tally_clock.specs.Rows.{ClockRows}
use Rattle.tally_book.specs.Contents.{Contents}
use Rattle.tally_answers.specs.Answers.{answer_of}
use Rattle.tally_book.specs.Deeds.{SameOfEachHost}
use Rattle.tally_answers.specs.declared.question.Answer.{Answer}
use Rattle.tally_answers.specs.declared.question.Question.{Question}
use Rattle.tally_desk.specs.declared.fault.FeedFault.TheVariants as feed
use Rattle.tally_print.specs.Output.{AppendsPrefix, OutputNow, Prints, failed_calls}
use Rattle.tally_print.specs.declared.output.PrintFault.{PrintFault}
use Rattle.tally_print.specs.declared.output.PrintFault.TheVariants as print
use Rattle.tally_records.specs.declared.batch.Kind.{Kind}
use Rattle.tally_sessions.specs.declared.entry.Entry.{Entry}
use Rattle.tally_sessions.specs.Days.{local}
use Rattle.tally_sessions.specs.Hosts.{entries_of_host, of_host, posted_by}
use Rattle.tally_usage.specs.declared.entry.ProcEntry.{ProcEntry}
use Rattle.tally_line.specs.declared.job.Job.{Job}
use Rattle.tally_cli.specs.declared.running.source.Source.{Source}
use Rattle.tally_cli.specs.Apart.{Apart, apart_text, file_table, file_text, files_text, has_paths, is_by_file, path_csv_of}
use Rattle.tally_cli.specs.Output.{answers_of, form_text, login_entries, proc_entries, questions_of, table_of}
use Rattle.tally_cli.specs.declared.fault.RunFault.{RunFault}
use Rattle.tally_cli.specs.declared.fault.RunFault.TheVariants.{Asker, Callers, File, Memory, Write}
use Rattle.tally_cli.specs.Runs.{IsAllowed, IsCause, IsFailedRun, IsFullList, IsGood, IsNamed, IsUnwrittenBefore, Tell, Told, failed_writes, fault_from, output_told, records_told, room_of}
use Rattle.tally_cli.specs.Reading.{AreRead, IsReadCause}
use Rattle.tally_cli.specs.inside.RunSteps.{IsPrintFault}

-- the kinds that the sources tell
pub kinds_told : {I : Type 0} (to_come : I → Option (List ℕ)) (sources : List (Source I)) (inputs : List Told) → Tell to_come sources inputs → map (λ (s : Source I). s.kind) sources ≡ map (λ (i : Told). i.kind) inputs
kinds_told to_come [] [] h = refl
kinds_told to_come [] (i ∷ is) h = absurd (omega (arith, h.0))
kinds_told to_come (s ∷ ss) [] h = absurd (omega (arith, h.0))
kinds_told to_come (s ∷ ss) (i ∷ is) h = λ j. (h.1 zero s i (omega arith)).kind j ∷ kinds_told to_come ss is (omega (arith, h.0), λ k x y l. h.1 (suc k) x y (omega (arith, l))) j

one_entry : (host : ℕ) (e : Entry) (es : List Entry) (b : Bool) → (e.host == host) ≡ b → entries_of_host host es ≡ posted_by host (of_host host es)
    → cond b (e ∷ entries_of_host host es) (entries_of_host host es) ≡ posted_by host (map (λ (x : Entry). x.item) (cond b (e ∷ entries_of_host host es) (entries_of_host host es)))
one_entry host e es true is rest = let same : e.host ≡ host = eqb-true e.host host is in λ j. record { host = same j; item = e.item } ∷ rest j
one_entry host e es false is rest = rest

-- the entries of a host are its records under its number
host_entries : (host : ℕ) (entries : List Entry) → entries_of_host host entries ≡ posted_by host (of_host host entries)
host_entries host [] = refl
host_entries host (e ∷ es) = one_entry host e es (e.host == host) refl (host_entries host es)

-- the report of a book over the files' records is the output of what the sources tell
pub output_is : {I : Type 0} (to_come : I → Option (List ℕ)) (clock : ClockRows) (apart : Apart) (job : Job) (sources : List (Source I)) (inputs : List Told) (b : Contents) {kinds shown : List Kind} {lent : List (Source I)}
    → shown ≡ kinds → kinds ≡ map (λ (s : Source I). s.kind) lent → lent ≡ sources
    → ((logins others : List Entry) (procs rest : List ProcEntry) → SameOfEachHost logins others procs rest → (clock : ClockRows) (q : Question) → answer_of clock q logins procs ≡ answer_of clock q others rest)
    → Tell to_come sources inputs → AreRead job inputs b
    → apart_text clock apart job shown b.logins b.procs ≡ output_told clock apart job inputs
output_is {I} to_come clock apart job sources inputs b {shown = shown} e f h order tell read =
    let logins : List Entry = login_entries (map records_told inputs) in
    let procs : List ProcEntry = proc_entries (map records_told inputs) in
    let same = order b.logins logins b.procs procs read.same clock in
    let asked : List Question = questions_of job.report job.offset shown job.until in
    let alone : (file : ℕ) → entries_of_host file b.logins ≡ entries_of_host file logins = λ file. host_entries file b.logins ∙ ap (posted_by file) (read.same.same_logins file) ∙ sym (host_entries file logins) in
    let text : apart_text clock apart job shown b.logins b.procs ≡ apart_text clock apart job shown logins procs = λ j.
    let given : List Answer = map (λ q. same q j) asked in
    let all : List ℕ = form_text job.form job.report (local clock job.offset) job.until given in
    if is_by_file apart job.report then files_text job.form apart.paths (file_table job.report None)
    (flat_map (λ file. file_text clock job None apart file (answers_of clock job shown (alone file j) [])) (range_with_len 0 (length shown))) all
    else if has_paths apart job then path_csv_of (table_of job.report) (local clock job.offset) apart.files given
    else all in
    text
    ∙ ap (λ ks. apart_text clock apart job ks logins procs)
    (e ∙ f ∙ ap (map (λ (s : Source I). s.kind)) h ∙ kinds_told to_come sources inputs tell)

no_front : (front rest : List ℕ) → [] ≡ front ++ rest → front ≡ []
no_front [] rest e = refl
no_front (x ∷ front) rest e = cc

-- the text stands as it was printed, where nothing was written after it
pub printed_whole : {D E : Type 0} {old mid new : OutputNow} {done : Unit {0}} {r : Result (Unit {0}) E} {failed : ℕ} {text text' : List ℕ} → Prints {E = D} old mid (Ok done) 0 text → Prints mid new r failed [] → text ≡ text' → IsTrue old.tells → new.written ≡ old.written ++ text'
printed_whole {old = old} {mid = mid} printed kept same told =
    let last = kept.prefix (rw printed.tells told) in
    last.appended ∙ ap (λ l. mid.written ++ l) (no_front last.front last.rest last.whole) ∙ append-nil mid.written ∙ printed.ok told ∙ ap (λ l. old.written ++ l) same

-- a text that was written whole
pub whole_prefix : (old new text : List ℕ) → new ≡ old ++ text → AppendsPrefix old new text
whole_prefix old new text written = record { front = text; rest = []; appended = written; whole = sym (append-nil text) }

-- nothing was printed where memory was refused
pub prints_nothing : (now : OutputNow) (text : List ℕ) → Prints {E = PrintFault} now now (Err print.Memory) 0 text
prints_nothing now text = record {
  prefix = λ told. record { front = []; rest = text; appended = sym (append-nil now.written); whole = refl };
  ok = tt;
  counts = sym (add-zero now.failures);
  tells = refl;
}

-- what a printer wrote whole, in a run
pub prints_as : {D E : Type 0} {old new : OutputNow} {done done' : Unit {0}} {text text' : List ℕ} → text ≡ text' → Prints {E = D} old new (Ok done) 0 text → Prints {E = E} old new (Ok done') 0 text'
prints_as {old = old} {new = new} same printed = record {
  prefix = λ told. subst (AppendsPrefix old.written new.written) same (printed.prefix told);
  ok = λ told. printed.ok told ∙ ap (λ l. old.written ++ l) same;
  counts = printed.counts;
  tells = printed.tells;
}

same_calls : (e : PrintFault) → failed_calls (Err e) ≡ failed_writes (Err (fault_from e))
same_calls print.Memory = refl
same_calls print.Write = refl

-- what a printer wrote, by the fault that its failure is of a run
pub prints_from : {old new : OutputNow} {text : List ℕ} (e : PrintFault) (r : Result (Unit {0}) RunFault) → r ≡ Err (fault_from e) → Prints old new (Err e) (failed_calls (Err e)) text → Prints old new r (failed_writes r) text
prints_from {old} {new} {text} e r is printed = subst (λ (x : Result (Unit {0}) RunFault). Prints old new x (failed_writes x) text) (sym is) (record {
  prefix = printed.prefix;
  ok = tt;
  counts = printed.counts ∙ ap (λ n. old.failures + n) (same_calls e);
  tells = printed.tells;
})

-- what holds in any case holds at `Ok`
pub on_ok_always : {T E P : Type 0} (r : Result T E) → P → OnOk r P
on_ok_always (Ok value) fact = fact
on_ok_always (Err fault) fact = tt

-- what holds of the fault of an answer
pub at_fault : {T E : Type 0} (P : E → Type 0) (r : Result T E) (fault : E) → r ≡ Err fault → P fault → IfErr r P
at_fault P r fault is fact = subst (λ (x : Result _ _). IfErr x P) (sym is) fact

-- what holds of one fault, where an answer has no other
pub faults_are : {T E : Type 0} (P : E → Type 0) (r : Result T E) (fault : E) → IfErr r (λ f. f ≡ fault) → P fault → IfErr r P
faults_are P (Ok value) fault is fact = tt
faults_are P (Err found) fault is fact = subst P (sym is) fact

-- what a fault of reading shows, where nothing was written
read_cause : (room : ℕ) (inputs : List Told) (now : OutputNow) (fault : RunFault) → IsReadCause room inputs fault → IsCause room inputs now now fault
read_cause room inputs now Memory cause = inl (λ told. refl)
read_cause room inputs now (Callers count) cause = tt
read_cause room inputs now (File host fault) cause = cause
read_cause room inputs now (Asker caller fault) cause = cause
read_cause room inputs now Write cause = absurd cause

unwritten : (now : OutputNow) (fault : RunFault) → IsUnwrittenBefore now now fault
unwritten now Memory = tt
unwritten now (Callers count) = λ told. refl
unwritten now (File host fault) = λ told. refl
unwritten now (Asker caller fault) = λ told. refl
unwritten now Write = tt

-- a run that failed before it wrote
pub failed_unwritten : {I : Type 0} {to_come : I → Option (List ℕ)} {can_fail : I → Bool} {clock : ClockRows} {apart : Apart} {job : Job} {sources : List (Source I)} {now : OutputNow} {fault : RunFault}
    → IsAllowed (length sources + job.askers) fault → IsNamed (length sources) (length sources + job.askers) fault → IsFullList (room_of job) sources fault
    → ((host : ℕ) → fault ≡ File host feed.Read → (s : Source I) → can_fail (slice_index_or sources host s).input ≡ true)
    → ((inputs : List Told) → Tell to_come sources inputs → IsReadCause (room_of job) inputs fault) → IsFailedRun to_come can_fail clock apart job sources now now fault
failed_unwritten {clock = clock} {apart = apart} {job = job} {now = now} {fault = fault} allowed named full read cause = record {
  allowed = allowed;
  named = named;
  full = full;
  read = read;
  unwritten = unwritten now fault;
  told = λ inputs tell. record {
    cause = read_cause (room_of job) inputs now fault (cause inputs tell);
    prefix = λ told. record { front = []; rest = output_told clock apart job inputs; appended = sym (append-nil now.written); whole = refl };
  };
}

-- a run that failed in printing, of files that are good
pub failed_printing : {I : Type 0} {to_come : I → Option (List ℕ)} {can_fail : I → Bool} {clock : ClockRows} {apart : Apart} {job : Job} {sources : List (Source I)} {old new : OutputNow} (fault : RunFault)
    → IsPrintFault fault → ((inputs : List Told) → Tell to_come sources inputs → All (IsGood (room_of job)) inputs × (IsTrue old.tells → AppendsPrefix old.written new.written (output_told clock apart job inputs)))
    → IsFailedRun to_come can_fail clock apart job sources old new fault
failed_printing Memory printing told = record {
  allowed = tt;
  named = tt;
  full = tt;
  read = λ host e. cc;
  unwritten = tt;
  told = λ inputs tell. record { cause = inr (told inputs tell).0; prefix = (told inputs tell).1 };
}
failed_printing Write printing told = record {
  allowed = tt;
  named = tt;
  full = tt;
  read = λ host e. cc;
  unwritten = tt;
  told = λ inputs tell. record { cause = (told inputs tell).0; prefix = (told inputs tell).1 };
}
failed_printing (Callers count) printing told = absurd printing
failed_printing (File host fault) printing told = absurd printing
failed_printing (Asker caller fault) printing told = absurd printing
