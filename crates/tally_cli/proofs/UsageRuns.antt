-- A run that counts, and what its faults show.
use Rattle.std.proofs.Common.{◌≡◌, ℕ, ◌+◌, Bool, true, IsTrue, List, [], Option, Result, Err, inl, inr, length, refl, sym, subst, ap, ◌∙◌, append-nil}
use Rattle.std.specs.Prelude.{slice_index_or}
use Rattle.std.specs.List.{All}
use Rattle.tally_clock.specs.Rows.{ClockRows}
use Rattle.tally_desk.specs.declared.fault.CountFault.TheVariants as count
use Rattle.tally_print.specs.Output.{AppendsPrefix, OutputNow, Prints, failed_calls}
use Rattle.tally_print.specs.declared.output.PrintFault.{PrintFault}
use Rattle.tally_print.specs.declared.output.PrintFault.TheVariants as print
use Rattle.tally_line.specs.declared.job.Job.{Job}
use Rattle.tally_usage.specs.declared.choice.ProcChoice.{ProcChoice}
use Rattle.tally_cli.specs.UsageOutput.{Wanted, usage_printed}
use Rattle.tally_cli.specs.declared.running.source.Source.{Source}
use Rattle.tally_cli.specs.Runs.{Tell, Told}
use Rattle.tally_cli.specs.Usages.{IsCountable, IsFailedUsage, IsNamedFile, IsRefusalAllowed, IsUnwrittenYet, IsUsageCause, unwritten_calls, usage_fault_from}
use Rattle.tally_cli.specs.declared.fault.UsageFault.{UsageFault}
use Rattle.tally_cli.specs.declared.fault.UsageFault.TheVariants.{Callers, File, Full, Memory, Write}
use Rattle.tally_cli.specs.inside.Counts.{IsCountCause, IsCountRefusal, IsPrinting}

same_calls : (e : PrintFault) → failed_calls (Err e) ≡ unwritten_calls (Err (usage_fault_from e))
same_calls print.Memory = refl
same_calls print.Write = refl

-- what a printer wrote, by the fault that its failure is of a run
pub prints_from : {old new : OutputNow} {text : List ℕ} (e : PrintFault) (r : Result (Unit {0}) UsageFault) → r ≡ Err (usage_fault_from e) → Prints old new (Err e) (failed_calls (Err e)) text → Prints old new r (unwritten_calls r) text
prints_from {old} {new} {text} e r is printed = subst (λ (x : Result (Unit {0}) UsageFault). Prints old new x (unwritten_calls x) text) (sym is) (record {
  prefix = printed.prefix;
  ok = tt;
  counts = printed.counts ∙ ap (λ n. old.failures + n) (same_calls e);
  tells = printed.tells;
})

-- what a fault of the counting shows, where nothing was written
cause_of : (choice : ProcChoice) (inputs : List Told) (now : OutputNow) (found : UsageFault) → IsCountCause choice inputs found → IsUsageCause choice inputs now now found
cause_of choice inputs now Memory cause = inl (λ told. refl)
cause_of choice inputs now (Callers callers) cause = tt
cause_of choice inputs now (File host found) cause = cause
cause_of choice inputs now (Full host) cause = cause
cause_of choice inputs now Write cause = absurd cause

unwritten : (now : OutputNow) (found : UsageFault) → IsUnwrittenYet now now found
unwritten now Memory = tt
unwritten now (Callers callers) = λ told. refl
unwritten now (File host found) = λ told. refl
unwritten now (Full host) = λ told. refl
unwritten now Write = tt

-- a run that failed before it wrote
pub failed_counting : {I : Type 0} {to_come : I → Option (List ℕ)} {can_fail : I → Bool} {clock : ClockRows} {job : Job} {wanted : Wanted} {sources : List (Source I)} {now : OutputNow} {found : UsageFault}
    → IsRefusalAllowed (length sources + job.askers) found → IsNamedFile (length sources) found
    → ((host : ℕ) → found ≡ File host count.Read → (s : Source I) → can_fail (slice_index_or sources host s).input ≡ true)
    → ((inputs : List Told) → Tell to_come sources inputs → IsCountCause wanted.choice inputs found) → IsFailedUsage to_come can_fail clock job wanted sources now now found
failed_counting {clock = clock} {job = job} {wanted = wanted} {now = now} {found = found} allowed named read cause = record {
  allowed = allowed;
  named = named;
  read = read;
  unwritten = unwritten now found;
  told = λ inputs tell. record {
    cause = cause_of wanted.choice inputs now found (cause inputs tell);
    prefix = λ told. record { front = []; rest = usage_printed clock job wanted inputs; appended = sym (append-nil now.written); whole = refl };
  };
}

-- a run that failed in printing, of files that are good
pub failed_showing : {I : Type 0} {to_come : I → Option (List ℕ)} {can_fail : I → Bool} {clock : ClockRows} {job : Job} {wanted : Wanted} {sources : List (Source I)} {old new : OutputNow} (found : UsageFault)
    → IsPrinting found → ((inputs : List Told) → Tell to_come sources inputs → All IsCountable inputs × (IsTrue old.tells → AppendsPrefix old.written new.written (usage_printed clock job wanted inputs)))
    → IsFailedUsage to_come can_fail clock job wanted sources old new found
failed_showing Memory printing told = record {
  allowed = tt;
  named = tt;
  read = λ host e. cc;
  unwritten = tt;
  told = λ inputs tell. record { cause = inr (told inputs tell).0; prefix = (told inputs tell).1 };
}
failed_showing Write printing told = record {
  allowed = tt;
  named = tt;
  read = λ host e. cc;
  unwritten = tt;
  told = λ inputs tell. record { cause = (told inputs tell).0; prefix = (told inputs tell).1 };
}
failed_showing (Callers callers) printing told = absurd printing
failed_showing (File host found) printing told = absurd printing
failed_showing (Full host) printing told = absurd printing

-- ---- what a refusal shows of a run

module _ {I : Type 0} (can_fail : I → Bool) (sources : List (Source I)) where
  pub allowed_of : (n : ℕ) (found : UsageFault) → IsCountRefusal can_fail sources found → IsRefusalAllowed n found
  allowed_of n Memory refusal = tt
  allowed_of n (Callers callers) refusal = absurd refusal
  allowed_of n (File host found) refusal = tt
  allowed_of n (Full host) refusal = tt
  allowed_of n Write refusal = absurd refusal

  pub named_of : (found : UsageFault) → IsCountRefusal can_fail sources found → IsNamedFile (length sources) found
  named_of Memory refusal = tt
  named_of (Callers callers) refusal = absurd refusal
  named_of (File host found) refusal = refusal.0
  named_of (Full host) refusal = refusal
  named_of Write refusal = absurd refusal

  pub read_of : (found : UsageFault) → IsCountRefusal can_fail sources found → (host : ℕ) → found ≡ File host count.Read → (s : Source I) → can_fail (slice_index_or sources host s).input ≡ true
  read_of found refusal host is s = (subst (IsCountRefusal can_fail sources) is refusal).1 refl s
