-- A call on a legal book leaves a legal book.
use Rattle.std.proofs.Common.{◌≡◌, ◌⊎◌, inl, inr, ℕ, ◌+◌, ◌<◌, ◌≤◌, List, [], ◌∷◌, ◌++◌, length, take, drop, sym, refl, ap, ◌∙◌, subst, arith, length-append}
use Rattle.std.proofs.lemmas.List.{length-map, take-append-le, take_all, drop_at}
use Rattle.std.proofs.lemmas.List.Elements.{All-nil, All-cons, All-push, All-weaker}
use Rattle.std.specs.List.{All}
use Rattle.tally_book.specs.declared.history.Call.{Call}
use Rattle.tally_book.specs.declared.history.Call.TheVariants.{Posted, Asked}
use Rattle.tally_book.specs.declared.history.Counts.{Counts}
use Rattle.tally_answers.specs.declared.question.Question.{Question}
use Rattle.tally_records.specs.Records.{Records, Logins, Procs, logins_in, procs_in, record_count}
use Rattle.tally_records.specs.declared.login.LoginRecord.{LoginRecord}
use Rattle.tally_records.specs.declared.process.ProcRecord.{ProcRecord}
use Rattle.tally_sessions.specs.declared.entry.Entry.{Entry}
use Rattle.tally_sessions.specs.Hosts.{posted_by}
use Rattle.tally_usage.specs.declared.entry.ProcEntry.{ProcEntry}
use Rattle.tally_usage.specs.Summary.{entries_of}
use Rattle.tally_clock.specs.Rows.{ClockRows}
use Rattle.tally_answers.specs.Answers.{answer_of, NamesHostBelow}
use Rattle.tally_book.specs.Books.{IsCall, Chains, IsLegal, before_of, after_of, between, counts_of, counts_with, nothing, posted, asked}
use Rattle.tally_book.specs.Contents.{Contents}
use Rattle.tally_book.specs.Refusals.{HasRoom}

-- what follows a list changes none of its parts
between-append : {X : Type 0} (from to : ℕ) (xs more : List X) → to ≤ length xs → between from to (xs ++ more) ≡ between from to xs
between-append from to xs more within = ap (drop from) (take-append-le to xs more within)

-- the part that was added
between-added : {X : Type 0} (xs more : List X) (n : ℕ) → length more ≡ n → between (length xs) (length xs + n) (xs ++ more) ≡ more
between-added xs more n long =
    ap (drop (length xs)) (take_all (length xs + n) (xs ++ more) (omega (arith, length-append xs more, long))) ∙ drop_at xs more (length xs) refl

call_more : (callers : ℕ) (clock : ClockRows) (logins more : List Entry) (procs others : List ProcEntry) (c : Call) → IsCall callers clock logins procs c → IsCall callers clock (logins ++ more) (procs ++ others) c
call_more callers clock logins more procs others (Posted caller before after) h = record {
  caller_in = h.caller_in;
  logins_grow = h.logins_grow;
  procs_grow = h.procs_grow;
  logins_in = omega (arith, h.logins_in, length-append logins more);
  procs_in = omega (arith, h.procs_in, length-append procs others);
  one_kind = h.one_kind;
  few_logins = h.few_logins;
  few_procs = h.few_procs;
  own_logins = subst (All (λ (e : Entry). e.host ≡ caller)) (sym (between-append before.logins after.logins logins more h.logins_in)) h.own_logins;
  own_procs = subst (All (λ (e : ProcEntry). e.host ≡ caller)) (sym (between-append before.procs after.procs procs others h.procs_in)) h.own_procs;
}
call_more callers clock logins more procs others (Asked caller at question answer) h = record {
  caller_in = h.caller_in;
  logins_in = omega (arith, h.logins_in, length-append logins more);
  procs_in = omega (arith, h.procs_in, length-append procs others);
  host_in = h.host_in;
  defined = h.defined
      ∙ ap (λ (l : List Entry). answer_of clock question l (take at.procs procs)) (sym (take-append-le at.logins logins more h.logins_in))
      ∙ ap (answer_of clock question (take at.logins (logins ++ more))) (sym (take-append-le at.procs procs others h.procs_in));
}

chains_push : (start end : Counts) (cs : List Call) (c : Call) → Chains start cs end → before_of c ≡ end → Chains start (cs ++ c ∷ []) (after_of c)
chains_push start end [] c h e = (e ∙ sym h, refl)
chains_push start end (x ∷ xs) c h e = (h.0, chains_push (after_of x) end xs c h.1 e)

own_logins : (caller : ℕ) (rs : List LoginRecord) → All (λ (e : Entry). e.host ≡ caller) (posted_by caller rs)
own_logins caller [] = All-nil (λ (e : Entry). e.host ≡ caller)
own_logins caller (r ∷ rs) = All-cons (λ (e : Entry). e.host ≡ caller) _ _ refl (own_logins caller rs)

own_procs : (caller : ℕ) (rs : List ProcRecord) → All (λ (e : ProcEntry). e.host ≡ caller) (entries_of caller rs)
own_procs caller [] = All-nil (λ (e : ProcEntry). e.host ≡ caller)
own_procs caller (r ∷ rs) = All-cons (λ (e : ProcEntry). e.host ≡ caller) _ _ refl (own_procs caller rs)

few_logins : (batch : Records) → record_count batch ≤ 1024 → length (logins_in batch) ≤ 1024
few_logins (Logins rs) few = few
few_logins (Procs rs) few = omega arith

few_procs : (batch : Records) → record_count batch ≤ 1024 → length (procs_in batch) ≤ 1024
few_procs (Logins rs) few = omega arith
few_procs (Procs rs) few = few

one_kind : (n m : ℕ) (batch : Records) → (n + length (logins_in batch) ≡ n) ⊎ (m + length (procs_in batch) ≡ m)
one_kind n m (Logins rs) = inr (omega arith)
one_kind n m (Procs rs) = inl (omega arith)

pub posted_legal : (b : Contents) (caller : ℕ) (batch : Records) → IsLegal b → caller < b.callers → length b.calls < 65536 → HasRoom b.room (counts_of b) batch → record_count batch ≤ 1024 → IsLegal (posted b caller batch)
posted_legal b caller batch legal near room fits few =
    let n : ℕ = length b.logins in
    let m : ℕ = length b.procs in
    let more : List Entry = posted_by caller (logins_in batch) in
    let others : List ProcEntry = entries_of caller (procs_in batch) in
    let logins : length more ≡ length (logins_in batch) = length-map (logins_in batch) _ in
    let procs : length others ≡ length (procs_in batch) = length-map (procs_in batch) _ in
    let long : length (b.logins ++ more) ≡ n + length (logins_in batch) = length-append b.logins more ∙ ap (λ (k : ℕ). n + k) logins in
    let longer : length (b.procs ++ others) ≡ m + length (procs_in batch) = length-append b.procs others ∙ ap (λ (k : ℕ). m + k) procs in
    let c : Call = Posted caller (counts_of b) (counts_with b batch) in
    let ends : counts_with b batch ≡ counts_of (posted b caller batch) = λ i. record { logins = sym long i; procs = sym longer i } in
    record {
      some_callers = legal.some_callers;
      few_callers = legal.few_callers;
      few_calls = omega (arith, length-append b.calls (c ∷ []));
      room = legal.room;
      few_logins = omega (arith, long, fits.logins);
      few_procs = omega (arith, longer, fits.procs);
      chained = subst (Chains nothing (b.calls ++ c ∷ [])) ends (chains_push nothing (counts_of b) b.calls c legal.chained refl);
      sound = All-push (IsCall b.callers b.clock (b.logins ++ more) (b.procs ++ others)) b.calls c
          (All-weaker (IsCall b.callers b.clock b.logins b.procs) (IsCall b.callers b.clock (b.logins ++ more) (b.procs ++ others)) (λ x h. call_more b.callers b.clock b.logins more b.procs others x h) b.calls legal.sound)
          (record {
            caller_in = near;
            logins_grow = omega arith;
            procs_grow = omega arith;
            logins_in = omega (arith, long);
            procs_in = omega (arith, longer);
            one_kind = one_kind n m batch;
            few_logins = omega (arith, few_logins batch few);
            few_procs = omega (arith, few_procs batch few);
            own_logins = subst (All (λ (e : Entry). e.host ≡ caller)) (sym (between-added b.logins more (length (logins_in batch)) logins)) (own_logins caller (logins_in batch));
            own_procs = subst (All (λ (e : ProcEntry). e.host ≡ caller)) (sym (between-added b.procs others (length (procs_in batch)) procs)) (own_procs caller (procs_in batch));
          });
    }

pub asked_legal : (b : Contents) (caller : ℕ) (question : Question) → IsLegal b → caller < b.callers → length b.calls < 65536 → NamesHostBelow b.callers question → IsLegal (asked b caller question)
asked_legal b caller question legal near room host =
    let c : Call = Asked caller (counts_of b) question (answer_of b.clock question b.logins b.procs) in
    let all : take (length b.logins) b.logins ≡ b.logins = take_all (length b.logins) b.logins (omega arith) in
    let every : take (length b.procs) b.procs ≡ b.procs = take_all (length b.procs) b.procs (omega arith) in
    record {
      some_callers = legal.some_callers;
      few_callers = legal.few_callers;
      few_calls = omega (arith, length-append b.calls (c ∷ []));
      room = legal.room;
      few_logins = legal.few_logins;
      few_procs = legal.few_procs;
      chained = chains_push nothing (counts_of b) b.calls c legal.chained refl;
      sound = All-push (IsCall b.callers b.clock b.logins b.procs) b.calls c legal.sound (record {
        caller_in = near;
        logins_in = omega arith;
        procs_in = omega arith;
        host_in = host;
        defined = ap (λ (l : List Entry). answer_of b.clock question l b.procs) (sym all) ∙ ap (answer_of b.clock question (take (length b.logins) b.logins)) (sym every);
      });
    }
