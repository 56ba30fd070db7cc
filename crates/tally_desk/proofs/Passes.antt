-- What a call on the book makes of the caller's pass.
use Rattle.std.proofs.Common.{◌≡◌, ℕ, ◌+◌, ◌≤◌, List, [], ◌∷◌, ◌++◌, length, sym, refl, ap, ◌∙◌, subst, arith, le_refl, length-append, Result, Ok, Err, IfOk, IfErr, OnErr, MatchResult}
use Rattle.std.proofs.lemmas.List.{length-map, take_at}
use Rattle.atomic_table.specs.Seated.{TableId}
use Rattle.tally_book.specs.declared.fault.AskFault.{AskFault}
use Rattle.tally_book.specs.declared.fault.PostFault.{PostFault}
use Rattle.tally_book.specs.declared.history.Call.{Call}
use Rattle.tally_book.specs.declared.history.Call.TheVariants.{Posted, Asked}
use Rattle.tally_book.specs.declared.history.Counts.{Counts}
use Rattle.tally_book.specs.declared.history.Receipt.{Receipt}
use Rattle.tally_book.specs.declared.history.Served.{Served}
use Rattle.tally_answers.specs.declared.question.Question.{Question}
use Rattle.tally_answers.specs.Answers.{answer_of}
use Rattle.tally_book.specs.Books.{IsLegal, IsReceipt, IsServed, caller_of, calls_of, counts_of, counts_with, posted, asked}
use Rattle.tally_book.specs.Contents.{Contents}
use Rattle.tally_book.specs.Deeds.{Deed, Post, Ask, deed}
use Rattle.tally_book.specs.Refusals.{IsAskRefusal, IsPostRefusal}
use Rattle.tally_records.specs.Records.{Records, logins_in, procs_in}
use Rattle.tally_sessions.specs.Hosts.{posted_by}
use Rattle.tally_usage.specs.Summary.{entries_of}
use Rattle.tally_desk.specs.declared.lock.view.Known.{Known}
use Rattle.tally_desk.specs.inside.Knowledge.{IsSound}
use Rattle.tally_desk.specs.Passes.{PassState, pass_of, deeds, IsAnswered, IsCurrent, Keeps, Stores, Sat}
use Rattle.tally_desk.specs.inside.Seats.{IsNext, idle}
use Rattle.tally_desk.specs.Callers.{Follows, Fits}
use Rattle.tally_desk.specs.inside.Views.{knowing, told_of}
use Rattle.tally_desk.proofs.Done.{done_more, done_same, done_post}
use Rattle.tally_desk.proofs.Histories.{asked_next, calls_of_own, follows_next, follows_trans, posted_next}

-- what a call shows of the pass before and after it: its answer is this `call` at this `place`, and `Says` and `Why` are of the book that is then seen
pub record CallTells {T E : Type 0} (call : T → Call) (place : T → ℕ) (done : Deed) (Says : T → Contents → Type 0) (Why : E → Contents → Type 0) (result : Result T E) (old new : PassState) : Type 0 where
  pub keeps : Keeps old new
  pub legal : IsLegal new.seen
  pub current : IsCurrent new
  pub answered : IfOk result (λ r. IsAnswered old (call r) (place r) new)
  pub says : IfOk result (λ r. Says r new.seen)
  pub refused : OnErr result (new.mine ≡ old.mine)
  pub cause : IfErr result (λ e. Why e new.seen)
  pub did : MatchResult result (λ _. deeds new ≡ deeds old ++ done ∷ []) (λ _. deeds new ≡ deeds old)

-- what a post shows
abbrev pub PostTells : Records → Result Receipt PostFault → PassState → PassState → Type 0
PostTells batch result old new = CallTells (λ (r : Receipt). Posted old.number r.before r.after) (λ (r : Receipt). r.call) (Post (logins_in batch) (procs_in batch))
    (λ (r : Receipt) seen. Stores old.number r.before batch seen × (r.after ≡ counts_of seen)) (λ (e : PostFault) seen. IsPostRefusal seen.room (counts_of seen) (length seen.calls) batch e) result old new

-- what a report shows
abbrev pub AskTells : Question → Result Served AskFault → PassState → PassState → Type 0
AskTells question result old new = CallTells (λ (r : Served). Asked old.number r.at question r.answer) (λ (r : Served). r.call) (Ask question)
    (λ (r : Served) seen. (r.at ≡ counts_of seen) × (r.answer ≡ answer_of seen.clock question seen.logins seen.procs)) (λ (e : AskFault) seen. IsAskRefusal seen.callers (length seen.calls) question e) result old new

module _ {T E : Type 0} (P Q : T → Type 0) where
  pub ok_first : (result : Result T E) → IfOk result (λ r. P r × Q r) → IfOk result P
  ok_first (Ok r) h = h.0
  ok_first (Err e) h = tt

  pub ok_second : (result : Result T E) → IfOk result (λ r. P r × Q r) → IfOk result Q
  ok_second (Ok r) h = h.1
  ok_second (Err e) h = tt

pub both : (P : PassState → PassState → Type 0) (p p' q q' : PassState) → p ≡ p' → q ≡ q' → P p' q' → P p q
both P p p' q q' e d h = subst (λ (x : PassState × PassState). P x.0 x.1) (λ i. (sym e i, sym d i)) h

knowing_sound : (after : Contents) (k : Known) → IsSound k → Follows k.seen after → IsLegal after → IsSound (knowing after k)
knowing_sound after k sound more legal = record { legal = legal; near = omega (arith, sound.near, more.callers); own = refl; told = le_refl (length after.calls) }

pub told_sound : (k : Known) (calls : ℕ) → k.told ≤ calls → IsSound k → IsSound (told_of calls k)
told_sound k calls more sound = record { legal = sound.legal; near = sound.near; own = sound.own; told = omega (arith, sound.told) }

-- the book has one more call
longer : (before after : List Call) (call : Call) → after ≡ before ++ call ∷ [] → length after ≡ length before + 1
longer before after call made = ap length made ∙ length-append before (call ∷ [])

answered : (id : TableId) (k : Known) (book after : Contents) (call : Call) (place : ℕ) → Fits book k → after.calls ≡ book.calls ++ call ∷ [] → caller_of call ≡ k.number → place ≡ length after.calls
    → IsAnswered (pass_of id k) call place (pass_of id (knowing after k))
answered id k book after call place fit made by is = record {
  last = (book.calls, made);
  counted = is;
  above = omega (arith, fit.told, is, longer book.calls after.calls call made);
  told = sym is;
  mine = ap (calls_of k.number) made ∙ (calls_of_own k.number book.calls call by ∙ ap (λ cs. cs ++ call ∷ []) fit.own);
}

grown : (id : TableId) (k : Known) (book after : Contents) → Fits book k → Follows book after → length book.calls ≤ length after.calls → IsLegal after → Keeps (pass_of id k) (pass_of id (knowing after k))
grown id k book after fit more longer' legal = record {
  desk = refl;
  number = refl;
  seen = follows_trans k.seen book after fit.seen more;
  legal = λ _. legal;
  told = omega (arith, fit.told);
}

module _ (id : TableId) (k : Known) (sound : IsSound k) (book : Contents) (fit : Fits book k) where
  module _ {T E : Type 0} (call : T → Call) (place : T → ℕ) (done : Deed) (Says : T → Contents → Type 0) (Why : E → Contents → Type 0) (after : Contents) (Answer : T → Type 0)
      (next : IsLegal after → IsNext k.number book after)
      (shown : (r : T) → Answer r → (after.calls ≡ book.calls ++ call r ∷ []) × (caller_of (call r) ≡ k.number) × (place r ≡ length after.calls) × Says r after × (deed after.logins after.procs (call r) ≡ done)) where
    called : (m : Sat) (result : Result T E) → IsLegal book
        → MatchResult result (λ r. (m ≡ idle (knowing after k)) × IsLegal after × Answer r) (λ e. (m ≡ idle (knowing book k)) × Why e book)
        → (k' : Known) × (m ≡ idle k') × (k.number ≡ k'.number) × IsSound k' × CallTells call place done Says Why result (pass_of id k) (pass_of id k')
    called m (Ok r) legal h =
        let more : Follows book after = follows_next k.number book after (next h.1) in
        let seen : Follows k.seen after = follows_trans k.seen book after fit.seen more in
        let s = shown r h.2 in (
          knowing after k,
          h.0,
          refl,
          knowing_sound after k sound seen h.1,
          record {
            keeps = grown id k book after fit more (omega (arith, longer book.calls after.calls _ s.0)) h.1;
            legal = h.1;
            current = record { told = refl; own = refl };
            answered = answered id k book after (call r) (place r) fit s.0 s.1 s.2;
            says = s.3;
            refused = tt;
            cause = tt;
            did = done_more k book after (call r) done sound fit seen s.0 s.1 s.4;
          },
        )
    called m (Err e) legal h = (
      knowing book k,
      h.0,
      refl,
      knowing_sound book k sound fit.seen legal,
      record {
        keeps = record { desk = refl; number = refl; seen = fit.seen; legal = λ _. legal; told = fit.told };
        legal = legal;
        current = record { told = refl; own = refl };
        answered = tt;
        says = tt;
        refused = fit.own;
        cause = h.1;
        did = done_same k book sound fit;
      },
    )

  posted_shows : (batch : Records) (r : Receipt) → IsReceipt book (posted book k.number batch) r → (book.calls ++ Posted k.number (counts_of book) (counts_with book batch) ∷ [] ≡ book.calls ++ Posted k.number r.before r.after ∷ [])
      × (k.number ≡ k.number) × (r.call ≡ length (posted book k.number batch).calls) × (Stores k.number r.before batch (posted book k.number batch) × (r.after ≡ counts_of (posted book k.number batch)))
      × (deed (posted book k.number batch).logins (posted book k.number batch).procs (Posted k.number r.before r.after) ≡ Post (logins_in batch) (procs_in batch))
  posted_shows batch r receipt =
      let logins : length (book.logins ++ posted_by k.number (logins_in batch)) ≡ length book.logins + length (logins_in batch) = length-append book.logins (posted_by k.number (logins_in batch)) ∙ ap (λ n. length book.logins + n) (length-map (logins_in batch) _) in
      let procs : length (book.procs ++ entries_of k.number (procs_in batch)) ≡ length book.procs + length (procs_in batch) = length-append book.procs (entries_of k.number (procs_in batch)) ∙ ap (λ n. length book.procs + n) (length-map (procs_in batch) _) in
      let counts : counts_with book batch ≡ counts_of (posted book k.number batch) = λ i. record { logins = sym logins i; procs = sym procs i } in
      let ends : counts_with book batch ≡ r.after = counts ∙ sym receipt.after in (
        (λ i. book.calls ++ Posted k.number (sym receipt.before i) (ends i) ∷ []),
        refl,
        receipt.call,
        (
          record {
            logins = λ i. sym (take_at book.logins (posted_by k.number (logins_in batch)) r.before.logins (ap (λ (n : Counts). n.logins) (sym receipt.before))) i ++ posted_by k.number (logins_in batch);
            procs = λ i. sym (take_at book.procs (entries_of k.number (procs_in batch)) r.before.procs (ap (λ (n : Counts). n.procs) (sym receipt.before))) i ++ entries_of k.number (procs_in batch);
          },
          receipt.after,
        ),
        done_post book k.number k.number batch r.before r.after receipt.before receipt.after,
      )

  pub posted_pass : (batch : Records) (m : Sat) (result : Result Receipt PostFault) → IsLegal book
      → MatchResult result (λ r. (m ≡ idle (knowing (posted book k.number batch) k)) × IsLegal (posted book k.number batch) × IsReceipt book (posted book k.number batch) r) (λ e. (m ≡ idle (knowing book k)) × IsPostRefusal book.room (counts_of book) (length book.calls) batch e)
      → (k' : Known) × (m ≡ idle k') × (k.number ≡ k'.number) × IsSound k' × PostTells batch result (pass_of id k) (pass_of id k')
  posted_pass batch = called (λ (r : Receipt). Posted k.number r.before r.after) (λ (r : Receipt). r.call) (Post (logins_in batch) (procs_in batch))
      (λ (r : Receipt) seen. Stores k.number r.before batch seen × (r.after ≡ counts_of seen)) (λ (e : PostFault) seen. IsPostRefusal seen.room (counts_of seen) (length seen.calls) batch e)
      (posted book k.number batch) (IsReceipt book (posted book k.number batch)) (posted_next book k.number k.number batch refl) (posted_shows batch)

  pub asked_pass : (question : Question) (m : Sat) (result : Result Served AskFault) → IsLegal book
      → MatchResult result (λ r. (m ≡ idle (knowing (asked book k.number question) k)) × IsLegal (asked book k.number question) × IsServed book (asked book k.number question) question r) (λ e. (m ≡ idle (knowing book k)) × IsAskRefusal book.callers (length book.calls) question e)
      → (k' : Known) × (m ≡ idle k') × (k.number ≡ k'.number) × IsSound k' × AskTells question result (pass_of id k) (pass_of id k')
  asked_pass question = called (λ (r : Served). Asked k.number r.at question r.answer) (λ (r : Served). r.call) (Ask question)
      (λ (r : Served) seen. (r.at ≡ counts_of seen) × (r.answer ≡ answer_of seen.clock question seen.logins seen.procs)) (λ (e : AskFault) seen. IsAskRefusal seen.callers (length seen.calls) question e)
      (asked book k.number question) (IsServed book (asked book k.number question) question) (asked_next book k.number k.number question refl)
      (λ r served. ((λ i. book.calls ++ Asked k.number (sym served.at i) question (sym served.answer i) ∷ []), refl, served.call, (served.at, served.answer), refl))
