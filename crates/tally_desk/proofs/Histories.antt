-- Beginnings of a book's lists, and the calls of one caller.
use Rattle.std.proofs.Common.{◌≡◌, ℕ, ◌≢◌, List, [], ◌∷◌, ◌++◌, sym, refl, ap, ◌∙◌, append_assoc, cond, eqb, eq-eqb, ne_eqb}
use Rattle.std.proofs.lemmas.List.{append-nil}
use Rattle.std.proofs.lemmas.List.Elements.{filter-append}
use mathlib.Core.List.{IsPrefix}
use Rattle.tally_book.specs.declared.history.Call.{Call}
use Rattle.tally_book.specs.Contents.{Contents}
use Rattle.tally_book.specs.declared.history.Call.TheVariants.{Posted, Asked}
use Rattle.tally_answers.specs.declared.question.Question.{Question}
use Rattle.tally_answers.specs.Answers.{answer_of}
use Rattle.tally_book.specs.Books.{calls_of, caller_of, counts_of, counts_with, IsLegal, posted, asked}
use Rattle.tally_records.specs.Records.{Records, logins_in, procs_in}
use Rattle.tally_sessions.specs.Hosts.{posted_by}
use Rattle.tally_usage.specs.Summary.{entries_of}
use Rattle.tally_desk.specs.inside.Seats.{IsNext}
use Rattle.tally_desk.specs.Callers.{Follows}

pub prefix_self : {A : Type 0} (xs : List A) → IsPrefix xs xs
prefix_self xs = ([], append-nil xs)

pub prefix_trans : {A : Type 0} (xs ys zs : List A) → IsPrefix xs ys → IsPrefix ys zs → IsPrefix xs zs
prefix_trans xs ys zs p q = (p.0 ++ q.0, sym (append_assoc xs p.0 q.0) ∙ (ap (λ w. w ++ q.0) p.1 ∙ q.1))

pub follows_self : (b : Contents) → Follows b b
follows_self b = record { callers = refl; clock = refl; room = refl; logins = prefix_self b.logins; procs = prefix_self b.procs; calls = prefix_self b.calls }

pub follows_trans : (a b c : Contents) → Follows a b → Follows b c → Follows a c
follows_trans a b c p q = record {
  callers = q.callers ∙ p.callers;
  clock = q.clock ∙ p.clock;
  room = q.room ∙ p.room;
  logins = prefix_trans a.logins b.logins c.logins p.logins q.logins;
  procs = prefix_trans a.procs b.procs c.procs p.procs q.procs;
  calls = prefix_trans a.calls b.calls c.calls p.calls q.calls;
}

-- a book follows itself before one more call
pub follows_next : (number : ℕ) (before after : Contents) → IsNext number before after → Follows before after
follows_next number before after next = record { callers = next.callers; clock = next.clock; room = next.room; logins = next.logins; procs = next.procs; calls = (next.call ∷ [], sym next.made) }

-- one more call, of the caller or of another
pub calls_of_own : (number : ℕ) (calls : List Call) (call : Call) → caller_of call ≡ number → calls_of number (calls ++ call ∷ []) ≡ calls_of number calls ++ call ∷ []
calls_of_own number calls call e =
    filter-append (λ (c : Call). eqb (caller_of c) number) calls (call ∷ []) ∙ ap (λ b. calls_of number calls ++ cond b (call ∷ []) []) (eq-eqb (caller_of call) number e)

pub calls_of_other : (number : ℕ) (calls : List Call) (call : Call) → caller_of call ≢ number → calls_of number (calls ++ call ∷ []) ≡ calls_of number calls
calls_of_other number calls call n =
    filter-append (λ (c : Call). eqb (caller_of c) number) calls (call ∷ []) ∙ (ap (λ b. calls_of number calls ++ cond b (call ∷ []) []) (ne_eqb (caller_of call) number n) ∙ append-nil (calls_of number calls))

-- a post and a report are each one more call
pub posted_next : (b : Contents) (caller number : ℕ) (batch : Records) → caller ≡ number → IsLegal (posted b caller batch) → IsNext number b (posted b caller batch)
posted_next b caller number batch own legal = record {
  call = Posted caller (counts_of b) (counts_with b batch);
  by = own;
  made = refl;
  logins = (posted_by caller (logins_in batch), refl);
  procs = (entries_of caller (procs_in batch), refl);
  callers = refl;
  clock = refl;
  room = refl;
  legal = legal;
}

pub asked_next : (b : Contents) (caller number : ℕ) (question : Question) → caller ≡ number → IsLegal (asked b caller question) → IsNext number b (asked b caller question)
asked_next b caller number question own legal = record {
  call = Asked caller (counts_of b) question (answer_of b.clock question b.logins b.procs);
  by = own;
  made = refl;
  logins = prefix_self b.logins;
  procs = prefix_self b.procs;
  callers = refl;
  clock = refl;
  room = refl;
  legal = legal;
}
