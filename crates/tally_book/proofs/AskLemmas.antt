-- What a refused question leaves of a book, and why it was refused.
use Rattle.std.proofs.Common.{◌≡◌, ◌∙◌, ◌<◌, ◌≤◌, ℕ, length, vec_len, ap, sym, subst, arith}
use Rattle.tally_book.specs.declared.book.Book.TheInside.{Inside}
use Rattle.tally_book.specs.declared.fault.AskFault.{AskFault}
use Rattle.tally_book.specs.declared.fault.AskFault.TheVariants as ask
use Rattle.tally_answers.specs.declared.question.Question.{Question}
use Rattle.tally_answers.specs.Answers.{NamesHostBelow}
use Rattle.tally_book.specs.Books.{IsLegal}
use Rattle.tally_book.specs.Contents.{Contents}
use Rattle.tally_book.specs.Refusals.{IsAskRefusal}
use Rattle.tally_book.specs.inside.Kept.{IsSound, contents_of}
use Rattle.tally_book.specs.inside.Refusals.{IsNoSuchHost}

-- fields that hold the same
pub same_contents : (a b : Inside) → b.callers ≡ a.callers → b.clock ≡ a.clock → b.room ≡ a.room → b.logins.entries ≡ a.logins.entries → b.summary.entries ≡ a.summary.entries → b.calls.items ≡ a.calls.items
    → contents_of b ≡ contents_of a
same_contents a b callers clock room logins procs calls = λ i. record { callers = callers i; clock = clock i; room = room i; logins = logins i; procs = procs i; calls = calls i }

pub still_sound : (a b : Inside) → IsSound a → b.logins.hosts ≡ a.logins.hosts → contents_of b ≡ contents_of a → IsSound b
still_sound a b sound hosts same = record {
  hosts = hosts ∙ sound.hosts ∙ sym (ap (λ (s : Contents). s.callers) same);
  legal = subst IsLegal (sym same) sound.legal;
}

module _ (a : Inside) (b : Contents) (view : contents_of a ≡ b) (n : ℕ) (count : n ≡ vec_len a.calls) where
  -- the history had no room
  pub calls_full : IsSound a → 65536 ≤ n → length b.calls ≡ 65536
  calls_full sound full = omega (arith, count, a.calls.ok.0, sound.legal.few_calls, ap (λ (s : Contents). length s.calls) view)

  -- it had
  pub calls_left : n < 65536 → length b.calls < 65536
  calls_left room = omega (arith, count, a.calls.ok.0, ap (λ (s : Contents). length s.calls) view)

  pub no_such_host : (question : Question) (fault : AskFault) → n < 65536 → IsNoSuchHost a.callers question fault → IsAskRefusal b.callers (length b.calls) question fault
  no_such_host question ask.CallsFull room none = absurd none
  no_such_host question (ask.NoSuchHost host) room none = (calls_left room, subst (λ (k : ℕ). k ≤ host) (ap (λ (s : Contents). s.callers) view) none.0, none.1)
  no_such_host question ask.Memory room none = absurd none

  pub memory_refused : (question : Question) → n < 65536 → NamesHostBelow a.callers question → IsAskRefusal b.callers (length b.calls) question ask.Memory
  memory_refused question room host = (calls_left room, subst (λ (k : ℕ). NamesHostBelow k question) (ap (λ (s : Contents). s.callers) view) host)
