-- A run has few calls, so that no call is refused for their number.
use Rattle.std.proofs.Common.{◌≡◌, ℕ, zero, suc, ◌+◌, ◌*◌, ◌<◌, ◌≤◌, List, ◌∷◌, ◌++◌, length, get_or, sym, refl, ap, ◌∙◌, subst, arith, length-append}
use Rattle.std.proofs.lemmas.List.{get_or_at, length-map}
use Rattle.std.proofs.lemmas.List.Elements.{All-append, All-nil}
use mathlib.Core.List.{IsPrefix}
use Rattle.std.specs.List.{All}
use Rattle.tally_book.specs.declared.fault.AskFault.{AskFault}
use Rattle.tally_book.specs.declared.fault.AskFault.TheVariants as ask
use Rattle.tally_answers.specs.declared.question.Question.{Question}
use Rattle.tally_book.specs.Refusals.{IsAskRefusal}
use Rattle.tally_answers.specs.Answers.{NamesHost}
use Rattle.tally_book.specs.Books.{IsLegal, caller_of, calls_of}
use Rattle.tally_book.specs.Contents.{Contents}
use Rattle.tally_book.specs.Deeds.{EntriesArePosts, deed, deeds_of}
use Rattle.tally_desk.specs.Batches.{stored_kind}
use Rattle.tally_desk.specs.Feeds.{IsFeedRefusal}
use Rattle.tally_desk.specs.Passes.{PassState, Stands}
use Rattle.tally_desk.specs.Rounds.{AskStops, in_rounds}
use Rattle.tally_desk.specs.declared.fault.FeedFault.{FeedFault}
use Rattle.tally_desk.specs.declared.fault.FeedFault.TheVariants as feed
use Rattle.tally_records.specs.declared.batch.Kind.{Kind}
use Rattle.tally_cli.specs.declared.fault.RunFault.TheVariants as run
use Rattle.tally_records.specs.Records.{Records, Logins, Procs, logins_in, procs_in, record_count}
use Rattle.tally_cli.specs.declared.running.source.Source.{Source}
use Rattle.tally_cli.specs.declared.running.task.Asking.{Asking}
use Rattle.tally_cli.specs.Reading.{asked_once}
use Rattle.tally_cli.specs.Runs.{IsAllowed, IsFullList}
use Rattle.tally_cli.specs.inside.Tasks.{asker_questions}
use Rattle.tally_sessions.specs.declared.entry.Entry.{Entry}
use Rattle.tally_usage.specs.declared.entry.ProcEntry.{ProcEntry}
use Rattle.tally_cli.proofs.Calls.{AreFew}
use Rattle.tally_cli.proofs.Counting.{few_together, of_key, shares, shares_at_most}

-- deeds of each caller are few
pub few_calls : (b : Contents) → IsLegal b → EntriesArePosts b → All (λ c. caller_of c < b.callers) b.calls → ((host : ℕ) → host < b.callers → AreFew (deeds_of host b)) → length b.calls ≤ 34944
few_calls b legal posts callers few =
    let calls : ℕ → ℕ = of_key caller_of b.calls in
    let logins : ℕ → ℕ = of_key (λ (e : Entry). e.host) b.logins in
    let procs : ℕ → ℕ = of_key (λ (e : ProcEntry). e.host) b.procs in
    let each : (h : ℕ) → h < b.callers → 1024 * calls h ≤ logins h + procs h + 17408 =
    λ h l. omega (
      arith,
      few h l,
      length-map (calls_of h b.calls) (deed b.logins b.procs),
      sym (ap length (posts.logins h)) ∙ length-map _ (λ (e : Entry). e.item),
      sym (ap length (posts.procs h)) ∙ length-map _ (λ (e : ProcEntry). e.item),
    ) in
    omega (
      arith,
      few_together calls logins procs b.callers each,
      shares caller_of b.calls b.callers callers,
      shares_at_most (λ (e : Entry). e.host) b.logins b.callers,
      shares_at_most (λ (e : ProcEntry). e.host) b.procs b.callers,
      legal.few_callers,
      legal.few_logins,
      legal.few_procs,
      legal.room.few,
    )

pub prefix_length : {A : Type 0} (xs ys : List A) → IsPrefix xs ys → length xs ≤ length ys
prefix_length xs ys h = omega (arith, length-append xs h.0, ap length h.1)

-- what a pass has seen of the book has no more calls
pub few_seen : (b : Contents) (p : PassState) → length b.calls ≤ 34944 → Stands b p → length p.seen.calls ≤ 34944
few_seen b p few stands = omega (arith, few, prefix_length p.seen.calls b.calls stands.seen.calls)

pub feed_allowed : (n host : ℕ) (kind : Kind) (seen : Contents) (fault : FeedFault) → IsFeedRefusal kind seen fault → length seen.calls ≤ 34944 → IsAllowed n (run.File host fault)
feed_allowed n host kind seen feed.Memory h few = tt
feed_allowed n host kind seen feed.Read h few = tt
feed_allowed n host kind seen (feed.Torn records rest) h few = tt
feed_allowed n host kind seen (feed.TooLong limit) h few = tt
feed_allowed n host kind seen (feed.Bad at fault) h few = tt
feed_allowed n host kind seen (feed.LoginsFull stored) h few = tt
feed_allowed n host kind seen (feed.ProcsFull stored) h few = tt
feed_allowed n host kind seen feed.CallsFull h few = let full = h.cause.1 in omega (arith, full, few)

-- no feed was refused for the number of calls
pub not_full : (kind : Kind) (seen : Contents) (fault : FeedFault) → IsFeedRefusal kind seen fault → length seen.calls ≤ 34944 → fault ≡ feed.CallsFull → ⊥
not_full kind seen fault h few e = let full = (subst (IsFeedRefusal kind seen) e h).cause.1 in omega (arith, full, few)

few_logins : (batch : Records) → record_count batch ≤ 1024 → length (logins_in batch) ≤ 1024
few_logins (Logins records) few = few
few_logins (Procs records) few = omega arith

few_procs : (batch : Records) → record_count batch ≤ 1024 → length (procs_in batch) ≤ 1024
few_procs (Logins records) few = omega arith
few_procs (Procs records) few = few

-- a full list is that in which the source's records are stored
pub feed_full : {I : Type 0} (room : ℕ) (sources : List (Source I)) (host : ℕ) (source : Source I) → ((s : Source I) → get_or sources host s ≡ source) → (seen : Contents) (fault : FeedFault)
    → IsFeedRefusal source.kind seen fault → seen.room ≡ room → length seen.logins ≤ room → length seen.procs ≤ room → IsFullList room sources (run.File host fault)
feed_full room sources host source is seen feed.Memory h same logins procs = tt
feed_full room sources host source is seen feed.Read h same logins procs = tt
feed_full room sources host source is seen (feed.Torn records rest) h same logins procs = tt
feed_full room sources host source is seen (feed.TooLong limit) h same logins procs = tt
feed_full room sources host source is seen (feed.Bad at fault) h same logins procs = tt
feed_full room sources host source is seen (feed.LoginsFull stored) h same logins procs =
    let full = h.1 in ((omega (arith, full.cause.0, logins), omega (arith, full.cause.0, full.cause.1, same, few_logins full.batch full.few)), λ s. ap (λ (x : Source _). stored_kind x.kind) (is s) ∙ h.0)
feed_full room sources host source is seen (feed.ProcsFull stored) h same logins procs =
    let full = h.1 in ((omega (arith, full.cause.0, procs), omega (arith, full.cause.0, full.cause.1, same, few_procs full.batch full.few)), λ s. ap (λ (x : Source _). x.kind) (is s) ∙ h.0)
feed_full room sources host source is seen feed.CallsFull h same logins procs = tt

-- askers ask of the first host alone
abbrev NamesFirst : Question → Type 0
NamesFirst question = (host : ℕ) → NamesHost question host → host ≡ 0

once_first : (asking : Asking) (k : ℕ) (d : Question) → k < 4 → NamesFirst (get_or (asked_once asking.choice asking.until) k d)
once_first asking zero d l = λ host is. sym is
once_first asking (suc zero) d l = λ host never. absurd never
once_first asking (suc (suc zero)) d l = λ host never. absurd never
once_first asking (suc (suc (suc zero))) d l = λ host never. absurd never
once_first asking (suc (suc (suc (suc k)))) d l = absurd (omega (arith, l))

all_rounds : (P : Question → Type 0) (rounds : ℕ) (asked : List Question) → All P asked → All P (in_rounds rounds asked)
all_rounds P zero asked h = All-nil P
all_rounds P (suc rounds) asked h = All-append P asked (in_rounds rounds asked) h (all_rounds P rounds asked h)

refusal_is : (callers calls : ℕ) (question : Question) (fault : AskFault) → NamesFirst question → IsAskRefusal callers calls question fault → calls ≤ 34944 → 0 < callers → fault ≡ ask.Memory
refusal_is callers calls question ask.Memory first h few some_callers = refl
refusal_is callers calls question ask.CallsFull first h few some_callers = absurd (omega (arith, h, few))
refusal_is callers calls question (ask.NoSuchHost host) first h few some_callers = absurd (omega (arith, h.1, first host h.2, some_callers))

pub ask_allowed : (asking : Asking) (old new : PassState) (fault : AskFault) → AskStops (asker_questions asking) old new fault → length new.seen.calls ≤ 34944 → 0 < new.seen.callers → fault ≡ ask.Memory
ask_allowed asking old new fault stops few some_callers =
    let near : length stops.done < length (stops.done ++ stops.next ∷ stops.left) = omega (arith, length-append stops.done (stops.next ∷ stops.left)) in
    let all : All NamesFirst (stops.done ++ stops.next ∷ stops.left) = subst (All NamesFirst) stops.order (all_rounds NamesFirst 4 (asked_once asking.choice asking.until) (once_first asking)) in
    let next : NamesFirst stops.next = subst NamesFirst (get_or_at stops.done stops.next stops.left stops.next (length stops.done) refl) (all (length stops.done) stops.next near) in
    refusal_is new.seen.callers (length new.seen.calls) stops.next fault next stops.cause few some_callers
