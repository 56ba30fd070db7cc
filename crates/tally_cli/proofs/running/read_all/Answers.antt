use Rattle.std.proofs.Common.{◌≡◌, ◌∙◌, ◌<◌, ℕ, ap, arith, length, map, subst, sym, ⊎_elim}
use Rattle.std.specs.List.{All}
use Rattle.tally_book.specs.Deeds.{Ask}
use Rattle.tally_desk.specs.Passes.{PassState}
use Rattle.tally_cli.proofs.Ended.{all_asked, ended_of, few, good_all, room_at, same_clock, same_hosts}
use Rattle.tally_cli.proofs.Failing.{allowed, can_fail_at, cause_is, full_list, named}
use Rattle.tally_cli.proofs.FirstPasses.{are_first}
use Rattle.tally_cli.proofs.Outcomes.{IsBefore}
use Rattle.tally_cli.specs.Runs.{IsAllowed, IsFullList, IsGood, IsNamed, room_of}
use Rattle.tally_cli.specs.Reading.{IsReadCause}
use Rattle.tally_cli.specs.inside.RunSteps.{run_fault}
use Rattle.tally_cli.specs.inside.Tasks.{asker_questions}
use Rattle.tally_cli.specs.declared.running.task.Asking.{Asking}
use Rattle.tally_cli.proofs.running.read_all.Goals as goal

pub work_through-requires-clause-callers : goal.work_through-requires-clause-callers
work_through-requires-clause-callers g c κs within =
    let opened = c.in_ok-desk.ensures.opened in (opened.0 ∙ sym (are_first _ _ _ opened.1).count, omega (arith, opened.0, c.in_ok-callers.ensures.count, c.in_ok-callers.ensures.few))

pub work_through-requires-clause-desk : goal.work_through-requires-clause-desk
work_through-requires-clause-desk g c κs within = λ k d l. ap (λ (p : PassState). p.desk) ((are_first _ _ _ c.in_ok-desk.ensures.opened.1).each k d l)

pub work_through-requires-clause-numbers : goal.work_through-requires-clause-numbers
work_through-requires-clause-numbers g c κs within = λ k p l. ap (λ (x : PassState). x.number) ((are_first _ _ _ c.in_ok-desk.ensures.opened.1).each k p l)

pub work_through-requires-clause-sources : goal.work_through-requires-clause-sources
work_through-requires-clause-sources g c = omega (arith, (are_first _ _ c.in_ok-desk.passes.items c.in_ok-desk.ensures.opened.1).count, c.in_ok-callers.ensures.count)

pub returns-in-None-clause-whole : goal.returns-in-None-clause-whole
returns-in-None-clause-whole g c = λ inputs tell.
    let opened = c.in_ok-desk.ensures.opened in
    let book = c.in_ok-book.ensures in
    let ended = ended_of c.in_ok-desk.desk.id c.args.clock.now _ _ c.in_ok-desk.passes.items opened.1 (book.callers ∙ opened.0) (omega (arith, c.in_ok-callers.ensures.count)) book.legal (c.entries_are_posts.ensures c.in_ok-book.book book.legal) book.worked in
    let before : (k : ℕ) → IsBefore k c.in_ok-book.failure = λ k. subst (IsBefore k) (sym c.in-None.is) tt in
    let first = are_first _ _ _ opened.1 in
    let near : 0 < length c.in_ok-desk.passes.items = omega (arith, first.count, opened.0, c.in_ok-callers.ensures.count, c.in_ok-callers.ensures.some) in
    let room : c.in_ok-book.book.room ≡ room_of c.args.job.now = room_at ended 0 near ∙ ap (λ (p : PassState). p.seen.room) (first.each 0 _ near) ∙ c.room_for.ensures in
    record {
      good = subst (λ room. All (IsGood room) inputs) room (good_all ended inputs tell before);
      same = same_hosts ended inputs tell before;
      asked = λ asker past within. all_asked ended asker (omega (arith, past, tell.0)) (omega (arith, within, tell.0, book.callers, opened.0, c.in_ok-callers.ensures.count)) (before asker) ∙ ap (λ (a : Asking). map Ask (asker_questions a)) c.beside-asking.ensures;
    }

pub returns-in-None-clause-clock : goal.returns-in-None-clause-clock
returns-in-None-clause-clock g c =
    let opened = c.in_ok-desk.ensures.opened in
    let book = c.in_ok-book.ensures in
    let ended = ended_of c.in_ok-desk.desk.id c.args.clock.now _ _ c.in_ok-desk.passes.items opened.1 (book.callers ∙ opened.0) (omega (arith, c.in_ok-callers.ensures.count)) book.legal (c.entries_are_posts.ensures c.in_ok-book.book book.legal) book.worked in
    let first = are_first _ _ _ opened.1 in
    same_clock ended (omega (arith, book.callers, opened.0, c.in_ok-callers.ensures.count, c.in_ok-callers.ensures.some)) ∙ ap (λ (p : PassState). p.seen.clock) (first.each 0 _ (omega (arith, first.count, opened.0, c.in_ok-callers.ensures.count, c.in_ok-callers.ensures.some)))

pub returns-in-None-clause-room : goal.returns-in-None-clause-room
returns-in-None-clause-room g c =
    let opened = c.in_ok-desk.ensures.opened in
    let book = c.in_ok-book.ensures in
    let ended = ended_of c.in_ok-desk.desk.id c.args.clock.now _ _ c.in_ok-desk.passes.items opened.1 (book.callers ∙ opened.0) (omega (arith, c.in_ok-callers.ensures.count)) book.legal (c.entries_are_posts.ensures c.in_ok-book.book book.legal) book.worked in
    let first = are_first _ _ _ opened.1 in
    let near : 0 < length c.in_ok-desk.passes.items = omega (arith, first.count, opened.0, c.in_ok-callers.ensures.count, c.in_ok-callers.ensures.some) in
    room_at ended 0 near ∙ ap (λ (p : PassState). p.seen.room) (first.each 0 _ near) ∙ c.room_for.ensures

pub returns-in-None-clause-calls : goal.returns-in-None-clause-calls
returns-in-None-clause-calls g c =
    let opened = c.in_ok-desk.ensures.opened in
    let book = c.in_ok-book.ensures in
    few (ended_of c.in_ok-desk.desk.id c.args.clock.now _ _ c.in_ok-desk.passes.items opened.1 (book.callers ∙ opened.0) (omega (arith, c.in_ok-callers.ensures.count)) book.legal (c.entries_are_posts.ensures c.in_ok-book.book book.legal) book.worked)

pub returns-in-Some : goal.returns-in-Some
returns-in-Some g c =
    let opened = c.in_ok-desk.ensures.opened in
    let book = c.in_ok-book.ensures in
    let passes = c.in_ok-desk.passes.items in
    let ended = ended_of c.in_ok-desk.desk.id c.args.clock.now _ _ passes opened.1 (book.callers ∙ opened.0) (omega (arith, c.in_ok-callers.ensures.count)) book.legal (c.entries_are_posts.ensures c.in_ok-book.book book.legal) book.worked in
    let first = are_first _ _ _ opened.1 in
    let count = first.count in
    let near : 0 < length passes = omega (arith, count, opened.0, c.in_ok-callers.ensures.count, c.in_ok-callers.ensures.some) in
    let room : c.in_ok-book.book.room ≡ room_of c.args.job.now = room_at ended 0 near ∙ ap (λ (p : PassState). p.seen.room) (first.each 0 _ near) ∙ c.room_for.ensures in
    let value = c.fault_of.ensures.value in
    let failure = c.in-Some.failure in
    let is = c.in-Some.is in
    record {
      whole = tt;
      legal = tt;
      callers = tt;
      clock = tt;
      room = tt;
      calls = tt;
      refused = λ wrong. absurd (⊎_elim (λ none. omega (arith, none, c.in_ok-callers.ensures.some)) (λ many. omega (arith, many, c.in_ok-callers.ensures.few)) wrong);
      cause = λ inputs tell. subst (IsReadCause _ inputs) (sym value) (subst (λ room. IsReadCause room inputs (run_fault failure)) room (cause_is ended failure is inputs tell));
      allowed = subst (IsAllowed _) (sym value) (allowed ended failure is _);
      named = subst (IsNamed _ _) (sym value) (named ended failure is _ (omega (arith, count, opened.0, c.in_ok-callers.ensures.count)));
      full = subst (IsFullList _ c.args.sources.items) (sym value) (subst (λ room. IsFullList room c.args.sources.items (run_fault failure)) room (full_list ended failure is));
      unprinted = c.fault_of.ensures.unprinted;
      read = λ host told s. can_fail_at ended failure is host (sym value ∙ told) s;
    }
