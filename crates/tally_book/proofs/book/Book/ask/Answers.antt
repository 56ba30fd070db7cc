use Rattle.std.proofs.Common.{◌≡◌, ◌<◌, ◌++◌, ◌∷◌, [], List, length, refl, ap, ◌∙◌, subst, sym}
use Rattle.std.proofs.lemmas.Result.{err_from_is_err_and}
use Rattle.tally_sessions.specs.declared.entry.Entry.{Entry}
use Rattle.tally_book.specs.declared.book.Book.TheInside.{Inside}
use Rattle.tally_book.specs.declared.history.Call.TheVariants.{Asked}
use Rattle.tally_answers.specs.Answers.{answer_of}
use Rattle.tally_book.specs.Books.{IsLegal, asked, counts_of}
use Rattle.tally_book.specs.Contents.{Contents}
use Rattle.tally_book.specs.inside.Kept.{contents_of}
use Rattle.tally_book.proofs.AskLemmas.{calls_full, calls_left, memory_refused, no_such_host, same_contents, still_sound}
use Rattle.tally_book.proofs.Growth.{asked_legal}
use Rattle.tally_book.proofs.book.Book.ask.Goals as goal

pub returns-then-is_full-clause-refused : goal.returns-then-is_full-clause-refused
returns-then-is_full-clause-refused c = refl

pub returns-then-is_full-clause-cause : goal.returns-then-is_full-clause-cause
returns-then-is_full-clause-cause c = calls_full c.self.inside c.args.self.now c.self.view_is c.len.result c.len.ensures c.self.invariant c.if-is_full.ensures

pub returns-then-is_full-clause-legal : goal.returns-then-is_full-clause-legal
returns-then-is_full-clause-legal c = subst IsLegal c.self.view_is c.self.invariant.legal

pub returns-in_err-check_host-clause-stored : goal.returns-in_err-check_host-clause-stored
returns-in_err-check_host-clause-stored c =
    let p = err_from_is_err_and c.from_residual.result c.from_residual.ensures.1 in
    rw p.1 tt

pub returns-in_err-check_host-clause-served : goal.returns-in_err-check_host-clause-served
returns-in_err-check_host-clause-served c =
    let p = err_from_is_err_and c.from_residual.result c.from_residual.ensures.1 in
    rw p.1 tt

pub returns-in_err-check_host-clause-days : goal.returns-in_err-check_host-clause-days
returns-in_err-check_host-clause-days c =
    let p = err_from_is_err_and c.from_residual.result c.from_residual.ensures.1 in
    rw p.1 tt

pub returns-in_err-check_host-clause-refused : goal.returns-in_err-check_host-clause-refused
returns-in_err-check_host-clause-refused c =
    let p = err_from_is_err_and c.from_residual.result c.from_residual.ensures.1 in
    rw p.1 refl

pub returns-in_err-check_host-clause-cause : goal.returns-in_err-check_host-clause-cause
returns-in_err-check_host-clause-cause c =
    let p = err_from_is_err_and c.from_residual.result c.from_residual.ensures.1 in
    rw (p.1, p.2) (no_such_host c.self.inside c.args.self.now c.self.view_is c.len.result c.len.ensures c.args.question.now _ c.if-is_full.ensures c.in_err-check_host.ensures.cause)

pub returns-in_err-check_host-clause-legal : goal.returns-in_err-check_host-clause-legal
returns-in_err-check_host-clause-legal c = subst IsLegal c.self.view_is c.self.invariant.legal

pub invariant_of-self : goal.invariant_of-self
invariant_of-self c =
    let after : Inside = record { callers = c.self.inside.callers; clock = c.self.inside.clock; room = c.self.inside.room; logins = c.self.inside.logins; summary = c.self.inside.summary; calls = c.reserve.new.self } in
    let same = same_contents c.self.inside after refl refl refl refl refl c.reserve.ensures.items in
    still_sound c.self.inside after c.self.invariant refl same

pub returns-in_err-reserve-clause-stored : goal.returns-in_err-reserve-clause-stored
returns-in_err-reserve-clause-stored c =
    let p = err_from_is_err_and c.from_residual-in_err-reserve.result c.from_residual-in_err-reserve.ensures.1 in
    rw p.1 tt

pub returns-in_err-reserve-clause-served : goal.returns-in_err-reserve-clause-served
returns-in_err-reserve-clause-served c =
    let p = err_from_is_err_and c.from_residual-in_err-reserve.result c.from_residual-in_err-reserve.ensures.1 in
    rw p.1 tt

pub returns-in_err-reserve-clause-days : goal.returns-in_err-reserve-clause-days
returns-in_err-reserve-clause-days c =
    let p = err_from_is_err_and c.from_residual-in_err-reserve.result c.from_residual-in_err-reserve.ensures.1 in
    rw p.1 tt

pub returns-in_err-reserve-clause-refused : goal.returns-in_err-reserve-clause-refused
returns-in_err-reserve-clause-refused c =
    let after : Inside = record { callers = c.self.inside.callers; clock = c.self.inside.clock; room = c.self.inside.room; logins = c.self.inside.logins; summary = c.self.inside.summary; calls = c.reserve.new.self } in
    let same = same_contents c.self.inside after refl refl refl refl refl c.reserve.ensures.items in
    let p = err_from_is_err_and c.from_residual-in_err-reserve.result c.from_residual-in_err-reserve.ensures.1 in
    rw p.1 (same ∙ c.self.view_is)

pub returns-in_err-reserve-clause-cause : goal.returns-in_err-reserve-clause-cause
returns-in_err-reserve-clause-cause c =
    let p = err_from_is_err_and c.from_residual-in_err-reserve.result c.from_residual-in_err-reserve.ensures.1 in
    rw (p.1, p.2) (memory_refused c.self.inside c.args.self.now c.self.view_is c.len.result c.len.ensures c.args.question.now c.if-is_full.ensures c.in_ok-check_host.ensures.host)

pub returns-in_err-reserve-clause-legal : goal.returns-in_err-reserve-clause-legal
returns-in_err-reserve-clause-legal c = (invariant_of-self c).legal

pub invariant_of-self-in_err-count_for : goal.invariant_of-self-in_err-count_for
invariant_of-self-in_err-count_for c =
    let after : Inside = record { callers = c.self.inside.callers; clock = c.self.inside.clock; room = c.self.inside.room; logins = c.count_for.new.self; summary = c.self.inside.summary; calls = c.reserve.new.self } in
    let same = same_contents c.self.inside after refl refl refl c.in_err-count_for.ensures.entries refl c.reserve.ensures.items in
    still_sound c.self.inside after c.self.invariant c.in_err-count_for.ensures.hosts same

pub returns-in_err-count_for-clause-stored : goal.returns-in_err-count_for-clause-stored
returns-in_err-count_for-clause-stored c =
    let p = err_from_is_err_and c.from_residual-in_err-count_for.result c.from_residual-in_err-count_for.ensures.1 in
    rw p.1 tt

pub returns-in_err-count_for-clause-served : goal.returns-in_err-count_for-clause-served
returns-in_err-count_for-clause-served c =
    let p = err_from_is_err_and c.from_residual-in_err-count_for.result c.from_residual-in_err-count_for.ensures.1 in
    rw p.1 tt

pub returns-in_err-count_for-clause-days : goal.returns-in_err-count_for-clause-days
returns-in_err-count_for-clause-days c =
    let p = err_from_is_err_and c.from_residual-in_err-count_for.result c.from_residual-in_err-count_for.ensures.1 in
    rw p.1 tt

pub returns-in_err-count_for-clause-refused : goal.returns-in_err-count_for-clause-refused
returns-in_err-count_for-clause-refused c =
    let after : Inside = record { callers = c.self.inside.callers; clock = c.self.inside.clock; room = c.self.inside.room; logins = c.count_for.new.self; summary = c.self.inside.summary; calls = c.reserve.new.self } in
    let same = same_contents c.self.inside after refl refl refl c.in_err-count_for.ensures.entries refl c.reserve.ensures.items in
    let p = err_from_is_err_and c.from_residual-in_err-count_for.result c.from_residual-in_err-count_for.ensures.1 in
    rw p.1 (same ∙ c.self.view_is)

pub returns-in_err-count_for-clause-cause : goal.returns-in_err-count_for-clause-cause
returns-in_err-count_for-clause-cause c =
    let p = err_from_is_err_and c.from_residual-in_err-count_for.result c.from_residual-in_err-count_for.ensures.1 in
    rw (p.1, p.2) (memory_refused c.self.inside c.args.self.now c.self.view_is c.len.result c.len.ensures c.args.question.now c.if-is_full.ensures c.in_ok-check_host.ensures.host)

pub returns-in_err-count_for-clause-legal : goal.returns-in_err-count_for-clause-legal
returns-in_err-count_for-clause-legal c = (invariant_of-self-in_err-count_for c).legal

pub answer-requires-clause-hosts : goal.answer-requires-clause-hosts
answer-requires-clause-hosts c = sym (c.in_ok-count_for.ensures.hosts ∙ c.self.invariant.hosts)

pub answer-requires-clause-ready : goal.answer-requires-clause-ready
answer-requires-clause-ready c = c.in_ok-count_for.ensures.ready

pub answer-requires-clause-host : goal.answer-requires-clause-host
answer-requires-clause-host c = c.in_ok-check_host.ensures.host

pub answer-requires-clause-askable : goal.answer-requires-clause-askable
answer-requires-clause-askable c = c.requires.askable

pub invariant_of-self-in_err-answer : goal.invariant_of-self-in_err-answer
invariant_of-self-in_err-answer c =
    let after : Inside = record { callers = c.self.inside.callers; clock = c.self.inside.clock; room = c.self.inside.room; logins = c.count_for.new.self; summary = c.self.inside.summary; calls = c.reserve.new.self } in
    let same = same_contents c.self.inside after refl refl refl c.in_ok-count_for.ensures.entries refl c.reserve.ensures.items in
    still_sound c.self.inside after c.self.invariant c.in_ok-count_for.ensures.hosts same

pub returns-in_err-answer-clause-stored : goal.returns-in_err-answer-clause-stored
returns-in_err-answer-clause-stored c =
    let p = err_from_is_err_and c.from_residual-in_err-answer.result c.from_residual-in_err-answer.ensures.1 in
    rw p.1 tt

pub returns-in_err-answer-clause-served : goal.returns-in_err-answer-clause-served
returns-in_err-answer-clause-served c =
    let p = err_from_is_err_and c.from_residual-in_err-answer.result c.from_residual-in_err-answer.ensures.1 in
    rw p.1 tt

pub returns-in_err-answer-clause-days : goal.returns-in_err-answer-clause-days
returns-in_err-answer-clause-days c =
    let p = err_from_is_err_and c.from_residual-in_err-answer.result c.from_residual-in_err-answer.ensures.1 in
    rw p.1 tt

pub returns-in_err-answer-clause-refused : goal.returns-in_err-answer-clause-refused
returns-in_err-answer-clause-refused c =
    let after : Inside = record { callers = c.self.inside.callers; clock = c.self.inside.clock; room = c.self.inside.room; logins = c.count_for.new.self; summary = c.self.inside.summary; calls = c.reserve.new.self } in
    let same = same_contents c.self.inside after refl refl refl c.in_ok-count_for.ensures.entries refl c.reserve.ensures.items in
    let p = err_from_is_err_and c.from_residual-in_err-answer.result c.from_residual-in_err-answer.ensures.1 in
    rw p.1 (same ∙ c.self.view_is)

pub returns-in_err-answer-clause-cause : goal.returns-in_err-answer-clause-cause
returns-in_err-answer-clause-cause c =
    let p = err_from_is_err_and c.from_residual-in_err-answer.result c.from_residual-in_err-answer.ensures.1 in
    rw (p.1, p.2, c.in_err-answer.ensures.cause) (memory_refused c.self.inside c.args.self.now c.self.view_is c.len.result c.len.ensures c.args.question.now c.if-is_full.ensures c.in_ok-check_host.ensures.host)

pub returns-in_err-answer-clause-legal : goal.returns-in_err-answer-clause-legal
returns-in_err-answer-clause-legal c = (invariant_of-self-in_err-answer c).legal

pub invariant_of-self-in_err-asked : goal.invariant_of-self-in_err-asked
invariant_of-self-in_err-asked c =
    let after : Inside = record { callers = c.self.inside.callers; clock = c.self.inside.clock; room = c.self.inside.room; logins = c.count_for.new.self; summary = c.self.inside.summary; calls = c.reserve.new.self } in
    let same = same_contents c.self.inside after refl refl refl c.in_ok-count_for.ensures.entries refl c.reserve.ensures.items in
    still_sound c.self.inside after c.self.invariant c.in_ok-count_for.ensures.hosts same

pub returns-in_err-asked-clause-stored : goal.returns-in_err-asked-clause-stored
returns-in_err-asked-clause-stored c =
    let p = err_from_is_err_and c.from_residual-in_err-asked.result c.from_residual-in_err-asked.ensures.1 in
    rw p.1 tt

pub returns-in_err-asked-clause-served : goal.returns-in_err-asked-clause-served
returns-in_err-asked-clause-served c =
    let p = err_from_is_err_and c.from_residual-in_err-asked.result c.from_residual-in_err-asked.ensures.1 in
    rw p.1 tt

pub returns-in_err-asked-clause-days : goal.returns-in_err-asked-clause-days
returns-in_err-asked-clause-days c =
    let p = err_from_is_err_and c.from_residual-in_err-asked.result c.from_residual-in_err-asked.ensures.1 in
    rw p.1 tt

pub returns-in_err-asked-clause-refused : goal.returns-in_err-asked-clause-refused
returns-in_err-asked-clause-refused c =
    let after : Inside = record { callers = c.self.inside.callers; clock = c.self.inside.clock; room = c.self.inside.room; logins = c.count_for.new.self; summary = c.self.inside.summary; calls = c.reserve.new.self } in
    let same = same_contents c.self.inside after refl refl refl c.in_ok-count_for.ensures.entries refl c.reserve.ensures.items in
    let p = err_from_is_err_and c.from_residual-in_err-asked.result c.from_residual-in_err-asked.ensures.1 in
    rw p.1 (same ∙ c.self.view_is)

pub returns-in_err-asked-clause-cause : goal.returns-in_err-asked-clause-cause
returns-in_err-asked-clause-cause c =
    let p = err_from_is_err_and c.from_residual-in_err-asked.result c.from_residual-in_err-asked.ensures.1 in
    rw (p.1, p.2) (memory_refused c.self.inside c.args.self.now c.self.view_is c.len.result c.len.ensures c.args.question.now c.if-is_full.ensures c.in_ok-check_host.ensures.host)

pub returns-in_err-asked-clause-legal : goal.returns-in_err-asked-clause-legal
returns-in_err-asked-clause-legal c = (invariant_of-self-in_err-asked c).legal

pub invariant_of-self-2 : goal.invariant_of-self-2
invariant_of-self-2 c =
    let b : Contents = contents_of c.self.inside in
    let question = c.args.question.now in
    let logins : c.count_for.new.self.entries ≡ b.logins = c.in_ok-count_for.ensures.entries in
    let at : c.counts-at.result ≡ counts_of b = λ i. record { logins = (c.counts-at.ensures.logins ∙ ap length logins) i; procs = c.counts-at.ensures.procs i } in
    let answered : c.in_ok-answer.answer ≡ answer_of b.clock question b.logins b.procs =
    c.in_ok-answer.ensures.value ∙ ap (λ (es : List Entry). answer_of b.clock question es b.procs) logins in
    let kept : c.in_ok-asked.asked ≡ Asked c.args.caller (counts_of b) question (answer_of b.clock question b.logins b.procs) =
    c.in_ok-asked.ensures.value ∙ (λ i. Asked c.args.caller (at i) question (answered i)) in
    let calls : c.record-call.new.calls.items ≡ (asked b c.args.caller question).calls =
    c.record-call.ensures.history ∙ (λ i. c.reserve.ensures.items i ++ kept i ∷ []) in
    let near = subst (λ (s : Contents). c.args.caller < s.callers) (sym c.self.view_is) c.requires.caller in
    let room = calls_left c.self.inside b refl c.len.result c.len.ensures c.if-is_full.ensures in
    let legal : IsLegal (asked b c.args.caller question) = asked_legal b c.args.caller question c.self.invariant.legal near room c.in_ok-check_host.ensures.host in
    record {
      hosts = c.in_ok-count_for.ensures.hosts ∙ c.self.invariant.hosts;
      legal = subst IsLegal (λ i. record { callers = b.callers; clock = b.clock; room = b.room; logins = sym logins i; procs = b.procs; calls = sym calls i }) legal;
    }

pub returns-clause-legal : goal.returns-clause-legal
returns-clause-legal c = (invariant_of-self-2 c).legal
