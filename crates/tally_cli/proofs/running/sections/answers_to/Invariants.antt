use Rattle.std.proofs.Common.{◌≡◌, ◌+◌, ◌≤◌, length, map, take}
use Rattle.std.specs.List.{All}
use Rattle.std.specs.Vec.{vec_capacity}
use Rattle.tally_answers.specs.Answers.{HasDays, answer_of}
use Rattle.tally_cli.proofs.running.sections.answers_to.Given as goal

abbrev pub invariant-loop-index : goal.invariant-loop-index
invariant-loop-index l = record {
  callers : l.book.callers ≡ l.fn.book.callers;
  clock : l.book.clock ≡ l.fn.book.clock;
  logins : l.book.logins ≡ l.fn.book.logins;
  procs : l.book.procs ≡ l.fn.book.procs;
  calls : length l.book.calls ≡ length l.fn.book.calls + l.index;
  room : length l.fn.questions ≤ vec_capacity l.answers;
  value : l.answers.items ≡ map (λ q. answer_of l.fn.book.clock q l.fn.book.logins l.fn.book.procs) (take l.index l.fn.questions);
  days : All HasDays l.answers.items;
}
