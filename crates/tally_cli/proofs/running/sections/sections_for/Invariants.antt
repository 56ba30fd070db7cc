use Rattle.std.proofs.Common.{◌≡◌, ◌+◌, ◌≤◌, length, map, take}
use Rattle.std.specs.List.{All}
use Rattle.std.specs.Vec.{vec_capacity}
use Rattle.tally_answers.specs.Answers.{HasDays, answer_of}
use Rattle.tally_print.specs.Section.{NamesHostBelow, answer_in}
use Rattle.tally_cli.proofs.running.sections.sections_for.Given as goal

abbrev pub invariant-loop-index : goal.invariant-loop-index
invariant-loop-index l = record {
  callers : l.book.callers ≡ l.fn.book.callers;
  clock : l.book.clock ≡ l.fn.book.clock;
  logins : l.book.logins ≡ l.fn.book.logins;
  procs : l.book.procs ≡ l.fn.book.procs;
  calls : length l.book.calls ≤ length l.fn.book.calls + l.index;
  room : length l.fn.questions ≤ vec_capacity l.sections;
  value : map (answer_in l.fn.book.logins) l.sections.items ≡ map (λ q. answer_of l.fn.book.clock q l.fn.book.logins l.fn.book.procs) (take l.index l.fn.questions);
  hosts : All (NamesHostBelow l.fn.book.callers) l.sections.items;
  days : All (λ s. HasDays (answer_in l.fn.book.logins s)) l.sections.items;
}
