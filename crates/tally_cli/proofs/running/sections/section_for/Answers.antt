use Rattle.std.proofs.Common.{ap, sym}
use Rattle.tally_answers.specs.Answers.{answer_of}
use Rattle.tally_cli.proofs.running.sections.section_for.Goals as goal

pub returns-in-Last-clause-value : goal.returns-in-Last-clause-value
unfolding answer_of
returns-in-Last-clause-value c = sym (ap (λ q. answer_of c.args.book.now.clock q c.args.book.now.logins c.args.book.now.procs) c.in-Last.is)
