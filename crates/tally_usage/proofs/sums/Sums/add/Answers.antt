use Rattle.std.proofs.Common.{ap, subst}
use Rattle.std.proofs.lemmas.Result.{on_ok_weaker}
use Rattle.tally_records.specs.Records.{procs_in}
use Rattle.tally_usage.specs.Choice.{chosen, is_every_proc}
use Rattle.tally_usage.specs.Sums.{CountsMore}
use Rattle.tally_usage.proofs.ChoiceLemmas.{every_chosen}
use Rattle.tally_usage.proofs.sums.Sums.add.Goals as goal

pub returns-clause-added : goal.returns-clause-added
returns-clause-added c =
    on_ok_weaker {P = CountsMore c.args.self.now c.add_chosen.new.self (chosen c.every.result (procs_in c.args.batch.now))} c.add_chosen.result
    (λ more. subst (CountsMore c.args.self.now c.add_chosen.new.self) (every_chosen c.every.result (ap is_every_proc c.every.ensures) (procs_in c.args.batch.now)) more)
    c.add_chosen.ensures.added
