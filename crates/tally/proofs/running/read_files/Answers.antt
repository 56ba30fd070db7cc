use Rattle.std.proofs.Common.{ℕ, ◌+◌, length, subst}
use Rattle.std.proofs.lemmas.Result.{IfErr-weaker}
use Rattle.tally_cli.specs.Runs.{IsNamed}
use Rattle.tally.proofs.running.read_files.Goals as goal

pub read-requires : goal.read-requires
read-requires g c = IfErr-weaker c.run-done.result _ _
    (λ found failed. (_, subst (λ (files : ℕ). IsNamed files (length c.args.sources.items + c.args.job.now.askers) found) c.requires.count failed.named))
    c.run-done.ensures.failed
