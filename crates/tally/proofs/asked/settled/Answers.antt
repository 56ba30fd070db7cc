use Rattle.std.proofs.Common.{ℤ, subst, rules, w64}
use Rattle.std.proofs.lemmas.Int.{to_z-of_z}
use Rattle.tally_line.specs.Settled.{Settles}
use Rattle.tally_moments.specs.Seconds.{local}
use Rattle.tally.proofs.asked.settled.Goals as goal

pub returns-clause-value : goal.returns-clause-value
returns-clause-value c =
    let asked = c.args.asked in
    subst (λ (n : ℤ). Settles (local c.args.clock.now asked.job.now.offset) n asked.times.now asked.job.now c.settle.result) (to_z-of_z w64 asked.now (search rules)) c.settle.ensures.value
