use Rattle.std.proofs.Common.{◌≡◌, ◌∙◌, ℤ, ◌+ℤ◌, ap, arith, rules}
use Rattle.std.proofs.lemmas.Int.{ints, to_z-of_z}
use Rattle.std.specs.Int.{w32}
use Rattle.std.specs.Prelude.{FitsSigned}
use Rattle.tally_sessions.specs.Clock.{shift_at}
use Rattle.tally_sessions.proofs.track.Lengths.{held}
use Rattle.tally_sessions.proofs.connect_sums.running.Running.tick.Goals as goal

pub returns-clause-clock : goal.returns-clause-clock
returns-clause-clock c =
    let now = c.args.self.now.clock in
    let by = c.shift_of.result in
    let sum : held (held now +ℤ held by) ≡ now +ℤ by = omega (arith, ints, c.requires.moved.low, c.requires.moved.high, c.shift_of.ensures.low, c.shift_of.ensures.high) in
    let fits : FitsSigned w32 c.args.time = search rules in
    sum ∙ ap (λ (z : ℤ). now +ℤ z) c.shift_of.ensures.value
    ∙ ap (λ (z : ℤ). now +ℤ shift_at c.args.event c.args.self.now.old_time z) (to_z-of_z w32 c.args.time fits)
