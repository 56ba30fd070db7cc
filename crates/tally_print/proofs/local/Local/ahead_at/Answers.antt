use Rattle.std.proofs.Common.{◌∙◌, ℕ, pos, ◌+ℤ◌, ◌*ℤ◌, ap, arith}
use Rattle.std.proofs.lemmas.Int.{ints, to_z-of_z}
use Rattle.tally_clock.specs.Rows.{offset_after}
use Rattle.tally_print.proofs.local.Local.ahead_at.Goals as goal

pub returns-clause-value : goal.returns-clause-value
returns-clause-value c =
    let count = rw (to_z-of_z _ c.args.time c.ranges.time) at c.count_near-count.ensures.value in
    let clock = c.args.self.now.clock.now in
    let range = c.ahead_after.ensures.in_range in
    let value = c.ahead_after.ensures.value ∙ ap (λ (n : ℕ). (offset_after clock.first clock.rows n).seconds +ℤ pos 60 *ℤ c.args.self.now.offset) count in
    omega (arith, ints, value, range)
