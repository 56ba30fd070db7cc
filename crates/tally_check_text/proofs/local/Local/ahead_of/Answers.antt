use Rattle.std.proofs.Common.{◌≡◌, FitsSigned, arith, pos, refl, rules, w32, w64, ◌*ℤ◌, ◌+ℤ◌}
use Rattle.std.proofs.lemmas.Int.{ints, to_z-of_z}
use Rattle.std.specs.Int.{int_min}
use Rattle.tally_clock.specs.Rows.{offset_at}
use Rattle.tally_check_text.specs.Moments.{ahead_of}
use Rattle.tally_check_text.specs.inside.LocalTime.{clock_of}
use Rattle.tally_check_text.proofs.local.Local.ahead_of.Goals as goal

pub returns-clause-value : goal.returns-clause-value
returns-clause-value c =
    let fits : FitsSigned w32 c.narrowed.result = search rules in
    let offset = c.args.self.now.in_range in
    let zone = c.offset_at.result.in_range in
    let clock = rw (to_z-of_z w32 c.narrowed.result fits, c.narrowed.ensures, to_z-of_z w64 c.args.time c.ranges.time) at c.offset_at.ensures in
    let whole : ahead_of (clock_of c.args.self.now) c.args.time ≡ offset_at c.args.self.now.clock.now (int_min c.args.time (pos 2_147_483_647)) +ℤ pos 60 *ℤ c.args.self.now.offset = refl in
    omega (arith, ints, whole, clock)
