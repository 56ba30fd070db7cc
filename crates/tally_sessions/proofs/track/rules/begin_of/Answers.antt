use Rattle.std.proofs.Common.{◌≡◌, ◌∙◌, arith, pos, negsuc, ◌+ℤ◌}
use Rattle.std.proofs.lemmas.Int.{ints}
use Rattle.std.specs.Int.{w32, cast_signed, cast_unsigned}
use Rattle.tally_sessions.specs.Stays.{clamped}
use Rattle.tally_sessions.proofs.track.Lengths.{held}
use Rattle.tally_sessions.proofs.track.rules.begin_of.Goals as goal

pub returns : goal.returns
returns c =
    let lowest : held c.from-2.result ≡ negsuc 2147483647 = omega (arith, ints) in
    let highest : held c.from-3.result ≡ pos 2147483647 = omega (arith, ints) in
    let sum : held (held c.from.result +ℤ held c.args.moved) ≡ c.args.start +ℤ c.args.moved = omega (arith, ints) in
    let begin : c.clamp.result ≡ clamped (c.args.start +ℤ c.args.moved) = rw (lowest, sum, highest) at c.clamp.ensures.value in
    let low = c.clamp.ensures.lower_bound in
    let high = c.clamp.ensures.upper_bound in
    let same : cast_signed w32 (cast_unsigned w32 (held c.clamp.result)) ≡ c.clamp.result = omega (arith, ints) in
    same ∙ begin
