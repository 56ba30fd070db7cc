use Rattle.std.proofs.Common.{◌≡◌, ◌∙◌, ℤ, pos, ap, arith, w32, w64, to_z, of_z}
use Rattle.std.proofs.lemmas.Int.{ints}
use Rattle.std.specs.Int.{int_div_euclid}
use Rattle.tally_clock.proofs.DayLemmas.{floor}
use Rattle.tally_sessions.specs.inside.Spans.{span_day}
use Rattle.tally_sessions.proofs.connect.span.day_of.Goals as goal

pub returns-clause-value : goal.returns-clause-value
unfolding span_day
returns-clause-value c =
    let time : to_z w64 (of_z w64 c.args.time) ≡ c.args.time = omega (arith, ints, c.requires.low, c.requires.high) in
    let f = floor c.args.time in
    let begun = f.0 in
    let not_over = f.1 in
    let is : c.div_euclid.result ≡ int_div_euclid c.args.time (pos 86400) = c.div_euclid.ensures ∙ ap (λ (z : ℤ). int_div_euclid z (pos 86400)) time in
    same c.div_euclid.result is
  where
    same : (z : ℤ) → z ≡ int_div_euclid c.args.time (pos 86400) → to_z w32 (of_z w32 (to_z w64 (of_z w64 z))) ≡ int_div_euclid c.args.time (pos 86400)
    same z is = let f = floor c.args.time in let begun = f.0 in let not_over = f.1 in omega (arith, ints, c.requires.low, c.requires.high)
