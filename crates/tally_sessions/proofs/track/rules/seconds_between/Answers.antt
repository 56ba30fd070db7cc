use Rattle.std.proofs.Common.{◌≡◌, ◌<◌, ap, subst, sym, ◌∙◌, arith, rules, ℤ, pos, ◌-ℤ◌, ◌≤ℤ◌}
use Rattle.std.proofs.lemmas.Int.{ints, to_z-of_z}
use Rattle.std.specs.Int.{w64, int_max}
use Rattle.std.specs.Prelude.{FitsSigned, unsigned_abs}
use Rattle.tally_sessions.proofs.track.Lengths.{held, seconds_fit}
use Rattle.tally_sessions.proofs.track.rules.seconds_between.Goals as goal

pub returns-clause-value : goal.returns-clause-value
returns-clause-value c =
    let gap : held (held c.from.result -ℤ held c.from-2.result) ≡ c.args.end_time -ℤ c.args.begin = omega (arith, ints) in
    let by_gap : c.max.result ≡ int_max (c.args.end_time -ℤ c.args.begin) (pos 0) = rw gap at c.max.ensures.value in
    let fits : FitsSigned w64 c.max.result = search rules in
    ap unsigned_abs (to_z-of_z w64 _ fits ∙ by_gap)

pub returns-clause-fits : goal.returns-clause-fits
returns-clause-fits c =
    let gap : held (held c.from.result -ℤ held c.from-2.result) ≡ c.args.end_time -ℤ c.args.begin = omega (arith, ints) in
    let by_gap : c.max.result ≡ int_max (c.args.end_time -ℤ c.args.begin) (pos 0) = rw gap at c.max.ensures.value in
    let fits : FitsSigned w64 c.max.result = search rules in
    let bound : (c.args.end_time -ℤ c.args.begin) ≤ℤ pos 4294967295 = omega (arith, ints) in
    subst (λ (z : ℤ). unsigned_abs z < 4294967296) (sym (to_z-of_z w64 _ fits ∙ by_gap)) (seconds_fit (c.args.end_time -ℤ c.args.begin) bound)
