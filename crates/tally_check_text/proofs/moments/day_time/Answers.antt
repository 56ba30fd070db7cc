use Rattle.std.proofs.Common.{◌≡◌, pos, ◌+ℤ◌, ℤ, ap, ◌∙◌, arith}
use Rattle.std.proofs.lemmas.Int.{ints}
use Rattle.std.specs.Int.{int_div_euclid}
use Rattle.tally_check_text.proofs.CivilLemmas.{recorded_day}
use Rattle.tally_check_text.proofs.moments.day_time.Goals as goal

pub returns-clause-day_in_range : goal.returns-clause-day_in_range
returns-clause-day_in_range c =
    let within = recorded_day c.args.time c.args.ahead c.requires.recorded c.requires.ahead in
    let value : c.div_euclid-day.result ≡ int_div_euclid (c.args.time +ℤ c.args.ahead) (pos 86_400) = c.div_euclid-day.ensures ∙ ap (λ (x : ℤ). int_div_euclid x (pos 86_400)) (omega (arith, ints)) in
    record { low = omega (arith, ints); high = omega (arith, ints) }
