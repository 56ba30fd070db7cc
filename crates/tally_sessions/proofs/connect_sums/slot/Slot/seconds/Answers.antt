use Rattle.std.proofs.Common.{◌∙◌, ◌+ℤ◌, ◌-ℤ◌, ap, rules}
use Rattle.std.proofs.lemmas.Int.{to_z-of_z}
use Rattle.std.specs.Int.{w32, w64}
use Rattle.std.specs.Prelude.{FitsSigned}
use Rattle.tally_clock.specs.Days.{seconds_between}
use Rattle.tally_sessions.specs.Stays.{clamped}
use Rattle.tally_sessions.proofs.connect_sums.slot.Slot.seconds.Goals as goal

pub returns : goal.returns
returns c =
    let s = c.args.self.now in
    let begin_fits : FitsSigned w32 c.begin.result = search rules in
    let clock = to_z-of_z w64 c.args.clock c.ranges.clock in
    let begin = c.begin.ensures ∙ (λ i. clamped (s.start +ℤ (clock i -ℤ s.clock_at))) in
    c.seconds_between.ensures.value
    ∙ (λ i. seconds_between (to_z-of_z w32 c.begin.result begin_fits i) (to_z-of_z w32 c.args.time c.ranges.time i))
    ∙ ap (λ z. seconds_between z c.args.time) begin
