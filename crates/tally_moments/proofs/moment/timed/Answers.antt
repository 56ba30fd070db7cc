use Rattle.std.proofs.Common.{◌≡◌, ◌∙◌, FitsSigned, Some, true, ap, rules, slice_index, sym, take, to_z-of_z, w32}
use Rattle.tally_moments.proofs.MomentLemmas.{timed_is}
use Rattle.tally_moments.specs.Dates.{day_named}
use Rattle.tally_moments.specs.Moments.{is_between, timed_on}
use Rattle.tally_moments.proofs.moment.timed.Goals as goal

pub returns-in_ok-day_named : goal.returns-in_ok-day_named
returns-in_ok-day_named c =
    let day = c.in_ok-day_named.field-0 in
    let fits : FitsSigned w32 day = search rules in
    let said = simp to_z-of_z at c.timed_on.ensures in
    let between : is_between (slice_index c.args.word.now 10) ≡ true = ap is_between (sym c.byte_at.ensures) ∙ sym c.is_between.ensures ∙ c.if-is_between.true in
    let named : day_named (take 10 c.args.word.now) ≡ Some day = ap day_named (sym c.front.ensures) ∙ sym c.day_named.ensures.value ∙ c.in_ok-day_named.was in
    said ∙ ap (timed_on day) c.rest.ensures ∙ sym (timed_is c.args.word.now day between named)
