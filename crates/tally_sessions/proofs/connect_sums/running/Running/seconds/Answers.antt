use Rattle.std.proofs.Common.{◌≡◌, ◌∙◌, ◌+◌, ◌<◌, length, unwrap_or, sym, ap, arith, rules, to_z, of_z}
use Rattle.std.proofs.lemmas.Int.{to_z-of_z}
use Rattle.std.proofs.lemmas.List.{get_or_default, take_all}
use Rattle.std.proofs.lemmas.List.Sums.{sum_by_more}
use Rattle.std.specs.Int.{w32, w64}
use Rattle.std.specs.Prelude.{FitsSigned}
use Rattle.tally_sessions.specs.Opens.{seconds_at}
use Rattle.tally_sessions.specs.inside.Slots.{no_slot, one, slot_at, weight_at, weight_in}
use Rattle.tally_sessions.specs.inside.Track.{sum_of}
use Rattle.tally_sessions.proofs.connect_sums.TotalLemmas.{running-seconds}
use Rattle.tally_sessions.proofs.connect_sums.running.Running.seconds.Goals as goal

pub loop-k-preserved : goal.loop-k-preserved
loop-k-preserved c =
    let slots = c.args.self.now.slots in
    let k = c.loop-k.k in
    let within : k < length slots.items = omega (arith, c.loop-k-test.true, c.len-k-end.ensures, slots.ok.0) in
    let here : slot_at slots.items k ≡ c.index.result.now = get_or_default slots.items k no_slot c.index.result.now within ∙ sym c.index.ensures in
    let weight = seconds_at c.args.who.now c.args.self.now.clock (to_z w32 (of_z w32 c.unwrap_or-time.result)) in
    let more = sum_by_more (weight_at weight) slots.items k no_slot within in
    let ones = sum_by_more (weight_at one) slots.items k no_slot within in
    let clock_fits : FitsSigned w64 c.args.self.now.clock = search rules in
    let clock = to_z-of_z w64 c.args.self.now.clock clock_fits in
    let value = c.seconds_of-seconds.ensures.value ∙ (λ i. weight_at (seconds_at c.args.who.now (clock i) (to_z w32 (of_z w32 c.unwrap_or-time.result))) (sym here i)) in
    let small = c.seconds_of-seconds.ensures.small in
    record {
      value = omega (arith, c.loop-k.invariant.value, more, value);
      small = omega (arith, c.loop-k.invariant.small, ones, small, ap (weight_at one) here);
    }

pub returns-clause-value : goal.returns-clause-value
returns-clause-value c rs h =
    let old = c.args.self.now in
    let fits : FitsSigned w32 c.unwrap_or-time.result = search rules in
    let last_fits : FitsSigned w32 old.last = search rules in
    let time = to_z-of_z w32 c.unwrap_or-time.result fits ∙ c.unwrap_or-time.ensures ∙ ap (unwrap_or c.args.until) (to_z-of_z w32 old.last last_fits) in
    let all = take_all c.loop-k.k old.slots.items (omega (arith, c.loop-k-test.false, c.len-k-end.ensures, old.slots.ok.0)) in
    c.loop-k.invariant.value
    ∙ (λ i. sum_of old.ended.sums c.args.who.now + weight_in (seconds_at c.args.who.now old.clock (time i)) (all i))
    ∙ running-seconds old rs c.args.who.now c.args.until h
