use Rattle.std.proofs.Common.{◌≡◌, ◌∙◌, ◌+◌, ◌<◌, ◌≤◌, Bool, true, false, ℕ, ℤ, None, Some, cond, length, unwrap_or, sym, ap, arith, rules, to_z, of_z}
use Rattle.std.proofs.lemmas.Int.{to_z-of_z}
use Rattle.std.proofs.lemmas.List.{get_or_default, take_all}
use Rattle.std.proofs.lemmas.List.Sums.{sum_by_more, sum_by-take-le}
use Rattle.std.specs.Cmp.Lexicographic.{slice_cmp}
use Rattle.std.specs.Int.{w32, w64}
use Rattle.std.specs.Ordering.{is_eq, nat_cmp}
use Rattle.std.specs.Prelude.{FitsSigned}
use Rattle.tally_sessions.specs.Opens.{seconds_at}
use Rattle.tally_sessions.specs.inside.Slots.{no_slot, one, open_count, slot_at, weight_at, weight_in}
use Rattle.tally_sessions.specs.inside.Sums.{sum_at}
use Rattle.tally_sessions.specs.inside.Track.{sum_of}
use Rattle.tally_sessions.proofs.connect_sums.SlotLemmas.{own-seconds}
use Rattle.tally_sessions.proofs.connect_sums.TotalLemmas.{running-seconds}
use Rattle.tally_sessions.proofs.connect_sums.running.Running.add_users.Goals as goal

at_most : (b : Bool) (n : ℕ) → cond b n 0 ≤ n
at_most true n = omega arith
at_most false n = omega arith

pub add_seconds_to-requires-clause-room : goal.add_seconds_to-requires-clause-room
add_seconds_to-requires-clause-room c =
    let slots = c.args.self.now.slots in
    let k = c.loop-k.k in
    let slot = c.index.result.now in
    let within : k < length slots.items = omega (arith, c.loop-k-test.true, c.len-k-end.ensures, slots.ok.0) in
    let here : slot_at slots.items k ≡ slot = get_or_default slots.items k no_slot slot within ∙ sym c.index.ensures in
    omega (
      arith,
      c.loop-k.invariant.small slot.user,
      ap (weight_at one) here,
      sum_by_more (weight_at one) slots.items k no_slot within,
      sum_by-take-le (weight_at one) slots.items (k + 1),
      c.requires.running.fits (Some slot.user),
      c.requires.few,
      c.requires.room slot.user,
    )

pub loop-k-preserved : goal.loop-k-preserved
loop-k-preserved c =
    let slots = c.args.self.now.slots in
    let k = c.loop-k.k in
    let slot = c.index.result.now in
    let within : k < length slots.items = omega (arith, c.loop-k-test.true, c.len-k-end.ensures, slots.ok.0) in
    let here : slot_at slots.items k ≡ slot = get_or_default slots.items k no_slot slot within ∙ sym c.index.ensures in
    let clock_fits : FitsSigned w64 c.args.self.now.clock = search rules in
    let clock = to_z-of_z w64 c.args.self.now.clock clock_fits in
    let time : ℤ = to_z w32 (of_z w32 c.unwrap_or-time.result) in
    record {
      value = λ who.
          let added = c.in_ok-add_seconds_to.ensures.value who ∙ (λ i. sum_at (slice_cmp nat_cmp) c.loop-k.sums.entries who + cond (is_eq (slice_cmp nat_cmp (sym here i).user who)) (weight_at (seconds_at None (clock i) time) (sym here i)) 0) in
          let own = own-seconds c.args.self.now.clock time (slot_at slots.items k) who in
          omega (arith, added, own, c.loop-k.invariant.value who, sum_by_more (weight_at (seconds_at (Some who) c.args.self.now.clock time)) slots.items k no_slot within);
      small = λ who.
          omega (
            arith,
            c.in_ok-add_seconds_to.ensures.value who,
            at_most (is_eq (slice_cmp nat_cmp slot.user who)) (weight_at (seconds_at None (to_z w64 (of_z w64 c.args.self.now.clock)) time) slot),
            c.add_seconds_to.ensures.small,
            ap (weight_at one) here,
            c.loop-k.invariant.small who,
            sum_by_more (weight_at one) slots.items k no_slot within,
          );
    }

pub returns : goal.returns
returns c = record {
  value = λ who rs h.
      let old = c.args.self.now in
      let fits : FitsSigned w32 c.unwrap_or-time.result = search rules in
      let last_fits : FitsSigned w32 old.last = search rules in
      let time = to_z-of_z w32 c.unwrap_or-time.result fits ∙ c.unwrap_or-time.ensures ∙ ap (unwrap_or c.args.until) (to_z-of_z w32 old.last last_fits) in
      let all = take_all c.loop-k.k old.slots.items (omega (arith, c.loop-k-test.false, c.len-k-end.ensures, old.slots.ok.0)) in
      let left = c.loop-k.invariant.value who ∙ (λ i. (sum_at (slice_cmp nat_cmp) c.args.sums.now.entries who + sum_of old.ended.sums (Some who)) + weight_in (seconds_at (Some who) old.clock (time i)) (all i)) in
      omega (arith, left, running-seconds old rs (Some who) c.args.until h);
  small = λ who.
      let slots = c.args.self.now.slots in
      let all = take_all c.loop-k.k slots.items (omega (arith, c.loop-k-test.false, c.len-k-end.ensures, slots.ok.0)) in
      omega (arith, c.loop-k.invariant.small who, ap open_count all, c.requires.running.fits (Some who));
}
