use Rattle.std.proofs.Common.{◌≡◌, ◌∙◌, ◌+◌, ◌+ℤ◌, refl, sym, ap, subst, to_z, of_z, rules}
use Rattle.std.proofs.lemmas.Int.{to_z-of_z}
use Rattle.std.specs.Int.{w32}
use Rattle.std.specs.Prelude.{FitsSigned}
use Rattle.tally_records.specs.declared.login.LoginRecord.{LoginRecord}
use Rattle.tally_records.specs.Event.{event_of}
use Rattle.tally_sessions.specs.declared.connect_sums.running.Running.{Running}
use Rattle.tally_sessions.specs.Clock.{shift_at}
use Rattle.tally_sessions.specs.inside.Running.{HasPlaces, counted_in}
use Rattle.tally_sessions.specs.inside.Slots.{weight_in}
use Rattle.tally_sessions.specs.inside.Steps.{leaving, opening, staying}
use Rattle.tally_sessions.specs.inside.Ended.{measured}
use Rattle.tally_sessions.specs.inside.Tracking.{pending_at}
use Rattle.tally_sessions.proofs.connect_sums.SlotLemmas.{found, sum-seen, weight-opens}
use Rattle.tally_sessions.proofs.connect_sums.running.Running.advance.Goals as goal

pub returns-clause-step : goal.returns-clause-step
returns-clause-step c x h =
    let old = c.args.self.now in
    let ticked = c.tick.new.self in
    let new = c.follow.new.self in
    let event : c.unwrap-event.result ≡ event_of x = found event_of c.event.result _ c.unwrap-event.result x c.event.ensures h c.unwrap-event.ensures in
    let time_is : c.unwrap-time.result ≡ x.time = found (λ (r : LoginRecord). r.time) c.time.result _ c.unwrap-time.result x c.time.ensures h c.unwrap-time.ensures in
    let fits : FitsSigned w32 c.unwrap-time.result = search rules in
    let time : to_z w32 (of_z w32 c.unwrap-time.result) ≡ x.time = to_z-of_z w32 c.unwrap-time.result fits ∙ time_is in
    let clock : new.clock ≡ ticked.clock = ap (λ (r : Running). r.clock) c.follow.ensures.rest in
    let slots : ticked.slots.items ≡ old.slots.items = ap (λ (r : Running). r.slots.items) c.tick.ensures.rest in
    let kept = c.follow.ensures.rest ∙ (λ i. record (c.tick.ensures.rest i) { lines = new.lines; slots = new.slots; listed = new.listed; ended = new.ended }) in record {
      count = ap (λ (r : Running). r.count + 1) kept;
      clock = clock ∙ c.tick.ensures.clock ∙ (λ i. old.clock +ℤ shift_at (event i) old.old_time (time i));
      old_time = ap (λ (r : Running). r.old_time) c.follow.ensures.rest ∙ c.tick.ensures.old_time ∙ (λ i. pending_at (event i) (time i) old.old_time);
      last = ap (λ (r : Running). r.last) c.follow.ensures.rest ∙ c.tick.ensures.last ∙ time;
      opens = λ weight.
          weight-opens weight new.slots.items
          ∙ c.follow.ensures.opens x h weight
          ∙ (λ i. weight_in (staying x weight) (slots i) + opening x (sym clock i) weight)
          ∙ ap (λ n. n + opening x new.clock weight) (sym (weight-opens (staying x weight) old.slots.items));
      keeps = c.follow.ensures.keeps ∙ ap (λ (r : Running). r.ended.keeps_sessions) c.tick.ensures.rest;
      ended = λ asked.
          sum-seen (counted_in (record new { count = new.count + 1 })) new.ended asked refl refl refl refl
          ∙ c.follow.ensures.sums x h asked
          ∙ (λ i. measured (c.tick.ensures.rest i).ended asked + weight_in (leaving (c.tick.ensures.rest i).ended.keeps_sessions asked (sym clock i) x) (slots i))
          ∙ (λ i. sym (sum-seen (counted_in old) old.ended asked refl refl refl refl) i + sym (weight-opens (leaving old.ended.keeps_sessions asked new.clock x) old.slots.items) i);
    }

pub returns-clause-room_left : goal.returns-clause-room_left
returns-clause-room_left c k room =
    let ticked : HasPlaces (k + 1) c.tick.new.self = subst (HasPlaces (k + 1)) (sym c.tick.ensures.rest) (record { lines = room.lines; slots = room.slots; listed = room.listed; ended = room.ended }) in
    let left = c.follow.ensures.room_left k ticked in
    record { lines = left.lines; slots = left.slots; listed = left.listed; ended = left.ended }
