use Rattle.std.proofs.Common.{◌≡◌, inl, inr, ◌∙◌, ◌+◌, ◌<◌, ℕ, ℤ, List, Bool, true, false, get_or, length, set, refl, sym, ap, subst, arith, to_z, of_z}
use Rattle.std.proofs.lemmas.Bool.{cases_eq, false≢true}
use Rattle.std.proofs.lemmas.Int.{to_z-of_z}
use Rattle.std.proofs.lemmas.List.{get_or_default, get_or-set_same, get_or-set_other, length-set}
use Rattle.std.specs.Int.{w32}
use Rattle.tally_sessions.specs.declared.connect_sums.running.Running.{Running}
use Rattle.tally_sessions.specs.declared.connect_sums.slot.Slot.{Slot}
use Rattle.tally_sessions.specs.inside.Ended.{measured, weighed}
use Rattle.tally_sessions.specs.inside.Running.{AreKept}
use Rattle.tally_sessions.specs.inside.Slots.{no_slot, one, slot_at, unlisted, weight_at, weight_in}
use Rattle.tally_sessions.proofs.connect_sums.KeptLemmas.{kept-unlisted}
use Rattle.tally_sessions.proofs.connect_sums.SlotLemmas.{weight-none, weight-unlisted}
use Rattle.tally_sessions.proofs.connect_sums.running.Running.end_all.Goals as goal

pub loop-i-preserved : goal.loop-i-preserved
loop-i-preserved c =
    let old = c.args.self.now in
    let now = c.loop-i.self in
    let new = c.end_listed.new.self in
    let kept = c.loop-i.invariant.kept in
    let i = c.loop-i.i in
    let k = c.index.result.now in
    let ss : List Slot = now.slots.items in
    let time : ℤ = to_z w32 (of_z w32 c.args.time) in
    let listed : now.listed.items ≡ old.listed.items = ap (λ (r : Running). r.listed.items) c.loop-i.invariant.rest in
    let here : i < length old.listed.items = omega (arith, c.loop-i-test.true, c.len-i-end.ensures, old.listed.ok.0) in
    let place : k ≡ get_or old.listed.items i 0 = c.index.ensures ∙ ap (λ (ls : List ℕ). get_or ls i k) listed ∙ sym (get_or_default old.listed.items i 0 k here) in
    let within : k < length ss = subst (λ p. p < length ss) (sym place) (kept.listed_are i here) in
    let slots = c.end_listed.ensures.slots in
    let clock : now.clock ≡ old.clock = ap (λ (r : Running). r.clock) c.loop-i.invariant.rest in
    let next = kept-unlisted old.count old.lines ss old.listed.items now.ended new.ended k kept within c.end_listed.ensures.grown in
    let count = length-set ss k (unlisted (slot_at ss k)) in record {
      kept = subst (λ (ts : List Slot). AreKept old.count old.lines ts old.listed.items new.ended) (sym slots) next;
      done = λ j lt.
          let p = get_or old.listed.items j 0 in
          ap (λ (ts : List Slot). (slot_at ts p).is_listed) slots
          ∙ elim (cases_eq p k) [
            | inl e ↦ ap (λ q. (slot_at (set ss k (unlisted (slot_at ss k))) q).is_listed) e ∙ ap (λ (t : Slot). t.is_listed) (get_or-set_same ss k (unlisted (slot_at ss k)) no_slot within)
            | inr apart ↦
                ap (λ (t : Slot). t.is_listed) (get_or-set_other ss k p (unlisted (slot_at ss k)) no_slot apart)
                ∙ elim (cases_eq j i) [
                  | inl e ↦ absurd (apart (ap (λ q. get_or old.listed.items q 0) e ∙ sym place))
                  | inr before ↦ c.loop-i.invariant.done j (omega (arith, lt))
                ]
          ];
      left = λ asked.
          let w = ap (λ (ts : List Slot). weight_in (weighed old.ended.keeps_sessions asked old.clock time) ts) slots in
          let gone = weight-unlisted (weighed old.ended.keeps_sessions asked old.clock time) ss k within in
          let sums = c.end_listed.ensures.sums asked ∙ (λ d. measured now.ended asked + weight_at (weighed (c.loop-i.invariant.keeps d) asked (clock d) time) (slot_at ss k)) in
          omega (arith, w, gone, sums, c.loop-i.invariant.left asked);
      spare = omega (arith, c.loop-i.invariant.spare, c.end_listed.ensures.grown.spare, weight-unlisted one ss k within, ap (λ (ts : List Slot). weight_in one ts) slots);
      sessions = omega (arith, c.loop-i.invariant.sessions, c.end_listed.ensures.grown.sessions, weight-unlisted one ss k within, ap (λ (ts : List Slot). weight_in one ts) slots);
      room = c.end_listed.ensures.grown.capacity ∙ c.loop-i.invariant.room;
      keeps = c.end_listed.ensures.grown.keeps ∙ c.loop-i.invariant.keeps;
      count = omega (arith, c.loop-i.invariant.count, count, ap length slots, new.slots.ok.0, now.slots.ok.0);
      capacity = c.end_listed.ensures.capacity ∙ c.loop-i.invariant.capacity;
      rest = c.end_listed.ensures.rest ∙ (λ d. record (c.loop-i.invariant.rest d) { slots = new.slots; ended = new.ended });
    }

pub returns-clause-opens : goal.returns-clause-opens
returns-clause-opens c weight =
    weight-none weight c.loop-i.self.slots.items (λ k lt. over k lt (slot_at c.loop-i.self.slots.items k).is_open refl)
  where
    over : (k : ℕ) → k < length c.loop-i.self.slots.items → (b : Bool) → (slot_at c.loop-i.self.slots.items k).is_open ≡ b → b ≡ false
    over k lt false e = refl
    over k lt true e =
        let kept = c.loop-i.invariant.kept in
        let slot = kept.slots_are k lt in
        let there = slot.there (slot.pending e) in
        let none = c.loop-i.invariant.done there.0 (omega (arith, there.1, c.loop-i-test.false, c.len-i-end.ensures, c.args.self.now.listed.ok.0)) in
        absurd (false≢true (sym none ∙ ap (λ p. (slot_at c.loop-i.self.slots.items p).is_listed) there.2 ∙ slot.pending e))

pub returns-clause-sums : goal.returns-clause-sums
returns-clause-sums c asked =
    let none = returns-clause-opens c (weighed c.args.self.now.ended.keeps_sessions asked c.args.self.now.clock c.args.time) in
    let time = to_z-of_z w32 c.args.time c.ranges.time in
    let left = c.loop-i.invariant.left asked ∙ (λ i. measured c.args.self.now.ended asked + weight_in (weighed c.args.self.now.ended.keeps_sessions asked c.args.self.now.clock (time i)) c.args.self.now.slots.items) in
    let gone = ap (λ z. weight_in (weighed c.args.self.now.ended.keeps_sessions asked c.args.self.now.clock z) c.loop-i.self.slots.items) time in
    omega (arith, none, left, gone)
