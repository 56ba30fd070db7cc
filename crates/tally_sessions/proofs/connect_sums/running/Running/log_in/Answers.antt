use Rattle.std.proofs.Common.{◌≡◌, ◌∙◌, ◌+◌, ◌++◌, ◌∷◌, [], ◌<◌, ◌≤◌, ℕ, Bool, true, false, List, cond, length, length-append, set, vec_capacity, refl, sym, ap, subst, arith}
use Rattle.std.proofs.lemmas.Int.{to_z-of_z}
use Rattle.std.proofs.lemmas.List.{get_or-set_same, length-set}
use Rattle.std.proofs.lemmas.List.Sums.{sum_by-set, sum_by_push}
use Rattle.std.specs.Int.{w32}
use Rattle.tally_sessions.specs.declared.connect_sums.running.Running.{Running}
use Rattle.tally_sessions.specs.declared.connect_sums.slot.Slot.{Slot}
use Rattle.tally_sessions.specs.declared.connect_sums.ended.Ended.{Ended}
use Rattle.tally_sessions.specs.Opens.{Open}
use Rattle.tally_sessions.specs.inside.Ended.{HasRoom, measured, weighed}
use Rattle.tally_sessions.specs.inside.Numbers.{Numbers}
use Rattle.tally_sessions.specs.inside.Running.{AreKept}
use Rattle.tally_sessions.specs.inside.Slots.{begun, closed, no_slot, off_line, one, open_count, slot_at, weight_at, weight_in}
use Rattle.tally_sessions.proofs.connect_sums.KeptLemmas.{HasRoom-grown, HasRoom-less, kept-begun, kept-closed, kept-first, line_alone, line_none, line_there}
use Rattle.tally_sessions.proofs.connect_sums.SlotLemmas.{weight-begun, weight-ended, weight-on, weight-off_none, weight-on_none}
use Rattle.tally_sessions.proofs.connect_sums.running.Running.log_in.Goals as goal

at_most_one_more : (b : Bool) (xs : List ℕ) (x : ℕ) → length (cond b xs (xs ++ x ∷ [])) ≤ length xs + 1
at_most_one_more true xs x = omega arith
at_most_one_more false xs x = omega (arith, length-append xs (x ∷ []))

pub returns-in-Some-clause-opens : goal.returns-in-Some-clause-opens
returns-in-Some-clause-opens c weight =
    let old = c.args.self.now in
    let k = c.in-Some.place in
    let ended : List Slot = set old.slots.items k (closed (slot_at old.slots.items k)) in
    let there = line_there old.count old.lines old.slots.items old.listed.items old.ended k c.args.line c.requires.running c.in-Some.ensures.found in
    let within : k < length ended = omega (arith, there.0, length-set old.slots.items k (closed (slot_at old.slots.items k))) in
    let slot : slot_at ended k ≡ closed (slot_at old.slots.items k) = get_or-set_same old.slots.items k (closed (slot_at old.slots.items k)) no_slot there.0 in
    let time = to_z-of_z w32 c.args.time c.ranges.time in
    let clock : c.end.new.self.clock ≡ old.clock = ap (λ (r : Running). r.clock) c.end.ensures.rest in
    let line : (slot_at ended k).line ≡ c.args.line = ap (λ (t : Slot). t.line) slot ∙ there.1 in
    let o : Open = record { line = c.args.line; user = c.args.user; start = c.args.time; clock_at = old.clock } in
    let slots : c.begin.new.self.slots.items ≡ set ended k (begun o) =
    c.begin.ensures.slots
    ∙ (λ i. set (c.end.ensures.slots i) k (begun (record { line = (slot_at (c.end.ensures.slots i) k).line; user = c.args.user; start = time i; clock_at = clock i })))
    ∙ (λ i. set ended k (begun (record { line = line i; user = c.args.user; start = c.args.time; clock_at = old.clock }))) in
    let off = weight-ended old.slots.items k c.args.line there.0 there.1 (line_alone old.count old.lines old.slots.items old.listed.items old.ended k c.args.line c.requires.running c.in-Some.ensures.found) weight in
    let more = weight-begun weight ended k o within (ap (λ (t : Slot). t.is_open) slot) in
    ap (weight_in weight) slots ∙ more ∙ ap (λ n. n + weight o) off

pub returns-in-Some-clause-sums : goal.returns-in-Some-clause-sums
returns-in-Some-clause-sums c asked =
    let old = c.args.self.now in
    let k = c.in-Some.place in
    let there = line_there old.count old.lines old.slots.items old.listed.items old.ended k c.args.line c.requires.running c.in-Some.ensures.found in
    let time = to_z-of_z w32 c.args.time c.ranges.time in
    let on = weight-on old.slots.items k c.args.line there.0 there.1 (line_alone old.count old.lines old.slots.items old.listed.items old.ended k c.args.line c.requires.running c.in-Some.ensures.found) (weighed old.ended.keeps_sessions asked old.clock c.args.time) in
    let sums : c.begin.new.self.ended ≡ c.end.new.self.ended = ap (λ (r : Running). r.ended) c.begin.ensures.rest in
    ap (λ (s : Ended). measured s asked) sums
    ∙ c.end.ensures.sums asked
    ∙ (λ i. measured old.ended asked + weight_at (weighed old.ended.keeps_sessions asked old.clock (time i)) (slot_at old.slots.items k))
    ∙ ap (λ n. measured old.ended asked + n) (sym on)

pub returns-in-Some-clause-running : goal.returns-in-Some-clause-running
returns-in-Some-clause-running c =
    let old = c.args.self.now in
    let new = c.begin.new.self in
    let k = c.in-Some.place in
    let ended : List Slot = set old.slots.items k (closed (slot_at old.slots.items k)) in
    let there = line_there old.count old.lines old.slots.items old.listed.items old.ended k c.args.line c.requires.running c.in-Some.ensures.found in
    let within : k < length ended = omega (arith, there.0, length-set old.slots.items k (closed (slot_at old.slots.items k))) in
    let slot : slot_at ended k ≡ closed (slot_at old.slots.items k) = get_or-set_same old.slots.items k (closed (slot_at old.slots.items k)) no_slot there.0 in
    let time = to_z-of_z w32 c.args.time c.ranges.time in
    let clock : c.end.new.self.clock ≡ old.clock = ap (λ (r : Running). r.clock) c.end.ensures.rest in
    let o : Open = record { line = (slot_at ended k).line; user = c.args.user; start = c.args.time; clock_at = old.clock } in
    let closed_kept = kept-closed old.count old.lines old.slots.items old.listed.items old.ended c.end.new.self.ended k c.requires.running there.0 c.end.ensures.grown in
    let kept = kept-begun old.count old.lines ended old.listed.items c.end.new.self.ended k o closed_kept within (ap (λ (t : Slot). t.is_open) slot) refl c.requires.now in
    let slots : new.slots.items ≡ set ended k (begun o) =
    c.begin.ensures.slots
    ∙ (λ i. set (c.end.ensures.slots i) k (begun (record { line = (slot_at (c.end.ensures.slots i) k).line; user = c.args.user; start = time i; clock_at = clock i }))) in
    let lines : new.lines ≡ old.lines = ap (λ (r : Running). r.lines) c.begin.ensures.rest ∙ ap (λ (r : Running). r.lines) c.end.ensures.rest ∙ c.find.ensures.same in
    let old_listed : c.end.new.self.listed.items ≡ old.listed.items = ap (λ (r : Running). r.listed.items) c.end.ensures.rest in
    let listed : new.listed.items ≡ cond (slot_at ended k).is_listed old.listed.items (old.listed.items ++ k ∷ []) =
    c.begin.ensures.listed
    ∙ (λ i. cond (slot_at (c.end.ensures.slots i) k).is_listed (old_listed i) (old_listed i ++ k ∷ [])) in
    let sums : new.ended ≡ c.end.new.self.ended = ap (λ (r : Running). r.ended) c.begin.ensures.rest in
    subst (λ (l : Numbers). AreKept (old.count + 1) l new.slots.items new.listed.items new.ended) (sym lines)
    (subst (λ (ss : List Slot). AreKept (old.count + 1) old.lines ss new.listed.items new.ended) (sym slots)
    (subst (λ (ls : List ℕ). AreKept (old.count + 1) old.lines (set ended k (begun o)) ls new.ended) (sym listed)
    (subst (λ (s : Ended). AreKept (old.count + 1) old.lines (set ended k (begun o)) (cond (slot_at ended k).is_listed old.listed.items (old.listed.items ++ k ∷ [])) s) (sym sums) kept)))

pub returns-in-Some-clause-room_left : goal.returns-in-Some-clause-room_left
returns-in-Some-clause-room_left c k room =
    let old = c.args.self.now in
    let new = c.begin.new.self in
    let at = c.in-Some.place in
    let there = line_there old.count old.lines old.slots.items old.listed.items old.ended at c.args.line c.requires.running c.in-Some.ensures.found in
    let gone : open_count (set old.slots.items at (closed (slot_at old.slots.items at))) + weight_at one (slot_at old.slots.items at) ≡ open_count old.slots.items + 0 =
    sum_by-set (weight_at one) old.slots.items at (closed (slot_at old.slots.items at)) no_slot there.0 in
    let off = weight-ended old.slots.items at c.args.line there.0 there.1 (line_alone old.count old.lines old.slots.items old.listed.items old.ended at c.args.line c.requires.running c.in-Some.ensures.found) one in
    let opens : open_count new.slots.items ≡ weight_in (off_line c.args.line one) old.slots.items + 1 = returns-in-Some-clause-opens c one in
    let w = weight_at one (slot_at old.slots.items at) in
    let enough : w + (open_count new.slots.items + k) ≤ open_count old.slots.items + (k + 1) = omega (arith, gone, off, opens) in
    let rest = c.begin.ensures.rest in
    let before = c.end.ensures.rest in
    let lines : new.lines ≡ old.lines = ap (λ (r : Running). r.lines) rest ∙ ap (λ (r : Running). r.lines) before ∙ c.find.ensures.same in
    let ended : new.ended ≡ c.end.new.self.ended = ap (λ (r : Running). r.ended) rest in
    let listed_before : c.end.new.self.listed ≡ old.listed = ap (λ (r : Running). r.listed) before in
    let slots_len = ap length c.begin.ensures.slots ∙ length-set _ _ _ ∙ ap length c.end.ensures.slots ∙ length-set _ _ _ in
    let listed_len = at_most_one_more (slot_at c.end.new.self.slots.items at).is_listed c.end.new.self.listed.items at in record {
      lines = subst (λ (l : Numbers). k ≤ l.spare) (sym lines) (omega (arith, room.lines));
      slots = omega (arith, room.slots, slots_len, c.begin.ensures.capacity, c.end.ensures.capacity, new.slots.ok.0, old.slots.ok.0);
      listed = omega (
        arith,
        room.listed,
        ap length c.begin.ensures.listed,
        listed_len,
        ap (λ ls. length ls.items) listed_before,
        c.begin.ensures.room_left,
        ap vec_capacity listed_before,
        new.listed.ok.0,
        old.listed.ok.0,
      );
      ended = subst (HasRoom (open_count new.slots.items + k)) (sym ended) (HasRoom-grown w (open_count new.slots.items + k) old.ended c.end.new.self.ended c.end.ensures.grown (HasRoom-less (w + (open_count new.slots.items + k)) (open_count old.slots.items + (k + 1)) old.ended enough room.ended));
    }

pub returns-in-None-clause-opens : goal.returns-in-None-clause-opens
returns-in-None-clause-opens c weight =
    let old = c.args.self.now in
    let time = to_z-of_z w32 c.args.time c.ranges.time in
    let o : Open = record { line = c.args.line; user = c.args.user; start = c.args.time; clock_at = old.clock } in
    let slots : c.begin_first.new.self.slots.items ≡ old.slots.items ++ begun o ∷ [] =
    c.begin_first.ensures.slots
    ∙ (λ i. old.slots.items ++ begun (record { line = c.args.line; user = c.args.user; start = time i; clock_at = old.clock }) ∷ []) in
    ap (weight_in weight) slots
    ∙ sum_by_push (weight_at weight) old.slots.items (begun o)
    ∙ ap (λ n. n + weight o) (weight-off_none old.slots.items c.args.line (line_none old.count old.lines old.slots.items old.listed.items old.ended c.args.line c.requires.running c.in-None.ensures.absent) weight)

pub returns-in-None-clause-sums : goal.returns-in-None-clause-sums
returns-in-None-clause-sums c asked =
    let old = c.args.self.now in
    let none = weight-on_none old.slots.items c.args.line (line_none old.count old.lines old.slots.items old.listed.items old.ended c.args.line c.requires.running c.in-None.ensures.absent) (weighed old.ended.keeps_sessions asked old.clock c.args.time) in
    let sums = ap (λ (r : Running). measured r.ended asked) c.begin_first.ensures.rest in
    omega (arith, none, sums)

pub returns-in-None-clause-running : goal.returns-in-None-clause-running
returns-in-None-clause-running c =
    let old = c.args.self.now in
    let new = c.begin_first.new.self in
    let time = to_z-of_z w32 c.args.time c.ranges.time in
    let o : Open = record { line = c.args.line; user = c.args.user; start = c.args.time; clock_at = old.clock } in
    let lines : new.lines.entries ≡ old.lines.entries ++ (c.args.line, 0) ∷ [] = c.begin_first.ensures.lines ∙ ap (λ (l : Numbers). l.entries ++ (c.args.line, 0) ∷ []) c.find.ensures.same in
    let kept = kept-first old.count old.lines new.lines old.slots.items old.listed.items old.ended o c.requires.running lines c.in-None.ensures.absent c.requires.now in
    let slots : new.slots.items ≡ old.slots.items ++ begun o ∷ [] =
    c.begin_first.ensures.slots
    ∙ (λ i. old.slots.items ++ begun (record { line = c.args.line; user = c.args.user; start = time i; clock_at = old.clock }) ∷ []) in
    let listed : new.listed.items ≡ old.listed.items ++ length old.slots.items ∷ [] = c.begin_first.ensures.listed ∙ ap (λ k. old.listed.items ++ k ∷ []) old.slots.ok.0 in
    let sums : new.ended ≡ old.ended = ap (λ (r : Running). r.ended) c.begin_first.ensures.rest in
    subst (λ (ss : List Slot). AreKept (old.count + 1) new.lines ss new.listed.items new.ended) (sym slots)
    (subst (λ (ls : List ℕ). AreKept (old.count + 1) new.lines (old.slots.items ++ begun o ∷ []) ls new.ended) (sym listed)
    (subst (λ (s : Ended). AreKept (old.count + 1) new.lines (old.slots.items ++ begun o ∷ []) (old.listed.items ++ length old.slots.items ∷ []) s) (sym sums) kept))
