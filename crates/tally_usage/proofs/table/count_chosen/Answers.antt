use Rattle.std.proofs.Common.{◌≡◌, ◌∷◌, ◌+◌, ◌++◌, ◌<◌, ◌∙◌, ℕ, zero, suc, true, List, [], All, ap, arith, get_or, length, subst, sym}
use Rattle.std.proofs.lemmas.List.{get_or-map, length-map, take_all}
use Rattle.tally_records.specs.PackedProc.{record_of, unpacked}
use Rattle.tally_records.specs.ProcRecord.{IsBounded}
use Rattle.tally_records.specs.declared.process.ProcRecord.{ProcRecord}
use Rattle.tally_records.specs.declared.process.packed.PackedProc.{PackedProc}
use Rattle.tally_usage.specs.Choice.{chosen, is_chosen, is_every_proc}
use Rattle.tally_usage.specs.declared.choice.ProcChoice.{ProcChoice}
use Rattle.tally_usage.specs.Sums.{AreSumsOf, Counted, CountsMore}
use Rattle.tally_usage.proofs.ChoiceLemmas.{HasCountedTo, count_to, every_is_chosen, one_to, passed_to}
use Rattle.tally_usage.proofs.table.count_chosen.Goals as goal
use Rattle.tally_usage.proofs.table.count_chosen.Goals.{then-is_every, then-is_every-via-then-is_every, then-is_every-via-else-is_every+then-has, else-is_every+else-has}

only : (P : ProcRecord → Type 0) (x : ProcRecord) → P x → All P (x ∷ [])
only P x h zero d l = h
only P x h (suc k) d l = absurd (omega (arith, l))

-- the record at a place, by itself
module _ (ps : List PackedProc) (i : ℕ) (within : i < length ps) (p : PackedProc) where
  here : get_or (unpacked ps) i (record_of p) ≡ record_of (get_or ps i p)
  here = get_or-map record_of ps i p (record_of p) within

  alone : (xs : List PackedProc) → xs ≡ get_or ps i p ∷ [] → unpacked xs ≡ get_or (unpacked ps) i (record_of p) ∷ []
  alone xs is = ap unpacked is ∙ ap (λ r. r ∷ []) (sym here)

  bounded_alone : (xs : List PackedProc) → xs ≡ get_or ps i p ∷ [] → All IsBounded (unpacked ps) → All IsBounded (unpacked xs)
  bounded_alone xs is bounded = subst (All IsBounded) (sym (alone xs is)) (only IsBounded _ (bounded i (record_of p) (omega (arith, within, length-map ps record_of))))

-- a record more, where all are chosen
every_to : (choice : ProcChoice) (rs : List ProcRecord) (old : Counted) (i : ℕ) (d : ProcRecord) → i < length rs → (now : Counted) → HasCountedTo choice rs old i now → (new : Counted)
    → is_every_proc choice ≡ true → CountsMore now new (get_or rs i d ∷ []) → HasCountedTo choice rs old (i + 1) new
every_to choice rs old i d within now before new every more = one_to choice rs old i d within now before new (every_is_chosen choice every (get_or rs i d)) more

pub count_batch-requires-clause-few : goal.count_batch-requires-clause-few
count_batch-requires-clause-few c =
    let old : Counted = record { commands = c.args.commands.now.entries; users = c.args.users.now.entries; total = c.args.total.now } in
    let now : Counted = record { commands = c.loop-process.commands.entries; users = c.loop-process.users.entries; total = c.loop-process.total } in
    omega (arith, count_to c.args.choice.now (unpacked c.args.records.now) old c.loop-process.process-index now c.requires.known.0 c.requires.known.1 c.loop-process.invariant.counted, c.requires.few, c.loop-process-test.true, c.from_ref.ensures.len)

pub count_batch-requires-clause-bounded : goal.count_batch-requires-clause-bounded
count_batch-requires-clause-bounded c = bounded_alone c.args.records.now c.loop-process.process-index c.loop-process-test.true _ c.from_ref.result.now c.from_ref.ensures.value c.requires.bounded

pub loop-process-preserved : goal.loop-process-preserved
loop-process-preserved c =
    let ps = c.args.records.now in
    let i = c.loop-process.process-index in
    let choice = c.args.choice.now in
    let old : Counted = record { commands = c.args.commands.now.entries; users = c.args.users.now.entries; total = c.args.total.now } in
    let now : Counted = record { commands = c.loop-process.commands.entries; users = c.loop-process.users.entries; total = c.loop-process.total } in
    let within : i < length (unpacked ps) = omega (arith, c.loop-process-test.true, length-map ps record_of) in
    elim c.if-is_every.branch [
      | then-is_every w ↦
          let new : Counted = record { commands = w.count_batch.new.commands.entries; users = w.count_batch.new.users.entries; total = w.count_batch.new.total } in
          let more = subst (CountsMore now new) (alone ps i c.loop-process-test.true _ w.from_ref.result.now w.from_ref.ensures.value) w.count_batch.ensures.counted in
          let counted : HasCountedTo choice (unpacked ps) old (i + 1) new = elim w.then-is_every.branch [
            | then-is_every-via-then-is_every v ↦ every_to choice (unpacked ps) old i _ within now c.loop-process.invariant.counted new (sym c.is_every-is_every.ensures ∙ v.if-is_every.true) more
            | then-is_every-via-else-is_every+then-has v ↦ one_to choice (unpacked ps) old i _ within now c.loop-process.invariant.counted new
                (ap (is_chosen choice) (here ps i c.loop-process-test.true _ ∙ sym v.record.ensures.value) ∙ sym v.has.ensures ∙ v.if-has.true) more
          ] in
          rw (w.commands-is, w.users-is, w.total-is) (record {
            counted = counted;
            room_for_commands = omega (arith, w.count_batch.ensures.room_for_commands, w.from_ref.ensures.len, c.loop-process.invariant.room_for_commands);
            room_for_users = omega (arith, w.count_batch.ensures.room_for_users, w.from_ref.ensures.len, c.loop-process.invariant.room_for_users);
          })
      | else-is_every+else-has w ↦ rw (w.commands-is, w.users-is, w.total-is) (record {
        counted = passed_to choice (unpacked ps) old i _ within now c.loop-process.invariant.counted (ap (is_chosen choice) (here ps i c.loop-process-test.true _ ∙ sym w.record.ensures.value) ∙ sym w.has.ensures ∙ w.if-has.false);
        room_for_commands = omega (arith, c.loop-process.invariant.room_for_commands);
        room_for_users = omega (arith, c.loop-process.invariant.room_for_users);
      })
    ]

pub returns : goal.returns
returns c = λ rs sums.
    let ps = c.args.records.now in
    let whole = take_all c.loop-process.process-index (unpacked ps) (omega (arith, length-map ps record_of, c.loop-process-test.false)) in
    subst (λ l. AreSumsOf (record { commands = c.loop-process.commands.entries; users = c.loop-process.users.entries; total = c.loop-process.total }) (rs ++ chosen c.args.choice.now l)) whole (c.loop-process.invariant.counted rs sums)
