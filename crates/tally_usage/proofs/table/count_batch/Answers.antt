use Rattle.std.proofs.Common.{◌≡◌, ◌∷◌, ◌+◌, ◌++◌, [], ap, arith, length, length-append, subst, sym, take}
use Rattle.std.proofs.lemmas.Bool.{eqb-true}
use Rattle.std.proofs.lemmas.Cmp.{nat_eq_equiv}
use Rattle.std.proofs.lemmas.List.{length-map, take_all}
use Rattle.tally_records.specs.PackedProc.{record_of, unpacked}
use Rattle.tally_records.specs.declared.process.ProcRecord.{ProcRecord}
use Rattle.tally_usage.specs.Command.{command_of}
use Rattle.tally_usage.specs.Sums.{AreSumsOf, Counted}
use Rattle.tally_usage.specs.Usage.{usage_of}
use Rattle.tally_usage.specs.inside.Keys.{same_command}
use Rattle.tally_usage.proofs.CommandLemmas.{command_laws}
use Rattle.tally_usage.proofs.NumberLemmas.{next_record}
use Rattle.tally_usage.proofs.SumsLemmas.{bounded-both, length-both, one-counted}
use Rattle.tally_usage.proofs.TotalsLemmas.{record-Fits, total-Fits}
use Rattle.tally_usage.proofs.table.count_batch.Goals as goal

pub count_record-requires-clause-command_fits : goal.count_record-requires-clause-command_fits
count_record-requires-clause-command_fits c =
    let ps = c.args.records.now in
    let i = c.loop-process.process-index in
    let rs = c.requires.known.0 in
    let sums = c.requires.known.1 in
    let both = length-both _ rs (unpacked ps) sums in
    let process = sym (next_record rs ps (length rs) i _ (omega arith) (omega arith)) in
    record-Fits command_laws same_command command_of _ (rs ++ unpacked ps) (length rs + i) _ _ _ (c.loop-process.invariant.sums rs sums).commands (bounded-both _ rs (unpacked ps) sums c.requires.bounded)
    (omega (arith, both, c.requires.few, length-map ps record_of)) (omega (arith, length-append rs (unpacked ps), length-map ps record_of))
    (ap command_of process) (ap (λ (r : ProcRecord). usage_of (r ∷ [])) process)

pub count_record-requires-clause-user_fits : goal.count_record-requires-clause-user_fits
count_record-requires-clause-user_fits c =
    let ps = c.args.records.now in
    let i = c.loop-process.process-index in
    let rs = c.requires.known.0 in
    let sums = c.requires.known.1 in
    let both = length-both _ rs (unpacked ps) sums in
    let process = sym (next_record rs ps (length rs) i _ (omega arith) (omega arith)) in
    record-Fits nat_eq_equiv eqb-true (λ (r : ProcRecord). r.uid) _ (rs ++ unpacked ps) (length rs + i) _ _ _ (c.loop-process.invariant.sums rs sums).users (bounded-both _ rs (unpacked ps) sums c.requires.bounded)
    (omega (arith, both, c.requires.few, length-map ps record_of)) (omega (arith, length-append rs (unpacked ps), length-map ps record_of))
    (ap (λ (r : ProcRecord). r.uid) process) (ap (λ (r : ProcRecord). usage_of (r ∷ [])) process)

pub count_record-requires-clause-total_fits : goal.count_record-requires-clause-total_fits
count_record-requires-clause-total_fits c =
    let ps = c.args.records.now in
    let i = c.loop-process.process-index in
    let rs = c.requires.known.0 in
    let sums = c.requires.known.1 in
    let both = length-both _ rs (unpacked ps) sums in
    let process = sym (next_record rs ps (length rs) i _ (omega arith) (omega arith)) in
    total-Fits (rs ++ unpacked ps) (length rs + i) _ _ _ (c.loop-process.invariant.sums rs sums).total (bounded-both _ rs (unpacked ps) sums c.requires.bounded)
    (omega (arith, both, c.requires.few, length-map ps record_of)) (omega (arith, length-append rs (unpacked ps), length-map ps record_of))
    (ap (λ (r : ProcRecord). usage_of (r ∷ [])) process)

pub loop-process-preserved : goal.loop-process-preserved
loop-process-preserved c =
    let ps = c.args.records.now in
    let i = c.loop-process.process-index in
    let counted = c.count_record.ensures in
    let old : Counted = record { commands = c.loop-process.commands.entries; users = c.loop-process.users.entries; total = c.loop-process.total } in
    let new : Counted = record { commands = c.count_record.new.commands.entries; users = c.count_record.new.users.entries; total = c.count_record.new.total } in
    record {
      sums = λ rs sums.
          let both = length-both _ rs (unpacked ps) sums in
          let next : length rs + (i + 1) ≡ length rs + i + 1 = omega arith in
          let process = sym (next_record rs ps (length rs) i _ (omega arith) (omega arith)) in
          subst (λ m. AreSumsOf new (take m (rs ++ unpacked ps))) (sym next)
          (one-counted old new (rs ++ unpacked ps) (length rs + i) _ _ _ _ (bounded-both _ rs (unpacked ps) sums c.requires.bounded)
          (omega (arith, both, c.requires.few, length-map ps record_of)) (omega (arith, length-append rs (unpacked ps), length-map ps record_of))
          (ap command_of process) (ap (λ (r : ProcRecord). r.uid) process) (ap (λ (r : ProcRecord). usage_of (r ∷ [])) process)
          counted.commands counted.users counted.total (c.loop-process.invariant.sums rs sums));
      room_for_commands = omega (arith, counted.room_for_commands, c.loop-process.invariant.room_for_commands);
      room_for_users = omega (arith, counted.room_for_users, c.loop-process.invariant.room_for_users);
    }

pub returns-clause-counted : goal.returns-clause-counted
returns-clause-counted c = λ rs sums.
    let ps = c.args.records.now in
    let whole = take_all (length rs + c.loop-process.process-index) (rs ++ unpacked ps) (omega (arith, length-append rs (unpacked ps), length-map ps record_of)) in
    subst (AreSumsOf (record { commands = c.loop-process.commands.entries; users = c.loop-process.users.entries; total = c.loop-process.total })) whole (c.loop-process.invariant.sums rs sums)
