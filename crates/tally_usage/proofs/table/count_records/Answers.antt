use Rattle.std.proofs.Common.{◌≡◌, ◌∙◌, ◌∷◌, ◌+◌, ◌++◌, ◌<◌, [], ap, arith, length, length-append, subst, sym, take}
use Rattle.std.proofs.lemmas.Bool.{eqb-true}
use Rattle.std.proofs.lemmas.Cmp.{nat_eq_equiv}
use Rattle.std.proofs.lemmas.List.{length-map}
use Rattle.std.specs.Prelude.{nat_eq}
use Rattle.tally_records.specs.PackedProc.{record_of, unpacked}
use Rattle.tally_records.specs.declared.process.ProcRecord.{ProcRecord}
use Rattle.tally_usage.specs.Command.{command_of, is_same_command}
use Rattle.tally_usage.specs.Entries.{kept_in}
use Rattle.tally_usage.specs.Totals.{HasTotals}
use Rattle.tally_usage.specs.Usage.{usage_of}
use Rattle.tally_usage.specs.inside.Entries.{records_in}
use Rattle.tally_usage.specs.inside.Keys.{same_command}
use Rattle.tally_usage.proofs.CommandLemmas.{command_laws}
use Rattle.tally_usage.proofs.NumberLemmas.{kept_of-more, length-records_in, next_record, one-more, own_group, same_kept, same_numbers, within}
use Rattle.tally_usage.proofs.TotalsLemmas.{record-Fits, record-counted, total-Fits, total-counted}
use Rattle.tally_usage.proofs.table.count_records.Goals as goal

pub count_record-place-requires-clause-command_fits : goal.count_record-place-requires-clause-command_fits
count_record-place-requires-clause-command_fits c =
    let before = records_in c.args.commands.now.entries c.args.kept.now.entries in
    let ps = c.args.records.now in
    let n = length c.args.kept.now.entries in
    let len = length-records_in c.args.commands.now.entries c.args.kept.now.entries in
    let process = sym (next_record before ps n c.loop-packed.packed-index _ len (omega arith)) in
    let count = length-append before (unpacked ps) in
    record-Fits command_laws same_command command_of _ (before ++ unpacked ps) (n + c.loop-packed.packed-index) _ _ _ c.loop-packed.invariant.commands c.requires.bounded
    (omega (arith, c.requires.few, len, count, length-map ps record_of)) (omega (arith, len, count, length-map ps record_of))
    (ap command_of process) (ap (λ (r : ProcRecord). usage_of (r ∷ [])) process)

pub count_record-place-requires-clause-user_fits : goal.count_record-place-requires-clause-user_fits
count_record-place-requires-clause-user_fits c =
    let before = records_in c.args.commands.now.entries c.args.kept.now.entries in
    let ps = c.args.records.now in
    let n = length c.args.kept.now.entries in
    let len = length-records_in c.args.commands.now.entries c.args.kept.now.entries in
    let process = sym (next_record before ps n c.loop-packed.packed-index _ len (omega arith)) in
    let count = length-append before (unpacked ps) in
    record-Fits nat_eq_equiv eqb-true (λ (r : ProcRecord). r.uid) _ (before ++ unpacked ps) (n + c.loop-packed.packed-index) _ _ _ c.loop-packed.invariant.users c.requires.bounded
    (omega (arith, c.requires.few, len, count, length-map ps record_of)) (omega (arith, len, count, length-map ps record_of))
    (ap (λ (r : ProcRecord). r.uid) process) (ap (λ (r : ProcRecord). usage_of (r ∷ [])) process)

pub count_record-place-requires-clause-total_fits : goal.count_record-place-requires-clause-total_fits
count_record-place-requires-clause-total_fits c =
    let before = records_in c.args.commands.now.entries c.args.kept.now.entries in
    let ps = c.args.records.now in
    let n = length c.args.kept.now.entries in
    let len = length-records_in c.args.commands.now.entries c.args.kept.now.entries in
    let process = sym (next_record before ps n c.loop-packed.packed-index _ len (omega arith)) in
    let count = length-append before (unpacked ps) in
    total-Fits (before ++ unpacked ps) (n + c.loop-packed.packed-index) _ _ _ c.loop-packed.invariant.total c.requires.bounded
    (omega (arith, c.requires.few, len, count, length-map ps record_of)) (omega (arith, len, count, length-map ps record_of))
    (ap (λ (r : ProcRecord). usage_of (r ∷ [])) process)

pub keep-requires-clause-numbered : goal.keep-requires-clause-numbered
keep-requires-clause-numbered c = same_numbers c.loop-packed.commands.entries c.count_record-place.new.commands.entries _ c.count_record-place.ensures.kept c.loop-packed.kept.entries c.loop-packed.invariant.numbered

pub keep-requires-clause-group : goal.keep-requires-clause-group
keep-requires-clause-group c = within c.loop-packed.commands.entries c.count_record-place.new.commands.entries _ c.count_record-place.ensures.kept c.count_record-place.result c.count_record-place.ensures.place

pub keep-requires-clause-groups : goal.keep-requires-clause-groups
keep-requires-clause-groups c = omega (arith, one-more c.loop-packed.commands.entries c.count_record-place.new.commands.entries _ c.count_record-place.ensures.kept, c.loop-packed.invariant.groups, c.requires.few)

pub keep-requires-clause-named : goal.keep-requires-clause-named
keep-requires-clause-named c = own_group c.loop-packed.commands.entries c.count_record-place.new.commands.entries _ c.count_record-place.ensures.kept c.count_record-place.result c.count_record-place.ensures.place

pub loop-packed-preserved : goal.loop-packed-preserved
loop-packed-preserved c =
    let old = c.loop-packed.commands.entries in
    let new = c.count_record-place.new.commands.entries in
    let before = records_in c.args.commands.now.entries c.args.kept.now.entries in
    let ps = c.args.records.now in
    let n = length c.args.kept.now.entries in
    let i = c.loop-packed.packed-index in
    let len = length-records_in c.args.commands.now.entries c.args.kept.now.entries in
    let rs = before ++ unpacked ps in
    let more : n + i < length rs = omega (arith, len, length-append before (unpacked ps), length-map ps record_of) in
    let next : n + (i + 1) ≡ n + i + 1 = omega arith in
    let process = sym (next_record before ps n i _ len (omega arith)) in
    let usage = ap (λ (r : ProcRecord). usage_of (r ∷ [])) process in
    let with_key = c.count_record-place.ensures.kept in
    record {
      kept = c.keep.ensures.kept ∙ kept_of-more (kept_in c.args.commands.now.entries c.args.kept.now.entries) (kept_in new c.loop-packed.kept.entries) c.args.host ps i _ (omega arith)
          (same_kept old new _ with_key c.loop-packed.kept.entries c.loop-packed.invariant.numbered ∙ c.loop-packed.invariant.kept);
      numbered = c.keep.ensures.numbered;
      groups = omega (arith, one-more old new _ with_key, c.loop-packed.invariant.groups);
      commands = subst (λ m. HasTotals is_same_command command_of new (take m rs)) (sym next) (record-counted command_laws same_command command_of old new rs (n + i) _ _ _ c.loop-packed.invariant.commands more (ap command_of process) usage c.count_record-place.ensures.commands);
      users = subst (λ m. HasTotals nat_eq (λ (r : ProcRecord). r.uid) c.count_record-place.new.users.entries (take m rs)) (sym next)
          (record-counted nat_eq_equiv eqb-true (λ (r : ProcRecord). r.uid) c.loop-packed.users.entries c.count_record-place.new.users.entries rs (n + i) _ _ _ c.loop-packed.invariant.users more (ap (λ (r : ProcRecord). r.uid) process) usage c.count_record-place.ensures.users);
      total = c.count_record-place.ensures.total ∙ total-counted rs (n + i) _ _ _ c.loop-packed.invariant.total more usage ∙ ap (λ m. usage_of (take m rs)) (sym next);
      stored = omega (arith, c.keep.ensures.count, c.loop-packed.invariant.stored);
      room = omega (arith, c.loop-packed.invariant.room, c.keep.ensures.room);
      room_for_commands = omega (arith, c.count_record-place.ensures.room_for_commands, c.loop-packed.invariant.room_for_commands);
      room_for_users = omega (arith, c.count_record-place.ensures.room_for_users, c.loop-packed.invariant.room_for_users);
    }
