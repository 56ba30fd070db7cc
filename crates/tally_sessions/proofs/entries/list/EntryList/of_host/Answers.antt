use Rattle.std.proofs.Common.{◌<◌, List, length, arith}
use Rattle.tally_sessions.specs.declared.entries.batches.StoredBatch.{StoredBatch}
use Rattle.tally_sessions.proofs.entries.OfHost.{found_next, has_room}
use Rattle.tally_sessions.proofs.entries.list.EntryList.of_host.Goals as goal

pub append_part-requires-clause-room : goal.append_part-requires-clause-room
append_part-requires-clause-room c =
    let bs : List StoredBatch = c.self.inside.batches.items in
    let there : c.loop-number.number < length bs = omega (arith, c.loop-number-test.true, c.len-number-end.ensures, c.self.inside.batches.ok.0) in
    let room = has_room c.args.host c.args.count bs c.self.inside.marks.items c.self.invariant.marked c.loop-number.number c.index.result.now there c.index.ensures c.loop-number.list c.loop-number.invariant.list in
    omega (arith, room, c.self.invariant.count, c.self.invariant.few)

pub loop-number-preserved : goal.loop-number-preserved
loop-number-preserved c =
    let bs : List StoredBatch = c.self.inside.batches.items in
    let there : c.loop-number.number < length bs = omega (arith, c.loop-number-test.true, c.len-number-end.ensures, c.self.inside.batches.ok.0) in record {
      list =
          found_next c.args.host c.args.count bs c.self.inside.marks.items c.self.invariant.marked c.loop-number.number c.index.result.now there c.index.ensures
          c.loop-number.list c.append_part.new.self c.loop-number.invariant.list c.in_ok-append_part.ensures.added;
    }
