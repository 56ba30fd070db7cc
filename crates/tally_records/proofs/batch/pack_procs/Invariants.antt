use Rattle.std.proofs.Common.{◌≡◌, All, drop, vec_len, vec_capacity}
use Rattle.tally_records.specs.Decoding.{decoded}
use Rattle.tally_records.specs.PackedProc.{unpacked}
use Rattle.tally_records.specs.ProcRecord.{IsBounded, proc_result}
use Rattle.tally_records.proofs.Decoded.{behind}
use Rattle.tally_records.proofs.batch.pack_procs.Given as goal

abbrev pub invariant-loop-index : goal.invariant-loop-index
invariant-loop-index l = record {
  room : vec_capacity l.records ≡ vec_capacity l.fn.records;
  len : vec_len l.records ≡ l.index;
  bounded : All IsBounded (unpacked l.records.items);
  told : behind (unpacked l.records.items) (decoded proc_result l.index (drop l.index l.blocks)) ≡ decoded proc_result 0 l.blocks;
}
