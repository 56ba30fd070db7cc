use Rattle.std.proofs.Common.{arith}
use Rattle.tally_records.specs.declared.process.packed.Version.TheVariants.{Two}
use Rattle.tally_records.proofs.PackedLemmas.{packed_is_bounded}
use Rattle.tally_records.proofs.process.packed.pack_version_2.Goals as goal

pub returns-clause-bounded : goal.returns-clause-bounded
returns-clause-bounded c =
    packed_is_bounded (record { uid = _; begin = _; elapsed = c.from.result; user_ticks = _; system_ticks = _; mem = _; io = _; version = Two; flag = _; comm = _ })
    (omega arith) (omega arith) (omega arith) (omega arith)
