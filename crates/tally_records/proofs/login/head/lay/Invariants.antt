use Rattle.std.proofs.Common.{◌≡◌, ◌++◌, ◌*◌, length, drop, take}
use Rattle.tally_records.specs.inside.Compact.Layout.{bytes_of}
use Rattle.tally_records.proofs.login.head.lay.Given as goal

abbrev pub invariant-loop-k : goal.invariant-loop-k
invariant-loop-k l = record {
  len : length l.field ≡ length l.fn.field;
  laid : l.field ≡ bytes_of (take l.k l.words) ++ drop (8 * l.k) l.fn.field;
}
