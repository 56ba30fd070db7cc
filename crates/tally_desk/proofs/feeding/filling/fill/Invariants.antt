use Rattle.std.proofs.Common.{◌≡◌, ◌-◌, ◌≤◌, length, take}
use Rattle.std.specs.Io.KnownBytes.{Consumes}
use Rattle.tally_desk.proofs.feeding.filling.fill.Given as goal

abbrev pub invariant-loop-filled : goal.invariant-loop-filled
invariant-loop-filled g l = record {
  within : l.filled ≤ length l.block;
  taken : Consumes (g.I.Input.to_come l.initial.input) (g.I.Input.to_come l.input) (take l.filled l.block);
  nature : g.I.Input.can_fail l.input ≡ g.I.Input.can_fail l.initial.input;
  failures : g.I.Input.failures l.input ≡ g.I.Input.failures l.initial.input;
}

abbrev pub decreases-loop-filled : goal.decreases-loop-filled
decreases-loop-filled g l = length l.block - l.filled
