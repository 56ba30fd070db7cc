use Rattle.std.proofs.Common.{◌≡◌, take}
use Rattle.tally_check.proofs.StayLemmas.{AreWithin}
use Rattle.tally_check.specs.Stays as Spec
use Rattle.tally_check.proofs.stays.weighed.Given as goal

abbrev pub invariant-loop-place : goal.invariant-loop-place
invariant-loop-place l = record {
  value : l.sessions ≡ Spec.weighed (take l.place (Spec.stays_among l.kept.entries));
  within : AreWithin l.sessions l.place;
}
