use Rattle.std.proofs.Common.{◌≡◌, ◌<◌, ℕ, List, None, get_or, length}
use Rattle.std.specs.Prelude.{nat_eq}
use Rattle.tally_records.specs.Choice.{is_name}
use Rattle.tally_sessions.specs.inside.Numbers.{StandsAt}
use Rattle.tally_sessions.proofs.track.name_table.NameTable.places_among.Given as goal

abbrev pub invariant-loop-k : goal.invariant-loop-k
invariant-loop-k l = record {
  len : length l.places ≡ 8;
  filled : (k : ℕ) → k < l.k → (place : ℕ) (user : List ℕ) → StandsAt l.self place user → place < 4294967295 → nat_eq (get_or l.places k 0) place ≡ is_name user (get_or l.names k None);
}
