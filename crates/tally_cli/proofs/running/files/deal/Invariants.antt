use Rattle.std.proofs.Common.{◌≡◌, ℕ, ◌<◌, Some, length, map, drop}
use Rattle.std.specs.List.{All}
use Rattle.std.specs.Prelude.{slice_index_or}
use Rattle.tally_cli.specs.inside.Files.{IsUncounted, file_in, untried}
use Rattle.tally_cli.proofs.Turns.{AreLong}
use Rattle.tally_cli.proofs.running.files.deal.Given as goal

abbrev pub invariant-loop-host : goal.invariant-loop-host
invariant-loop-host g l = record {
  sources : l.sources.items ≡ drop l.host l.fn.sources.items;
  width : length l.lists.items ≡ l.feeders;
  long : AreLong l.feeders l.host (map (λ v. v.items) l.lists.items);
  dealt : (k : ℕ) (s : _) → k < l.host → file_in l.feeders (map (λ v. v.items) l.lists.items) k ≡ Some (untried (slice_index_or l.fn.sources.items k s));
  uncounted : All (λ v. All (IsUncounted g.I.Input.failures) v.items) l.lists.items;
}
