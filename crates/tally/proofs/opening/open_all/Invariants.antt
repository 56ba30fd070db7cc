use Rattle.std.specs.Prelude.{◌≡◌, length}
use Rattle.std.specs.List.{All}
use Rattle.tally.specs.Opened.{IsSourceAt}
use Rattle.tally.specs.Places.{AllAt}
use Rattle.tally_cli.specs.Runs.{IsReadable}
use Rattle.tally.proofs.opening.open_all.Given as goal

abbrev pub invariant-loop-at : goal.invariant-loop-at
invariant-loop-at g l = record {
  count : length l.sources.items ≡ l.at;
  each : AllAt (IsSourceAt (g.O.Opens.opens l.opener) l.files) l.sources.items;
  readable : All (IsReadable (λ input. input.failures)) l.sources.items;
}
