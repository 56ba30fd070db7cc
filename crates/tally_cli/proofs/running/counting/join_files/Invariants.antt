use Rattle.std.proofs.Common.{◌≡◌, ℕ, ◌<◌, ◌≤◌, length, map}
use Rattle.tally_cli.specs.inside.Files.{HasSums, IsPlaced, count_in}
use Rattle.tally_cli.specs.inside.Parts.{ArePartsWanted, report_lent}
use Rattle.tally_cli.proofs.Summed.{AreFirstSums}
use Rattle.tally_cli.proofs.running.counting.join_files.Given as goal

abbrev pub invariant-loop-host : goal.invariant-loop-host
invariant-loop-host g l = record {
  width : length l.lists.items ≡ l.feeders;
  placed : (k : ℕ) → k < l.files → IsPlaced l.feeders (map (λ v. v.items) l.lists.items) k;
  left : (k : ℕ) → l.host ≤ k → count_in l.feeders (map (λ v. v.items) l.lists.items) k ≡ count_in l.feeders (map (λ v. v.items) l.fn.lists.items) k;
  all : (k : ℕ) → k < l.host → HasSums (count_in l.feeders (map (λ v. v.items) l.fn.lists.items) k);
  parts : ArePartsWanted (report_lent l.report) l.host (count_in l.feeders (map (λ v. v.items) l.fn.lists.items)) l.parts.items;
  sums : AreFirstSums l.files (count_in l.feeders (map (λ v. v.items) l.fn.lists.items)) l.host l.total;
}
