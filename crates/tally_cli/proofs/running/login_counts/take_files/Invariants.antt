use Rattle.std.proofs.Common.{◌≡◌, ℕ, ◌<◌, ◌≤◌, length, map, vec_capacity}
use Rattle.std.specs.Prelude.{sum_by}
use Rattle.tally_cli.specs.inside.Files.{IsPlaced, count_in}
use Rattle.tally_cli.specs.inside.LoginCounts.{AreTaken, counted_before}
use Rattle.tally_cli.proofs.running.login_counts.take_files.Given as goal

abbrev pub invariant-loop-host : goal.invariant-loop-host
invariant-loop-host g l = record {
  width : length l.lists.items ≡ l.feeders;
  placed : (k : ℕ) → k < l.files → IsPlaced l.feeders (map (λ v. v.items) l.lists.items) k;
  left : (k : ℕ) → l.host ≤ k → count_in l.feeders (map (λ v. v.items) l.lists.items) k ≡ count_in l.feeders (map (λ v. v.items) l.fn.lists.items) k;
  taken : AreTaken l.host (count_in l.feeders (map (λ v. v.items) l.fn.lists.items)) l.counts.items;
  sum : sum_by (λ c. c.count) l.counts.items ≡ l.counted;
  counted : l.counted ≡ counted_before (count_in l.feeders (map (λ v. v.items) l.fn.lists.items)) l.host;
  few : l.counted ≤ l.room;
  capacity : l.files ≤ vec_capacity l.counts;
}
