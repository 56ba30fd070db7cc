use Rattle.std.proofs.Common.{◌≡◌, ◌<◌, ◌≤◌, ℕ, ℤ, List, pos, neg_ℤ, ◌+ℤ◌, ◌-ℤ◌, ◌≤ℤ◌, FitsSigned, length, set, arith, to_z, of_z, w64}
use Rattle.std.proofs.lemmas.Int.{ints}
use Rattle.std.proofs.Math.ListN.{length-set}
use Rattle.std.specs.Prelude.{unsigned_abs}
use Rattle.tally_sessions.proofs.connect.CountLemmas.{counted, IsCounted, IsMoreAt, set_more, size_at, size_more}
use Rattle.tally_sessions.specs.inside.Changes.{change_at}
use Rattle.tally_sessions.specs.inside.Counts.{size_of}
use Rattle.tally_sessions.proofs.connect.day_sums.count_rows.Goals as goal

abbrev kept : ℤ → ℤ
kept z = to_z w64 (of_z w64 z)

-- a number as small as counts are
record IsFew (z : ℤ) : Type 0 where
  low : neg_ℤ (pos 33554433) ≤ℤ z
  high : z ≤ℤ pos 33554433

few : (z : ℤ) → unsigned_abs z ≤ 33554433 → IsFew z
few z le = record { low = by_low z le; high = by_high z le }
  where
    by_low : (z : ℤ) → unsigned_abs z ≤ 33554433 → neg_ℤ (pos 33554433) ≤ℤ z
    by_low z le = grind (arith, ints)

    by_high : (z : ℤ) → unsigned_abs z ≤ 33554433 → z ≤ℤ pos 33554433
    by_high z le = grind (arith, ints)

one_more : (z : ℤ) → IsFew z → FitsSigned w64 (kept z +ℤ pos 1) × (kept (kept z +ℤ pos 1) ≡ z +ℤ pos 1)
one_more z h = let low = h.low in let high = h.high in (omega (arith, ints), omega (arith, ints))

one_less : (z : ℤ) → IsFew z → FitsSigned w64 (kept z -ℤ pos 1) × (kept (kept z -ℤ pos 1) ≡ z +ℤ neg_ℤ (pos 1))
one_less z h = let low = h.low in let high = h.high in (omega (arith, ints), omega (arith, ints))

-- the counts with one more
abbrev mid : List ℤ → ℕ → List ℤ
mid xs from = set xs from (kept (kept (change_at xs from) +ℤ pos 1))

few_at : (xs : List ℤ) (from : ℕ) → from < length xs → size_of (change_at xs) (length xs) ≤ 33554432 → IsFew (change_at xs from)
few_at xs from within small = few (change_at xs from) (let one = size_at (change_at xs) from (length xs) within in omega arith)

mid_more : (xs : List ℤ) (from : ℕ) → from < length xs → size_of (change_at xs) (length xs) ≤ 33554432 → IsMoreAt (change_at xs) (change_at (mid xs from)) from (pos 1)
mid_more xs from within small = set_more xs from _ (pos 1) within (one_more (change_at xs from) (few_at xs from within small)).1

few_mid : (xs : List ℤ) (from to : ℕ) → from < length xs → to < length xs → size_of (change_at xs) (length xs) ≤ 33554432 → IsFew (change_at (mid xs from) to)
few_mid xs from to within within' small =
    few (change_at (mid xs from) to)
    (let one = size_at (change_at (mid xs from)) to (length xs) within' in
    let two = size_more (change_at xs) (change_at (mid xs from)) from (length xs) (pos 1) within (mid_more xs from within small) in
    omega arith)

all : (xs : List ℤ) (from to : ℕ) → from < length xs → to < length xs → size_of (change_at xs) (length xs) ≤ 33554432
    → IsCounted (change_at xs) (change_at (set (mid xs from) to (kept (kept (change_at (mid xs from) to) -ℤ pos 1)))) from to (length xs)
all xs from to within within' small =
    counted (change_at xs) (change_at (mid xs from)) (change_at (set (mid xs from) to (kept (kept (change_at (mid xs from) to) -ℤ pos 1)))) from to (length xs) within within' (mid_more xs from within small)
    (set_more (mid xs from) to _ (neg_ℤ (pos 1)) (simp length-set within') (one_less (change_at (mid xs from) to) (few_mid xs from to within within' small)).1)

pub overflow_add-counts : goal.overflow_add-counts
overflow_add-counts c = (one_more (change_at c.args.counts.now c.args.from) (few_at c.args.counts.now c.args.from c.requires.from_in c.requires.small)).0

pub overflow_sub-counts : goal.overflow_sub-counts
overflow_sub-counts c = (one_less (change_at (mid c.args.counts.now c.args.from) c.args.to) (few_mid c.args.counts.now c.args.from c.args.to c.requires.from_in c.requires.to_in c.requires.small)).0

pub returns-clause-value : goal.returns-clause-value
returns-clause-value c = (all c.args.counts.now c.args.from c.args.to c.requires.from_in c.requires.to_in c.requires.small).value

pub returns-clause-two : goal.returns-clause-two
returns-clause-two c = (all c.args.counts.now c.args.from c.args.to c.requires.from_in c.requires.to_in c.requires.small).two
