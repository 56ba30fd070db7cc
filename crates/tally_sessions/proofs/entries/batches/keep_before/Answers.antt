use Rattle.std.proofs.Common.{◌≡◌, ◌≤◌, ◌<◌, ◌+◌, ◌-◌, ◌⊎◌, inl, inr, get_or, take, ℕ, List, refl, sym, subst, arith}
use Rattle.std.proofs.lemmas.Grind.{div_ceil_times}
use Rattle.tally_sessions.specs.declared.entries.batches.StoredBatch.{StoredBatch}
use Rattle.tally_sessions.specs.inside.Stored.{AreMarked, IsPlaced, all_of}
use Rattle.tally_sessions.proofs.entries.BatchLemmas.{batch-from, batch-to}
use Rattle.tally_sessions.proofs.entries.Front.{front-all, front-marked}
use Rattle.tally_sessions.proofs.entries.batches.keep_before.Goals.{then-batch-eq0, else-batch-eq0}
use Rattle.tally_sessions.proofs.entries.batches.keep_before.Goals as goal

after : (c : goal.After-truncate-2) → AreMarked c.truncate.new.self.items c.truncate-2.new.self.items × (all_of c.truncate.new.self.items ≡ take c.args.count (all_of c.args.batches.now.items))
after c =
    let bs : List StoredBatch = c.args.batches.now.items in
    let b : StoredBatch = c.index_mut-batch.result.now in
    let k : ℕ = c.args.number in
    let n : ℕ = c.args.count in
    let of = c.requires.of in
    let is : b ≡ get_or bs k b = c.index_mut-batch.ensures.value in
    let placed : IsPlaced bs k b = subst (IsPlaced bs k) (sym is) (c.requires.marked.placed k b of.names) in
    let from : b.first ≤ n = batch-from bs n k b is placed of in
    let to : n < b.first + b.count = batch-to bs n k b is placed of in
    let part : n - b.first < b.count = omega (arith, from, to) in
    let kept : ((n - b.first ≡ 0) × (c.if-batch-eq0.kept ≡ k)) ⊎ (c.if-batch-eq0.kept ≡ k + 1) =
    elim c.if-batch-eq0.branch [ then-batch-eq0 w ↦ inl (w.if-batch-eq0.true, w.kept-is) | else-batch-eq0 w ↦ inr w.kept-is ] in
    let marks = div_ceil_times n 16 (omega arith) in (
      front-marked bs k n (n - b.first) b of.names is placed from refl part c.truncate.new.self.items c.if-batch-eq0.kept c.truncate.ensures.items kept
          c.args.marks.now.items c.truncate-2.new.self.items c.div_ceil.result c.requires.marked of.to c.truncate-2.ensures.items
          (omega (arith, marks, c.div_ceil.ensures)) (omega (arith, marks, c.div_ceil.ensures)),
      front-all bs k n (n - b.first) b of.names is placed from refl part c.truncate.new.self.items c.if-batch-eq0.kept c.truncate.ensures.items kept,
    )

pub returns-clause-marked : goal.returns-clause-marked
returns-clause-marked c = (after c).0

pub returns-clause-kept : goal.returns-clause-kept
returns-clause-kept c = (after c).1
