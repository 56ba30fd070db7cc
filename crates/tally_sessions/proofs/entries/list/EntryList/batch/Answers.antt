use Rattle.std.proofs.Common.{◌≡◌, List, get_or, ap, sym, subst, ◌∙◌, arith}
use Rattle.tally_sessions.specs.declared.entries.batches.StoredBatch.{StoredBatch}
use Rattle.tally_sessions.specs.declared.entry.Entry.{Entry}
use Rattle.tally_sessions.specs.inside.Stored.{Holds, IsBatchOf, IsPlaced, all_of}
use Rattle.tally_sessions.proofs.entries.BatchLemmas.{placed-holds}
use Rattle.tally_sessions.proofs.entries.list.EntryList.batch.Goals as goal

here : (c : goal.After-index-batches-batch_of) → Holds (all_of c.self.inside.batches.items) c.index-batches-batch_of.result
here c =
    let bs : List StoredBatch = c.self.inside.batches.items in
    let k = c.batch_of.result in
    let b : StoredBatch = c.index-batches-batch_of.result in
    let of : IsBatchOf bs c.args.at k = subst (λ (xs : List StoredBatch). IsBatchOf xs c.args.at k) c.as_slice-batches.ensures.value c.batch_of.ensures in
    let is : b ≡ get_or bs k b = c.index-batches-batch_of.is ∙ ap (λ (xs : List StoredBatch). get_or xs k b) c.as_slice-batches.ensures.value in
    let placed : IsPlaced bs k b = subst (IsPlaced bs k) (sym is) (c.self.invariant.marked.placed k b of.names) in
    placed-holds bs k b of.names is placed

pub returns-clause-held : goal.returns-clause-held
returns-clause-held c = subst (λ (es : List Entry). Holds es c.index-batches-batch_of.result) c.self.view_is (here c)

pub returns-clause-few : goal.returns-clause-few
returns-clause-few c = omega (arith, (here c).within, c.self.invariant.count, c.self.invariant.few)
