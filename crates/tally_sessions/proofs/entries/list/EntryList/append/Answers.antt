use Rattle.std.proofs.Common.{◌≡◌, ◌≤◌, ◌+◌, ◌*◌, ◌++◌, ◌∷◌, [], List, ℕ, length, replicate, ap, sym, subst, ◌∙◌, arith, length-append}
use Rattle.std.proofs.lemmas.Grind.{div_ceil_times}
use Rattle.tally_sessions.specs.declared.entries.batches.StoredBatch.{StoredBatch}
use Rattle.tally_sessions.specs.inside.Stored.{AreMarked, all_of, entries_of}
use Rattle.tally_sessions.proofs.entries.BatchLemmas.{all-last, length-entries_of, one-more}
use Rattle.tally_sessions.proofs.entries.list.EntryList.append.Goals as goal

pub invariant_of-self-2 : goal.invariant_of-self-2
invariant_of-self-2 c =
    let a = c.self.inside in
    let bs : List StoredBatch = a.batches.items in
    let ms : List ℕ = a.marks.items in
    let n = c.saturating_sub-marks.result in
    let number = c.len-2.result in
    let b : StoredBatch = record { host = c.args.host; first = a.count; count = c.args.count; records = c.args.records } in
    let batches : c.push_batch.new.batches.items ≡ bs ++ b ∷ [] = c.push_batch.ensures ∙ ap (λ (xs : List StoredBatch). xs ++ b ∷ []) c.in_ok-reserve-2.ensures.items in
    let marks : c.push_times.new.marks.items ≡ ms ++ replicate n number = c.push_times.ensures ∙ ap (λ (xs : List ℕ). xs ++ replicate n number) c.in_ok-reserve.ensures.items in
    let last : number ≡ length bs = omega (arith, c.len-2.ensures, c.in_ok-reserve-2.ensures.len, a.batches.ok.0) in
    let reach : length (all_of bs) + b.count ≤ 16 * (length ms + n) =
    omega (arith, c.self.invariant.count, div_ceil_times (a.count + c.args.count) 16 (omega arith), c.div_ceil.ensures, c.saturating_sub-marks.ensures, c.len.ensures, a.marks.ok.0) in record {
      count = omega (arith, ap (λ (xs : List StoredBatch). length (all_of xs)) batches, ap length (all-last bs b), length-append (all_of bs) (entries_of b), length-entries_of b c.requires.stored, c.self.invariant.count);
      few = omega (arith, c.self.invariant.count, ap length c.self.view_is, c.requires.room);
      marked =
          subst (λ (xs : List StoredBatch). AreMarked xs c.push_times.new.marks.items) (sym batches)
          (subst (AreMarked (bs ++ b ∷ [])) (sym marks) (one-more bs ms b number n c.self.invariant.marked last c.self.invariant.count c.requires.stored reach));
    }
