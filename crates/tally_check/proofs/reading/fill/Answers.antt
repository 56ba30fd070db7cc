use Rattle.std.proofs.Common.{◌∙◌, ◌+◌, ◌-◌, ◌++◌, ap, arith, le_refl, length, rules, subst, sym, take}
use Rattle.std.proofs.KnownBytes.{Consumes-trans}
use Rattle.std.proofs.lemmas.Slice.{take-put_mid_below}
use Rattle.std.specs.Io.KnownBytes.{Consumes}
use Rattle.tally_check.proofs.ReadLemmas.{slice_range-put_mid, take_split}
use borrow.Rule.Slice.PartMut.{put_mid}
use Rattle.tally_check.proofs.reading.fill.Goals as goal

pub loop-filled-preserved : goal.loop-filled-preserved
loop-filled-preserved g c =
    let from = c.loop-filled.filled in
    let count = c.in_ok-count.count in
    let block = c.loop-filled.block in
    let room = length block - from in
    let within = c.loop-filled.invariant.within in
    let part = slice_range-put_mid from room count block c.read_through.new.buf within c.in_ok-count.ensures.bound.0 in
    let joined = take_split from (from + count) block (put_mid from room block c.read_through.new.buf) (omega arith) (take-put_mid_below _ _ _ _ _ (le_refl _) within) in
    record {
      within = search rules;
      taken = subst (Consumes _ _) (ap (λ l. take from block ++ l) (sym part) ∙ joined) (Consumes-trans _ _ _ _ _ c.loop-filled.invariant.taken c.in_ok-count.ensures.bytes.0);
    }
