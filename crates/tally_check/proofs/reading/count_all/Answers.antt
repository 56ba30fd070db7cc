use Rattle.std.proofs.Common.{◌∙◌, subst}
use Rattle.tally_check.proofs.ReadLemmas.{SoFar, goes-on}
use Rattle.tally_check.proofs.reading.count_all.Goals as goal

pub loop-is_last-preserved : goal.loop-is_last-preserved
loop-is_last-preserved g c =
    let more = c.in_ok-is_last.ensures in
    let goes = c.loop-is_last-test.true in
    let so_far = subst (SoFar _ _ _ _) goes c.loop-is_last.invariant.so_far in
    record {
      room = more.room;
      guess = more.guess ∙ c.loop-is_last.invariant.guess;
      so_far = goes-on _ _ _ _ _ _ _ c.in_ok-is_last.is_last so_far more.counted;
    }
