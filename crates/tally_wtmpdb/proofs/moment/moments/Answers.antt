use Rattle.std.proofs.Common.{sym, ap, ◌∙◌, ◌++◌, List}
use Rattle.tally_wtmpdb.proofs.Places.{moments_more}
use Rattle.tally_wtmpdb.specs.Moments.{moments_of}
use Rattle.tally_wtmpdb.specs.declared.moment.Moment.{Moment}
use Rattle.tally_wtmpdb.proofs.moment.moments.Goals as goal

pub loop-place-preserved : goal.loop-place-preserved
loop-place-preserved c =
    c.in_ok-push_moments.ensures
    ∙ ap (λ (l : List Moment). l ++ moments_of c.loop-place.place c.index-rows-place.result) c.loop-place.invariant
    ∙ sym (moments_more c.args.rows.now c.loop-place.place c.index-rows-place.result c.loop-place-test.true c.index-rows-place.is)
