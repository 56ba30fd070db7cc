use Rattle.std.proofs.Common.{ap, ◌∙◌, ◌++◌, List, [], ℕ, arith, length, Bool, Option, None, Some, get_or}
use Rattle.std.proofs.lemmas.List.FromFn.{length-map-range_with_len}
use Rattle.std.specs.List.{cons_option}
use Rattle.std.specs.Prelude.{flat_map, pos}
use Rattle.tally_wtmpdb.proofs.Recorded.{one_more_record}
use Rattle.tally_wtmpdb.specs.Lines.{mark_at}
use Rattle.tally_wtmpdb.specs.Made.{bytes_of, made_if}
use Rattle.tally_wtmpdb.specs.declared.moment.Moment.{Moment}
use Rattle.tally_wtmpdb.specs.declared.moment.What.TheVariants.{Logout}
use Rattle.tally_wtmpdb.proofs.record.push_moments.Goals as goal

pub bounds-marks-index : goal.bounds-marks-index
bounds-marks-index c =
    omega (arith, c.loop-index-test.true, ap (λ (l : List (Option Bool)). length l) c.requires.marks, length-map-range_with_len (mark_at c.args.rows.now c.args.moments.now) 0 (length c.args.moments.now))

pub loop-index-preserved : goal.loop-index-preserved
loop-index-preserved c =
    let first : Moment = record { micros = pos 0; what = Logout; place = 0 } in
    let rows = c.args.rows.now in
    let moments = c.args.moments.now in
    let marks = c.args.marks.now in
    let index = c.loop-index.index in
    c.in_ok-push_moment.ensures
    ∙ ap (λ (l : List ℕ). l ++ flat_map bytes_of (cons_option (made_if rows (get_or marks index None) (Some (get_or moments index first))) [])) c.loop-index.invariant
    ∙ one_more_record rows moments marks index first None c.loop-index-test.true c.requires.marks
