use Rattle.std.proofs.Common.{arith, ap, sym, ◌∙◌, ◌++◌, ◌∷◌, [], List, Bool, Option, map}
use Rattle.std.proofs.lemmas.List.FromFn.{map-range_with_len_more}
use Rattle.std.specs.List.{range_with_len}
use Rattle.tally_wtmpdb.proofs.Kept.{kept_none}
use Rattle.tally_wtmpdb.specs.Lines.{mark_at, open_logins}
use Rattle.tally_wtmpdb.proofs.lines.push_marks.Goals as goal

pub loop-index-init : goal.loop-index-init
unfolding open_logins
loop-index-init c = (c.requires.empty, kept_none c.args.rows.now c.args.moments.now c.new-sessions.result c.new-sessions.ensures.marks c.new-sessions.ensures.counts)

pub loop-index-preserved : goal.loop-index-preserved
loop-index-preserved c =
    let of = mark_at c.args.rows.now c.args.moments.now in
    let i = c.loop-index.index in (
      c.in_ok-push.ensures.items
          ∙ ap (λ (l : List (Option Bool)). l ++ c.in_ok-mark.mark ∷ []) c.loop-index.invariant.0
          ∙ ap (λ (o : Option Bool). map of (range_with_len 0 i) ++ o ∷ []) c.in_ok-mark.ensures.value
          ∙ sym (map-range_with_len_more of 0 i i (omega arith)),
      c.in_ok-mark.ensures.kept,
    )
