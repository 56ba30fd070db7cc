use Rattle.std.proofs.Common.{◌∙◌, ◌+◌, arith, subst, sym, take}
use Rattle.tally_attempts.proofs.CountLemmas.{HasCounts-push, count-fits, none_chosen, one_chosen}
use Rattle.tally_attempts.proofs.table.count_chosen.Goals as goal
use Rattle.tally_attempts.proofs.table.count_chosen.Goals.{in-Some+in_ok-count, in_default}
use Rattle.tally_attempts.specs.Sums.{chosen_attempts}
use Rattle.tally_attempts.specs.inside.Counts.{HasCounts, HasOneMore}
use Rattle.tally_sessions.specs.Lent.{entries_in}

pub count-requires : goal.count-requires
count-requires c =
    count-fits c.args.choice.now (entries_in c.args.entries) c.loop-index.index c.loop-index.table.entries c.of.result c.loop-index.invariant
    (omega (arith, c.len-index-end.ensures, c.loop-index-test.true)) (omega (arith, c.len-index-end.ensures, c.len-index-end.type_inv))

pub loop-index-preserved : goal.loop-index-preserved
loop-index-preserved c =
    let es = entries_in c.args.entries in
    let choice = c.args.choice.now in
    let i = c.loop-index.index in
    let old = c.loop-index.table.entries in
    let rs = chosen_attempts choice (take i es) in
    elim c.match-chosen_at.branch [
      | in-Some+in_ok-count w ↦
          let r = w.in-Some.record in
          let counted = subst (HasOneMore old w.count.new.table.entries) w.of.ensures w.in_ok-count.ensures in
          subst (λ table. HasCounts table (chosen_attempts choice (take (i + 1) es))) (sym (λ j. (w.table-is j).entries))
          (subst (HasCounts w.count.new.table.entries) (sym (one_chosen choice es i (omega (arith, c.len-index-end.ensures, c.loop-index-test.true)) r (sym c.chosen_at.ensures ∙ w.in-Some.is)))
          (HasCounts-push old w.count.new.table.entries rs r c.loop-index.invariant counted))
      | in_default w ↦
          subst (λ table. HasCounts table (chosen_attempts choice (take (i + 1) es))) (sym (λ j. (w.table-is j).entries))
          (subst (HasCounts old) (sym (none_chosen choice es i (omega (arith, c.len-index-end.ensures, c.loop-index-test.true)) (sym c.chosen_at.ensures ∙ w.in_default.is)))
          c.loop-index.invariant)
    ]
