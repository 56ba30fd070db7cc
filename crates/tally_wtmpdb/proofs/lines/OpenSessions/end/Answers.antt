use Rattle.std.proofs.Common.{ap, sym, ◌∙◌, ℕ, ◌-◌, Bool, cond, ◌&&◌}
use Rattle.std.proofs.lemmas.Map.Text.{is_eq-slice_cmp}
use Rattle.std.specs.Prelude.{bytes_eq, Option, is_some, unwrap_or}
use Rattle.tally_wtmpdb.proofs.Kept.{set_count}
use Rattle.tally_wtmpdb.specs.inside.Open.{count_in}
use Rattle.tally_wtmpdb.proofs.lines.OpenSessions.end.Goals as goal

pub returns-in_ok-insert-clause-counts : goal.returns-in_ok-insert-clause-counts
returns-in_ok-insert-clause-counts c other =
    ap (λ (o : Option ℕ). unwrap_or o 0) (c.in_ok-insert.ensures.updates.0 other)
    ∙ set_count _ (bytes_eq c.args.text other) c.saturating_sub.result _ (is_eq-slice_cmp c.args.text other)
    ∙ ap (λ n. cond (bytes_eq c.args.text other) n (count_in c.args.self.now other)) (c.saturating_sub.ensures ∙ ap (λ n. n - 1) c.count-count.ensures)
    ∙ ap (λ (b : Bool). cond (b && bytes_eq c.args.text other) (count_in c.args.self.now c.args.text - 1) (count_in c.args.self.now other))
    (sym (ap is_some (sym c.remove-mark.ensures.value) ∙ sym c.is_some.ensures ∙ c.if-is_some.true))
