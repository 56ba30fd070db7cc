use Rattle.std.proofs.Common.{ap, ◌∙◌, ℕ, ◌+◌, cond}
use Rattle.std.proofs.lemmas.Map.Text.{is_eq-slice_cmp}
use Rattle.std.specs.Prelude.{bytes_eq, Option, unwrap_or}
use Rattle.tally_wtmpdb.proofs.Kept.{set_count}
use Rattle.tally_wtmpdb.specs.inside.Open.{count_in}
use Rattle.tally_wtmpdb.proofs.lines.OpenSessions.begin.Goals as goal

pub returns-clause-counts : goal.returns-clause-counts
returns-clause-counts c other =
    ap (λ (o : Option ℕ). unwrap_or o 0) (c.in_ok-insert.ensures.updates.0 other)
    ∙ set_count _ (bytes_eq c.args.text other) (c.count-count.result + 1) _ (is_eq-slice_cmp c.args.text other)
    ∙ ap (λ n. cond (bytes_eq c.args.text other) (n + 1) (count_in c.args.self.now other)) c.count-count.ensures
