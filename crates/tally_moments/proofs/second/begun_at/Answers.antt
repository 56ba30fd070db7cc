use Rattle.std.proofs.Common.{rules, of_calls, int_le, ◌≡◌, sym}
use Rattle.std.proofs.lemmas.Fn.{always_returns_same}
use Rattle.jiff_tz.proofs.TzifLemmas.{prefix_from_point, le_below}
use Rattle.tally_clock.specs.Rows.{IsRising, no_row}
use Rattle.tally_clock.proofs.RowLemmas.{rises_by}
use Rattle.tally_moments.proofs.second.begun_at.Goals as goal

pub returns-clause-value : goal.returns-clause-value
returns-clause-value c =
    let rows = c.args.clock.now.rows in
    let same : c.rows.result.now ≡ rows = search rules in
    let rising : IsRising c.rows.result.now = search rules in
    let point = c.partition_point.ensures.partitioned (λ r. int_le r.from c.args.time) (always_returns_same _ _ _ (λ a r f k. search (rules, of_calls)))
    (λ i j d l m up. le_below _ _ _ (rises_by c.rows.result.now d rising i j l m) up) in
    rw (sym same) (sym (prefix_from_point (λ r. int_le r.from c.args.time) c.rows.result.now c.partition_point.result no_row c.partition_point.ensures.bound point))
