use Rattle.std.proofs.Common.{length, rules, sym, ◌≤◌, FitsSigned, w32}
use Rattle.std.proofs.lemmas.Int.{to_z-of_z}
use Rattle.tally_print.proofs.LocalLemmas.{count_by_ends}
use Rattle.tally_print.proofs.local.Local.count_near.Goals as goal

pub returns-then-ends_there-clause-value : goal.returns-then-ends_there-clause-value
returns-then-ends_there-clause-value c =
    let rows = c.args.self.now.clock.now.rows in
    let is = c.rows-rows.ensures.value in
    let fits : FitsSigned w32 c.args.time = c.ranges.time in
    let time = to_z-of_z w32 c.args.time fits in
    let begun = rw (is, time) at c.if-has_begun.ensures in
    let over = rw (is, time) at c.if-ends_there.ensures in
    let within : c.args.guess ≤ length rows = search rules in
    sym (count_by_ends rows c.args.time c.args.guess c.rows-rows.ensures.rising within begun over)
