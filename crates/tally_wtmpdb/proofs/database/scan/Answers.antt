use Rattle.std.proofs.Common.{arith}
use Rattle.sqlite_trees.specs.View.{IsClean}
use Rattle.tally_wtmpdb.proofs.Scan.{advance, begun}
use Rattle.tally_wtmpdb.proofs.database.scan.Goals as goal

pub rows-init : goal.rows-init
rows-init g c =
    let all = (g.S.Store.view c.args.store.now).trees c.args.tree in
    (c.in_ok-seek.ensures.live, λ clean. (all, begun (g.S.Store.view c.args.store.now) (g.S.Store.view c.seek.new.self) _ _ all (c.in_ok-seek.ensures.ok clean) c.new-row.ensures, rw c.new-all.ensures.items))

pub rows-preserved : goal.rows-preserved
rows-preserved g c =
    let moved = c.in_ok-next.ensures in
    let kept = c.rows.invariant in (
      moved.stay 0 kept.0,
      λ clean.
          let was : IsClean (g.S.Store.view c.rows.store) = omega (arith, moved.quiet.clean, clean) in
          let at = kept.1 was in
          rw c.in_ok-add.ensures.added (advance (g.S.Store.view c.rows.store) (g.S.Store.view c.next.new.self) c.next.new.row c.in_ok-next.field-0 at.0 c.rows.all.items ((g.S.Store.view c.args.store.now).trees c.args.tree) c.if-not-branch.false (moved.ok clean) at.1 at.2),
    )
