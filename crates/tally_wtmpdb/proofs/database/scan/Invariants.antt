use Rattle.std.proofs.Common.{◌≡◌, ◌++◌, List, Some, IsSome}
use Rattle.sqlite_value.specs.Order.{Row}
use Rattle.sqlite_trees.specs.View.{IsClean}
use Rattle.tally_wtmpdb.proofs.database.scan.Given as goal

abbrev pub invariant-rows : goal.invariant-rows
invariant-rows g l =
    let now = g.S.Store.view l.store in
    IsSome (now.cursors 0) × (IsClean now → (left : List Row) × (now.cursors 0 ≡ Some left) × (l.all.items ++ left ≡ (g.S.Store.view l.fn.store).trees l.fn.tree))
