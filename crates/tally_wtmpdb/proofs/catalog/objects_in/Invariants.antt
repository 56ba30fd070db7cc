use Rattle.std.proofs.Common.{◌≡◌, map, take}
use Rattle.sqlite_store.specs.Catalog.{wanted_of}
use Rattle.tally_wtmpdb.specs.Catalog.{wanted_in}
use Rattle.tally_wtmpdb.proofs.catalog.objects_in.Given as goal

abbrev pub invariant-objects : goal.invariant-objects
invariant-objects l = map wanted_of l.objects.items ≡ map wanted_in (take l.row-index l.listed)
