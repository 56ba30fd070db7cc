-- Worked values: objects that a database lists, and which of them is the table of wtmpdb.
use Rattle.std.proofs.Common.{◌≡◌, ℕ, true, false, List, [], ◌∷◌, ◌++◌, map, Some, None, refl}
use Rattle.std.specs.Prelude.{codes, pos}
use Rattle.sqlite_trees.specs.declared.store.Shape.TheVariants.{Index, Pageless, Table}
use Rattle.sqlite_value.specs.Order.{Row}
use Rattle.sqlite_value.specs.declared.value.Value.TheVariants.{Int, Text, Blob}
use Rattle.tally_wtmpdb.specs.Catalog.{ascending, is_wtmp, shape_of, wtmp_place}

abbrev object : List ℕ → List ℕ → List ℕ → List ℕ → Row
object type name table sql = Int (pos 1) ∷ Text type ∷ Text name ∷ Text table ∷ Int (pos 2) ∷ Text sql ∷ []

abbrev columns : List ℕ
columns = codes "CREATE TABLE wtmp(ID INTEGER PRIMARY KEY, Type INTEGER, User TEXT NOT NULL, Login INTEGER, Logout INTEGER, TTY TEXT, RemoteHost TEXT, Service TEXT"

abbrev wtmp : List ℕ → Row
wtmp more = object (codes "table") (codes "wtmp") (codes "wtmp") (columns ++ more)

abbrev index : Row
index = object (codes "index") (codes "by_user") (codes "wtmp") (codes "CREATE INDEX by_user ON wtmp(User)")

-- as wtmpdb makes it, and with a column more
tables : map is_wtmp (wtmp (codes ") STRICT") ∷ wtmp (codes ", Seat TEXT) STRICT") ∷ wtmp (codes ")") ∷ []) ≡ true ∷ true ∷ true ∷ []
tables = refl

-- an index, a table of another name, a view of this name, a column of another name, and a text that ends early
others : map is_wtmp (index ∷ object (codes "table") (codes "wtmp2") (codes "wtmp2") (columns ++ codes ")") ∷ object (codes "view") (codes "wtmp") (codes "wtmp") (columns ++ codes ")")
    ∷ wtmp (codes "Name TEXT)") ∷ wtmp [] ∷ (Int (pos 1) ∷ Text (codes "table") ∷ Text (codes "wtmp") ∷ Text (codes "wtmp") ∷ Int (pos 2) ∷ Blob (columns ++ codes ")") ∷ []) ∷ [])
    ≡ false ∷ false ∷ false ∷ false ∷ false ∷ false ∷ []
others = refl

-- the first of two that would do, and none
places : map wtmp_place ((index ∷ wtmp (codes ")") ∷ wtmp (codes ",") ∷ []) ∷ (index ∷ []) ∷ [] ∷ []) ≡ Some 1 ∷ None ∷ None ∷ []
places = refl

shapes : map shape_of (codes "table" ∷ codes "index" ∷ codes "view" ∷ codes "trigger" ∷ codes "TABLE" ∷ []) ≡ Table ∷ Index ascending ∷ Pageless ∷ Pageless ∷ Pageless ∷ []
shapes = refl
