-- What a database lists in `sqlite_schema`, each object by a number, its type, its name, its table, its root page and its SQL text, and
-- which of these is the table of wtmpdb.
use Rattle.std.specs.Prelude.{ℕ, Bool, ◌&&◌, ◌||◌, ◌==◌, bytes_eq, nat_eq, if◌then◌else◌, List, [], ◌∷◌, codes, length, position, slice_index, Option, IsUtf8, ⊤}
use Rattle.std.specs.List.{list_any, starts_with}
use Rattle.sqlite_pages.specs.PageMap.{PageMap}
use Rattle.sqlite_pool.specs.File.{in_use}
use Rattle.sqlite_store.specs.Db.{rows_at}
use Rattle.sqlite_store.specs.declared.catalog.Wanted.{Wanted}
use Rattle.sqlite_trees.specs.declared.store.Shape.{Shape}
use Rattle.sqlite_trees.specs.declared.store.Shape.TheVariants.{Index, Pageless, Table}
use Rattle.sqlite_value.specs.Order.{Row, column}
use Rattle.sqlite_value.specs.declared.keys.Order.{Order}
use Rattle.sqlite_value.specs.declared.value.Value.{Value}
use Rattle.sqlite_value.specs.declared.value.Value.TheVariants.{Null, Int, Real, Text, Blob}
use Rattle.tally_wtmpdb.specs.Rows.{text_at}

-- what is listed in the pages of a database
abbrev pub listed_in : ℕ → PageMap → List Row
listed_in size pages = rows_at size (in_use size pages) Table 1

-- what the text of the table begins with, of each version of wtmpdb that is known
abbrev pub known_columns : List (List ℕ)
known_columns =
    codes "CREATE TABLE wtmp(ID INTEGER PRIMARY KEY, Type INTEGER, User TEXT NOT NULL, Login INTEGER, Logout INTEGER, TTY TEXT, RemoteHost TEXT, Service TEXT" ∷ []

-- a text begins with these columns, and they are all or are followed by others: a `)` or a `,` comes next
abbrev pub has_columns : List ℕ → List ℕ → Bool
has_columns sql columns =
    starts_with nat_eq sql columns && ((slice_index sql (length columns) == 41) || (slice_index sql (length columns) == 44))

abbrev pub has_known_columns : List ℕ → Bool
has_known_columns sql = list_any (has_columns sql) known_columns

-- a listed object is the table of wtmpdb
abbrev pub is_wtmp : Row → Bool
is_wtmp object =
    bytes_eq (text_at 1 object) (codes "table") && bytes_eq (text_at 2 object) (codes "wtmp") && has_known_columns (text_at 5 object)

-- where it is listed
abbrev pub wtmp_place : List Row → Option ℕ
wtmp_place listed = position is_wtmp listed

-- the order of an index whose columns all ascend
abbrev pub ascending : Order
ascending = record { digits = 0 }

-- how an object is stored, by its type: an index ascends, column by column, and a view or a trigger has no pages
abbrev pub shape_of : List ℕ → Shape
shape_of type = if bytes_eq type (codes "table") then Table else (if bytes_eq type (codes "index") then Index ascending else Pageless)

-- a listed object as the kit's store is asked for it
abbrev pub wanted_in : Row → Wanted
wanted_in object = record {
  shape = shape_of (text_at 1 object);
  reals = 0;
  row = column object 1 ∷ column object 2 ∷ column object 3 ∷ column object 5 ∷ [];
}

-- a value is a text in UTF-8
abbrev pub IsText : Value → Type 0
IsText Null = ⊥
IsText (Int n) = ⊥
IsText (Real x) = ⊥
IsText (Text t) = IsUtf8 t
IsText (Blob b) = ⊥

-- the same, or it is NULL
abbrev pub IsTextOrNull : Value → Type 0
IsTextOrNull Null = ⊤
IsTextOrNull (Int n) = ⊥
IsTextOrNull (Real x) = ⊥
IsTextOrNull (Text t) = IsUtf8 t
IsTextOrNull (Blob b) = ⊥

-- the type, the name, the table and the SQL text of a listed object are texts; an index that a constraint makes has none of the last
pub record HasTexts (object : Row) : Type 0 where
  pub type : IsText (column object 1)
  pub name : IsText (column object 2)
  pub table : IsText (column object 3)
  pub sql : IsTextOrNull (column object 5)
