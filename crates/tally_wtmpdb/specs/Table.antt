-- The rows of wtmpdb's table that two files held.
use Rattle.std.specs.Prelude.{◌≡◌, ℕ, List, map, All, None, Some}
use Rattle.sqlite_disk.specs.declared.Disk.{Ghosts}
use Rattle.sqlite_pages.specs.PageMap.{PageMap}
use Rattle.sqlite_pool.specs.File.{in_use}
use Rattle.sqlite_pool.specs.Stored.{Recovers}
use Rattle.sqlite_store.specs.Db.{IsFile, trees_in}
use Rattle.sqlite_store.specs.FileStore.{view}
use Rattle.sqlite_store.specs.Listing.{file_trees}
use Rattle.sqlite_store.specs.declared.catalog.Wanted.{Wanted}
use Rattle.sqlite_store.specs.declared.store.FileStore.{FileStore}
use Rattle.sqlite_value.specs.Order.{Row}
use Rattle.sqlite_wal.specs.Format.{be32}
use Rattle.sqlite_wal.specs.PageSize.{IsPageSize, size_in_file}
use Rattle.sqlite_wal.specs.Recovery.{IsIgnored}
use Rattle.tally_wtmpdb.specs.Catalog.{HasTexts, listed_in, wanted_in, wtmp_place}

-- the page size that the header of the log names or, where the log is ignored, that of the database
pub record IsNamed (log db : List ℕ) (size : ℕ) : Type 0 where
  pub by_log : ¬ IsIgnored log → (size ≡ be32 log 8) × IsPageSize size
  pub by_file : IsIgnored log → (size ≡ size_in_file db) × IsPageSize size

-- the files stand for these pages
pub record HavePages (log db : List ℕ) (size : ℕ) (pages : PageMap) : Type 0 where
  pub named : IsNamed log db size
  pub recovers : Recovers size (record { log = log; db = db }) pages

-- they list these objects
pub record AreListedIn (log db : List ℕ) (objects : List Row) : Type 0 where
  pub size : ℕ
  pub pages : PageMap
  pub have : HavePages log db size pages
  pub objects_are : objects ≡ listed_in size pages

-- they stand for a sound database of these objects
pub record IsDatabaseOf (log db : List ℕ) (schema : List Wanted) (size : ℕ) (pages : PageMap) : Type 0 where
  pub have : HavePages log db size pages
  pub sound : ∥ IsFile size schema pages ∥₁

-- they stand for a sound database of the objects that they list, of which one is the table of wtmpdb, and it has these rows
pub record IsTableOf (log db : List ℕ) (rows : List Row) : Type 0 where
  pub objects : List Row
  pub are_listed : AreListedIn log db objects
  pub size : ℕ
  pub pages : PageMap
  pub database : IsDatabaseOf log db (map wanted_in objects) size pages
  pub place : ℕ
  pub listed : wtmp_place objects ≡ Some place
  pub rows_are : rows ≡ trees_in size (map wanted_in objects) (in_use size pages) place

-- they stand for no sound database, whatever its objects
abbrev pub HaveNoDatabase : (log db : List ℕ) → Type 0
HaveNoDatabase log db = (schema : List Wanted) (size : ℕ) (pages : PageMap) → ¬ IsDatabaseOf log db schema size pages

-- the table is not among the objects that they list
pub record HaveNoTable (log db : List ℕ) : Type 0 where
  pub objects : List Row
  pub are_listed : AreListedIn log db objects
  pub none : wtmp_place objects ≡ None

-- of the objects that they list, as each is read, they stand for no sound database
pub record AreUnsound (log db : List ℕ) : Type 0 where
  pub objects : List Row
  pub are_listed : AreListedIn log db objects
  pub unsound : All HasTexts objects → (size : ℕ) (pages : PageMap) → ¬ IsDatabaseOf log db (map wanted_in objects) size pages

-- a store has the trees of a sound database of these objects, which two files stand for
pub record IsStoreOf {D : Type 0} {g : Ghosts D} (log db : List ℕ) (schema : List Wanted) (store : FileStore D g) : Type 0 where
  pub size : ℕ
  pub pages : PageMap
  pub database : IsDatabaseOf log db schema size pages
  pub trees_are : (view store).trees ≡ file_trees size schema pages
