-- Two files that are held in memory, and what is not opened or not read of them.
use Rattle.std.specs.Prelude.{◌≡◌, ◌⊎◌, ℕ, List, ⊤}
use Rattle.sqlite_disk.specs.declared.Disk.{Ghosts}
use Rattle.sqlite_pages.specs.PageMap.{PageMap}
use Rattle.sqlite_pool.specs.File.{in_use}
use Rattle.sqlite_pool.specs.Stored.{Recovers}
use Rattle.sqlite_store.specs.Db.{trees_in}
use Rattle.sqlite_store.specs.Unopened.{AreUsable, image, state_of, wanted_by}
use Rattle.sqlite_store.specs.declared.catalog.Wanted.{Wanted}
use Rattle.sqlite_store.specs.declared.error.OpenError.{OpenError}
use Rattle.sqlite_store.specs.declared.error.OpenError.TheVariants as opening
use Rattle.sqlite_store.specs.declared.store.open.Unopened.{Unopened}
use Rattle.sqlite_value.specs.Order.{Row}
use Rattle.sqlite_wal.specs.Recovery.{Image}
use Rattle.tally_wtmpdb.specs.Catalog.{listed_in}
use Rattle.tally_wtmpdb.specs.Table.{HaveNoDatabase, IsDatabaseOf, IsNamed}
use Rattle.tally_wtmpdb.specs.declared.database.ReadError.{ReadError}
use Rattle.tally_wtmpdb.specs.declared.database.ReadError.TheVariants.{OutOfMemory, NoDatabase, NoTable, Unsound}

-- nothing is known of the files yet but their page size, and these objects are asked for
pub record IsOver {D : Type 0} {g : Ghosts D} (log db : List ℕ) (schema : List Wanted) (it : Unopened D g) : Type 0 where
  pub named : IsNamed log db (state_of it).page_size
  pub image_is : image it ≡ record { log = log; db = db }
  pub usable : AreUsable it
  pub wanted : wanted_by it ≡ schema

-- these objects are listed in pages that the files stand for
pub record IsListing (size : ℕ) (image : Image) (objects : List Row) : Type 0 where
  pub pages : PageMap
  pub recovers : Recovers size image pages
  pub objects_are : objects ≡ listed_in size pages

-- why files were not opened: where they are refused, this is why
abbrev pub error_of : OpenError → ReadError → ReadError
error_of opening.OutOfMemory refused = OutOfMemory
error_of opening.Io refused = OutOfMemory
error_of opening.Full refused = OutOfMemory
error_of opening.Refused refused = refused

-- want of memory, and no fault of the files
abbrev pub IsFailure : ReadError → Type 0
IsFailure OutOfMemory = ⊤
IsFailure NoDatabase = ⊥
IsFailure NoTable = ⊥
IsFailure Unsound = ⊥

-- an error is want of memory, or this one, of files that are not as they should be
abbrev pub IsRefusal : ReadError → Type 0 → ReadError → Type 0
IsRefusal refused Sound error = IsFailure error ⊎ ((error ≡ refused) × ¬ Sound)

-- why their page size was not found
abbrev pub IsSizeCause : (log db : List ℕ) → ReadError → Type 0
IsSizeCause log db OutOfMemory = ⊤
IsSizeCause log db NoDatabase = (size : ℕ) → ¬ IsNamed log db size
IsSizeCause log db NoTable = ⊥
IsSizeCause log db Unsound = ⊥

-- why what they list was not read
abbrev pub IsListingCause : (log db : List ℕ) → ReadError → Type 0
IsListingCause log db OutOfMemory = ⊤
IsListingCause log db NoDatabase = HaveNoDatabase log db
IsListingCause log db NoTable = ⊥
IsListingCause log db Unsound = ⊥

-- why the files were not opened as a database of these objects
abbrev pub IsOpenCause : (log db : List ℕ) → List Wanted → ReadError → Type 0
IsOpenCause log db schema OutOfMemory = ⊤
IsOpenCause log db schema NoDatabase = HaveNoDatabase log db
IsOpenCause log db schema NoTable = ⊥
IsOpenCause log db schema Unsound = (size : ℕ) (pages : PageMap) → ¬ IsDatabaseOf log db schema size pages

-- the rows of a tree in a sound database of these objects, which the files stand for
pub record AreRowsOf (log db : List ℕ) (schema : List Wanted) (tree : ℕ) (rows : List Row) : Type 0 where
  pub size : ℕ
  pub pages : PageMap
  pub database : IsDatabaseOf log db schema size pages
  pub rows_are : rows ≡ trees_in size schema (in_use size pages) tree
