-- Over a disk that tells no lie each store is clean.
use Rattle.std.proofs.Common.{◌≡◌, ◌&&◌, ◌<◌, ◌^◌, ℕ, List, Bool, true, false, None, Some, map, IsTrue, inl, inr, refl, sym, subst, ap, ◌∙◌, arith, ne_eqb}
use Rattle.sqlite_wal.specs.Format.{be32}
use Rattle.sqlite_wal.specs.PageSize.{IsPageSize, size_in_file}
use Rattle.sqlite_wal.specs.Recovery.{Image, IsIgnored}
use Rattle.sqlite_pages.specs.PageMap.{PageMap}
use Rattle.sqlite_store.specs.declared.catalog.Wanted.{Wanted}
use Rattle.sqlite_wal.specs.Files.{seen_image}
use Rattle.sqlite_pool.specs.Stored.{Recovers}
use Rattle.sqlite_trees.specs.Tree.{Trees}
use Rattle.std.proofs.Math.Logic.{∥∥₁_elim, ∥∥₁_map}
use Rattle.sqlite_store.specs.Db.{IsFile, trees_in}
use Rattle.sqlite_pool.specs.File.{in_use}
use Rattle.tally_wtmpdb.specs.Catalog.{wanted_in, wtmp_place}
use Rattle.sqlite_store.specs.Opening.{FailsToOpen}
use Rattle.sqlite_store.specs.declared.error.OpenError.{OpenError}
use Rattle.sqlite_store.specs.declared.error.OpenError.TheVariants as opening
use Rattle.sqlite_store.specs.Listing.{all_trees, file_trees}
use Rattle.sqlite_trees.specs.Objects.{catalog_tree, version_tree}
use Rattle.sqlite_value.specs.Order.{Row}
use Rattle.sqlite_store.specs.Saved.{kept_schema}
use Rattle.tally_wtmpdb.specs.Table.{AreListedIn, HaveNoDatabase, IsDatabaseOf, IsTableOf, IsNamed, IsStoreOf}
use Rattle.tally_wtmpdb.specs.inside.Files.{AreRowsOf, IsFailure, IsListing, IsListingCause, IsOpenCause, IsRefusal, IsSizeCause, error_of}
use Rattle.tally_wtmpdb.specs.declared.database.ReadError.{ReadError}
use Rattle.tally_wtmpdb.specs.declared.database.ReadError.TheVariants.{OutOfMemory, NoDatabase, NoTable, Unsound}
use Rattle.sqlite_disk.specs.declared.Disk.{Ghosts}
use Rattle.sqlite_pool.specs.Pool.{state}
use Rattle.sqlite_trees.specs.View.{IsClean}
use Rattle.sqlite_trees.proofs.Doubt.{no_doubt}
use Rattle.sqlite_store.specs.declared.store.FileStore.{FileStore}
use Rattle.sqlite_store.specs.FileStore.{view, schema_of, state as store_state}
use Rattle.sqlite_store.specs.Unopened.{state_of}
use Rattle.sqlite_store.specs.declared.store.open.Unopened.{Unopened}

both_hold : (a b : Bool) → a ≡ true → b ≡ true → IsTrue (a && b)
both_hold true true _ _ = refl
both_hold true false _ h = absurd cc
both_hold false b h _ = absurd cc

pub honest : {D : Type 0} (g : Ghosts D) → ((d : D) → g.is_clean d ≡ true) → (it : FileStore D g) → IsTrue (view it).is_clean
unfolding state
honest g tells it = both_hold _ _ (tells _) (tells _)

-- the same of files that are not open
pub honest_files : {D : Type 0} (g : Ghosts D) → ((d : D) → g.is_clean d ≡ true) → (it : Unopened D g) → IsTrue (state_of it).is_clean
unfolding state
honest_files g tells it = both_hold _ _ (tells _) (tells _)

pub always_clean : {D : Type 0} (g : Ghosts D) → ((d : D) → g.is_clean d ≡ true) → (it : FileStore D g) → IsClean (view it)
always_clean g tells it = no_doubt _ (honest g tells it)

committed_as : {D : Type 0} (g : Ghosts D) (it : FileStore D g) → IsTrue (view it).is_clean
    → (view it).committed ≡ file_trees (store_state it).page_size (kept_schema it.saved (schema_of it)) (store_state it).committed
committed_as g it clean = rw clean

-- a store that was just opened has the trees that its files recover to
pub store_of : {D : Type 0} (g : Ghosts D) → ((d : D) → g.is_clean d ≡ true) → (it : FileStore D g) (log db : List ℕ) (schema : List Wanted) (image : Image) → (size : ℕ)
    → (view it).trees ≡ (view it).committed → IsTrue (view it).is_open → it.saved ≡ None → schema_of it ≡ schema → size ≡ (store_state it).page_size → image ≡ record { log = log; db = db }
    → IsNamed log db size → Recovers size image (store_state it).committed → IsStoreOf log db schema it
store_of g tells it log db schema image size fresh is_open settled listed sized same named found =
    let size_in = (store_state it).page_size in
    let pages_in = (store_state it).committed in
    let one : kept_schema it.saved (schema_of it) ≡ schema = ap (λ s. kept_schema s (schema_of it)) settled ∙ listed in
    record {
      size = size_in;
      pages = pages_in;
      database = record {
        have = record { named = subst (IsNamed log db) sized named; recovers = rw (sym sized, sym same) found };
        sound = ∥∥₁_map (it.stored is_open) (λ file. subst (λ w. IsFile size_in w pages_in) one file.ours.file);
      };
      trees_are = fresh ∙ committed_as g it (honest g tells it) ∙ ap (λ s. file_trees size_in (kept_schema s (schema_of it)) pages_in) settled ∙ ap (λ w. file_trees size_in w pages_in) listed;
    }

pub image_of_pair : {D : Type 0} (g : Ghosts D) (a b c : D × D) (image : Image) → a ≡ b → b ≡ c → seen_image g c.0 c.1 ≡ image → seen_image g a.0 a.1 ≡ image
image_of_pair g a b c image ab bc is = ap (λ p. seen_image g p.0 p.1) (ab ∙ bc) ∙ is

-- the rows of a tree of a store
pub rows_of : {D : Type 0} {g : Ghosts D} (log db : List ℕ) (schema : List Wanted) (it : FileStore D g) (tree : ℕ) (rows : List Row) → tree < 2 ^ 32 → IsStoreOf log db schema it
    → rows ≡ (view it).trees tree → AreRowsOf log db schema tree rows
unfolding all_trees
rows_of log db schema it tree rows small store same = record {
  size = store.size;
  pages = store.pages;
  database = store.database;
  rows_are = same ∙ ap (λ (t : Trees). t tree) store.trees_are
      ∙ rw (ne_eqb tree version_tree (λ e. absurd (omega (arith, small, e))), ne_eqb tree catalog_tree (λ e. absurd (omega (arith, small, e)))) refl;
}

-- the rows of the tree that is listed as the table are those of the table
pub table_of : (log db : List ℕ) (objects : List Row) (schema : List Wanted) (place tree : ℕ) (rows : List Row) → AreListedIn log db objects → wtmp_place objects ≡ Some place
    → schema ≡ map wanted_in objects → tree ≡ place → AreRowsOf log db schema tree rows → IsTableOf log db rows
table_of log db objects schema place tree rows are_listed listed asked same are = record {
  objects = objects;
  are_listed = are_listed;
  size = are.size;
  pages = are.pages;
  database = subst (λ (s : List Wanted). IsDatabaseOf log db s are.size are.pages) asked are.database;
  place = place;
  listed = listed;
  rows_are = are.rows_are ∙ ap (λ (s : List Wanted). trees_in are.size s (in_use are.size are.pages) tree) asked ∙ ap (trees_in are.size (map wanted_in objects) (in_use are.size are.pages)) same;
}

-- ---- files that are refused

-- two page sizes that the same files name are one, for what cannot hold
one_size : (log db : List ℕ) (a b : ℕ) → IsNamed log db a → IsNamed log db b → (a ≡ b → ⊥) → ⊥
one_size log db a b first second never =
    let heeded : ¬ IsIgnored log = λ i. never ((first.by_file i).0 ∙ sym (second.by_file i).0) in
    never ((first.by_log heeded).0 ∙ sym (second.by_log heeded).0)

pub no_size : (log db : List ℕ) → (¬ IsIgnored log → ¬ IsPageSize (be32 log 8)) → (IsIgnored log → ¬ IsPageSize (size_in_file db)) → (size : ℕ) → ¬ IsNamed log db size
no_size log db by_log by_file size named =
    let heeded : ¬ IsIgnored log = λ i. by_file i (subst IsPageSize (named.by_file i).0 (named.by_file i).1) in
    by_log heeded (subst IsPageSize (named.by_log heeded).0 (named.by_log heeded).1)

abbrev pub HasFileOf : ℕ → Image → List Wanted → Type 0
HasFileOf size image schema = (pages : PageMap) × Recovers size image pages × IsFile size schema pages

-- what is no file of these objects is no database of them
pub no_database : (log db : List ℕ) (size_in : ℕ) (image : Image) (asked schema : List Wanted) → IsNamed log db size_in → image ≡ record { log = log; db = db } → asked ≡ schema
    → ¬ HasFileOf size_in image asked → (size : ℕ) (pages : PageMap) → ¬ IsDatabaseOf log db schema size pages
no_database log db size_in image asked schema named same are never size pages database =
    one_size log db size size_in database.have.named named (λ e.
    ∥∥₁_elim database.sound (λ a b. absurd a) (λ file.
    let here : HasFileOf size (record { log = log; db = db }) schema = (pages, database.have.recovers, file) in
    never (subst (λ (w : List Wanted). HasFileOf size_in image w) (sym are) (subst (λ (s : ℕ). HasFileOf s image schema) e (subst (λ (i : Image). HasFileOf size i schema) (sym same) here)))))

-- where the files are no file of any objects, they are no database
pub no_databases : (log db : List ℕ) (size_in : ℕ) (image : Image) → IsNamed log db size_in → image ≡ record { log = log; db = db }
    → ¬ ((pages : PageMap) × Recovers size_in image pages × ((schema : List Wanted) × IsFile size_in schema pages)) → HaveNoDatabase log db
no_databases log db size_in image named same never schema =
    no_database log db size_in image schema schema named same refl (λ has. never (has.0, has.1, (schema, has.2)))

-- what is listed in pages that the files stand for
pub listed_of : (log db : List ℕ) (size : ℕ) (image : Image) (objects : List Row) → IsNamed log db size → image ≡ record { log = log; db = db } → IsListing size image objects → AreListedIn log db objects
listed_of log db size image objects named same listing = record {
  size = size;
  pages = listing.pages;
  have = record { named = named; recovers = subst (λ (i : Image). Recovers size i listing.pages) same listing.recovers };
  objects_are = listing.objects_are;
}

-- ---- why files are refused

-- why a store did not open the files, where they are refused for a reason
pub refusal_of : (old new : ℕ) (Full Sound : Type 0) (refused : ReadError) (e : OpenError) → FailsToOpen old new Full Sound e → IsRefusal refused Sound (error_of e refused)
refusal_of old new Full Sound refused opening.OutOfMemory h = inl tt
refusal_of old new Full Sound refused opening.Io h = inl tt
refusal_of old new Full Sound refused opening.Full h = inl tt
refusal_of old new Full Sound refused opening.Refused h = inr (refl, h)

pub unnamed : (log db : List ℕ) → ((size : ℕ) → ¬ IsNamed log db size) → HaveNoDatabase log db
unnamed log db never schema size pages database = never size database.have.named

pub listing_cause : (log db : List ℕ) (e : ReadError) → IsSizeCause log db e → IsListingCause log db e
listing_cause log db OutOfMemory h = tt
listing_cause log db NoDatabase h = unnamed log db h
listing_cause log db NoTable h = h
listing_cause log db Unsound h = h

pub open_cause : (log db : List ℕ) (schema : List Wanted) (e : ReadError) → IsSizeCause log db e → IsOpenCause log db schema e
open_cause log db schema OutOfMemory h = tt
open_cause log db schema NoDatabase h = unnamed log db h
open_cause log db schema NoTable h = h
open_cause log db schema Unsound h = absurd h

pub size_failure : (log db : List ℕ) (e : ReadError) → IsFailure e → IsSizeCause log db e
size_failure log db OutOfMemory h = tt
size_failure log db NoDatabase h = absurd h
size_failure log db NoTable h = h
size_failure log db Unsound h = h

pub open_failure : (log db : List ℕ) (schema : List Wanted) (e : ReadError) → IsFailure e → IsOpenCause log db schema e
open_failure log db schema e h = open_cause log db schema e (size_failure log db e h)

pub open_refusal : (log db : List ℕ) (schema : List Wanted) (Sound : Type 0) (e : ReadError) → (¬ Sound → (size : ℕ) (pages : PageMap) → ¬ IsDatabaseOf log db schema size pages)
    → IsRefusal Unsound Sound e → IsOpenCause log db schema e
open_refusal log db schema Sound e why (inl failure) = open_failure log db schema e failure
open_refusal log db schema Sound e why (inr is) = subst (IsOpenCause log db schema) (sym is.0) (why is.1)

pub listing_refusal : (log db : List ℕ) (Sound : Type 0) (e : ReadError) → (¬ Sound → HaveNoDatabase log db) → IsRefusal NoDatabase Sound e → IsListingCause log db e
listing_refusal log db Sound e why (inl failure) = listing_cause log db e (size_failure log db e failure)
listing_refusal log db Sound e why (inr is) = subst (IsListingCause log db) (sym is.0) (why is.1)
