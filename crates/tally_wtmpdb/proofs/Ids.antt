-- That the rows of a table have numbers of 64 bits, and no two the same.
use Rattle.std.proofs.Common.{◌≡◌, ◌⊎◌, cond, inl, inr, ℕ, zero, suc, ◌<◌, ◌≤◌, ◌^◌, ℤ, Bool, true, List, [], ◌∷◌, length, map, get_or, refl, sym, subst, ap, ◌∙◌, arith}
use Rattle.std.proofs.Math.Logic.{∥∥₁_elim}
use Rattle.std.proofs.lemmas.Bool.{and_parts, cases_lt, cases_order}
use Rattle.std.proofs.lemmas.Int.{ints}
use Rattle.std.proofs.lemmas.List.{get_or-map, length-map}
use Rattle.std.proofs.lemmas.List.Quantifiers.{position-Some}
use Rattle.std.specs.Int.{w64, cast_signed}
use Rattle.std.specs.Prelude.{FitsSigned, Some, bytes_eq, codes, ◌&&◌, int_lt, pos, slice_index}
use lib.Signed.{mag}
use Rattle.sqlite_btree.proofs.StoredLemmas.{entries_at-stored}
use Rattle.sqlite_btree.proofs.ViewLemmas.{ascends_rows}
use Rattle.sqlite_btree.specs.Chain.{Entry}
use Rattle.sqlite_btree.specs.Cut.{Ascends, Each}
use Rattle.sqlite_btree.specs.Stored.{IsTable, as_row, entries_at}
use Rattle.sqlite_format.specs.declared.kind.Tree.TheVariants as tree
use Rattle.sqlite_pages.specs.PageMap.{PageMap}
use Rattle.sqlite_pool.specs.File.{in_use}
use Rattle.sqlite_store.specs.Catalog.{reals_at, shape_at}
use Rattle.sqlite_store.specs.Db.{IsFile, IsKept, roots_of, shown, table_row, trees_in}
use Rattle.sqlite_store.specs.declared.catalog.Wanted.{Wanted}
use Rattle.sqlite_trees.specs.declared.store.Shape.TheVariants.{Absent, Index, Pageless, Table}
use Rattle.sqlite_value.specs.Order.{Row}
use Rattle.tally_wtmpdb.specs.Catalog.{ascending, has_known_columns, is_wtmp, wanted_in, wtmp_place}
use Rattle.tally_wtmpdb.specs.Rows.{id_of, text_at}
use Rattle.tally_wtmpdb.specs.Sessions.{HaveIds}
use Rattle.tally_wtmpdb.specs.Table.{IsTableOf}

abbrev Numbered : Type 0
Numbered = ℤ × List ℕ

abbrev below : Numbered → Numbered → Bool
below a b = int_lt a.0 b.0

-- a row as the store gives it
abbrev given : Numbered → Row
given r = shown Table 0 (table_row r)

abbrev none : Numbered
none = (pos 0, [])

-- ---- lists

each_at : (P : Numbered → Type 0) (rs : List Numbered) (i : ℕ) → Each P rs → i < length rs → P (get_or rs i none)
each_at P [] i h within = absurd (omega (arith, within))
each_at P (r ∷ rs) zero h within = h.0
each_at P (r ∷ rs) (suc i) h within = each_at P rs i h.1 (omega (arith, within))

rising : (rs : List Numbered) (i j : ℕ) → Ascends below rs → i < j → j < length rs → below (get_or rs i none) (get_or rs j none) ≡ true
rising [] i j h less within = absurd (omega (arith, within))
rising (r ∷ rs) i zero h less within = absurd (omega (arith, less))
rising (r ∷ rs) zero (suc j) h less within = each_at (λ x. below r x ≡ true) rs j h.0 (omega (arith, within))
rising (r ∷ rs) (suc i) (suc j) h less within = rising rs i j h.1 (omega (arith, less)) (omega (arith, within))

id_at : (rs : List Numbered) (i : ℕ) → i < length rs → id_of (get_or (map given rs) i []) ≡ (get_or rs i none).0
id_at [] i within = absurd (omega (arith, within))
id_at (r ∷ rs) zero within = refl
id_at (r ∷ rs) (suc i) within = id_at rs i (omega (arith, within))

never_below : (a b : ℤ) → a ≡ b → int_lt a b ≡ true → ⊥
never_below a b e h = grind (arith, ints, e, h)

-- ---- the rows of a table

cast_fits : (n : ℕ) → FitsSigned w64 (cast_signed w64 n)
cast_fits n = record { sfits = grind arith }

fits_all : (entries : List Entry) → Each (λ r. FitsSigned w64 r.0) (map as_row entries)
fits_all [] = tt
fits_all (e ∷ entries) = (cast_fits _, fits_all entries)

record HasNumbers (rows : List Row) : Type 0 where
  rs : List Numbered
  same : rows ≡ map given rs
  up : Ascends below rs
  fit : Each (λ r. FitsSigned w64 r.0) rs

map_given : (xs : List Numbered) → map (shown Table 0) (map table_row xs) ≡ map given xs
map_given [] = refl
map_given (x ∷ xs) = ap (λ (l : List Row). given x ∷ l) (map_given xs)

-- the object at the place of the table is a table, none of whose columns is REAL
is_plain_table : (object : Row) → is_wtmp object ≡ true → (wanted_in object).shape ≡ Table
is_plain_table object is = ap (λ b. cond b Table (cond (bytes_eq (text_at 1 object) (codes "index")) (Index ascending) Pageless)) (and_parts (bytes_eq (text_at 1 object) (codes "table")) (bytes_eq (text_at 2 object) (codes "wtmp")) (and_parts (bytes_eq (text_at 1 object) (codes "table") && bytes_eq (text_at 2 object) (codes "wtmp")) (has_known_columns (text_at 5 object)) is).0).0

shape_there : (objects : List Row) (place : ℕ) → wtmp_place objects ≡ Some place → shape_at (map wanted_in objects) place ≡ Table
shape_there objects place is =
    let found = position-Some is_wtmp objects place [] is in
    let inside : place < length (map wanted_in objects) = omega (arith, found.0, length-map objects wanted_in) in
    get_or-map (λ (w : Wanted). w.shape) (map wanted_in objects) place (wanted_in []) Absent inside
    ∙ ap (λ (w : Wanted). w.shape) (get_or-map wanted_in objects place [] (wanted_in []) found.0)
    ∙ is_plain_table (get_or objects place []) found.1

reals_there : (objects : List Row) (place : ℕ) → reals_at (map wanted_in objects) place ≡ 0
reals_there [] place = refl
reals_there (object ∷ objects) zero = refl
reals_there (object ∷ objects) (suc place) = reals_there objects place

numbers : (size : ℕ) (objects : List Row) (place : ℕ) (pages : PageMap) (rows : List Row) → wtmp_place objects ≡ Some place → IsFile size (map wanted_in objects) pages
    → rows ≡ trees_in size (map wanted_in objects) (in_use size pages) place → HasNumbers rows
unfolding trees_in
numbers size objects place pages rows listed file is =
    let schema : List Wanted = map wanted_in objects in
    let used : PageMap = in_use size pages in
    let root : ℕ = slice_index (roots_of size schema used) place in
    let kept : IsKept size (file.db.layouts (suc place)) Table root = subst (λ s. IsKept size (file.db.layouts (suc place)) s root) (shape_there objects place listed) (file.db.trees.kept (suc place)) in
    let its : IsTable size (file.db.layouts (suc place)) root kept.0 = kept.1 in
    let stored : map as_row (entries_at tree.Table size used root) ≡ kept.0 = ap (map as_row) (entries_at-stored used (file.db.trees.laid (suc place)) its.stored) ∙ its.shows in
    record {
      rs = kept.0;
      same = is ∙ rw (shape_there objects place listed, reals_there objects place) refl ∙ ap (λ (xs : List Numbered). map (shown Table 0) (map table_row xs)) stored ∙ map_given kept.0;
      up = ascends_rows its;
      fit = subst (Each (λ r. FitsSigned w64 r.0)) its.shows (fits_all its.entries);
    }

fit_of : (rows : List Row) → HasNumbers rows → (i : ℕ) → i < length rows → FitsSigned w64 (id_of (get_or rows i []))
fit_of rows n i within =
    let inside : i < length n.rs = omega (arith, within, ap length n.same, length-map n.rs given) in
    subst (FitsSigned w64) (sym (ap (λ (l : List Row). id_of (get_or l i [])) n.same ∙ id_at n.rs i inside)) (each_at (λ r. FitsSigned w64 r.0) n.rs i n.fit inside)

apart : (rows : List Row) → HasNumbers rows → (i j : ℕ) → i < j → j < length rows → id_of (get_or rows i []) ≡ id_of (get_or rows j []) → ⊥
apart rows n i j less within same =
    let inside : j < length n.rs = omega (arith, within, ap length n.same, length-map n.rs given) in
    let at_i : id_of (get_or rows i []) ≡ (get_or n.rs i none).0 = ap (λ (l : List Row). id_of (get_or l i [])) n.same ∙ id_at n.rs i (omega (arith, inside, less)) in
    let at_j : id_of (get_or rows j []) ≡ (get_or n.rs j none).0 = ap (λ (l : List Row). id_of (get_or l j [])) n.same ∙ id_at n.rs j inside in
    never_below (get_or n.rs i none).0 (get_or n.rs j none).0 (sym at_i ∙ same ∙ at_j) (rising n.rs i j n.up less inside)

pub table_ids : (log db : List ℕ) (rows : List Row) → IsTableOf log db rows → HaveIds rows
table_ids log db rows table = record { fit = λ i within. fits (get_or rows i []) i refl within; differ = λ i j p q same. equal i j p q same (cases_order i j) }
  where
    -- what cannot hold, since the file is sound
    never : (HasNumbers rows → ⊥) → ⊥
    never cannot = ∥∥₁_elim table.database.sound (λ a b. absurd a) (λ file. cannot (numbers table.size table.objects table.place table.pages rows table.listed file table.rows_are))

    fits : (row : Row) (i : ℕ) → row ≡ get_or rows i [] → i < length rows → FitsSigned w64 (id_of row)
    fits row i e within = by (cases_lt (mag (id_of row)) (2 ^ 63))
      where
        by : (mag (id_of row) < 2 ^ 63) ⊎ (2 ^ 63 ≤ mag (id_of row)) → FitsSigned w64 (id_of row)
        by (inl lt) = record { sfits = lt }
        by (inr over) = absurd (never (λ n. let fit : FitsSigned w64 (id_of row) = subst (λ (r : Row). FitsSigned w64 (id_of r)) (sym e) (fit_of rows n i within) in let small = fit.sfits in absurd (omega (arith, small, over))))

    equal : (i j : ℕ) → i < length rows → j < length rows → id_of (get_or rows i []) ≡ id_of (get_or rows j []) → (i ≡ j) ⊎ ((i < j) ⊎ (j < i)) → i ≡ j
    equal i j p q same (inl e) = e
    equal i j p q same (inr (inl less)) = absurd (never (λ n. apart rows n i j less q same))
    equal i j p q same (inr (inr more)) = absurd (never (λ n. apart rows n j i more p (sym same)))
