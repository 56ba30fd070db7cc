-- What a table's text reads back as.
use Rattle.std.proofs.Common.{◌≡◌, ℕ, zero, suc, List, [], ◌∷◌, ◌++◌, ◌∙◌, ◌+◌, ◌≤◌, refl, ap, map, length, flat_map, arith, length-append}
use Rattle.std.proofs.lemmas.Grind.{flat_map-append}
use Rattle.csv.specs.Machine.{next_record}
use Rattle.csv.specs.Reading.{default_config, records, records_from}
use Rattle.csv.specs.Writing.{default_writer, read_back, row_text}
use Rattle.csv.specs.declared.parser.State.TheVariants as st
use Rattle.csv.proofs.RoundTrip.{read-write}
use Rattle.tally_print.specs.Tables.{Row, csv_text}

-- no text has no record, however many are looked for
records_of_nothing : (n : ℕ) → records_from default_config n st.StartRecord [] ≡ []
unfolding records_from next_record
records_of_nothing zero = refl
records_of_nothing (suc n) = refl

-- each row comes back, where at least as many records are looked for
pub reads_rows : (rows : List Row) (n : ℕ) → length rows ≤ n → records_from default_config n st.StartRecord (csv_text rows) ≡ map read_back rows
unfolding records_from
reads_rows [] n enough = records_of_nothing n
reads_rows (row ∷ rows) zero enough = absurd (omega (arith, enough))
reads_rows (row ∷ rows) (suc n) enough =
    rw (read-write row (csv_text rows)) (ap (λ (t : List Row). read_back row ∷ t) (reads_rows rows n (omega (arith, enough))))

-- a row's text ends in a byte
row_takes_a_byte : (row : Row) → 1 ≤ length (row_text default_writer row)
row_takes_a_byte row =
    simp (length-append) (omega arith)

no_fewer_bytes : (rows : List Row) → length rows ≤ length (csv_text rows)
no_fewer_bytes [] = omega arith
no_fewer_bytes (row ∷ rows) =
    omega (arith, length-append (row_text default_writer row) (csv_text rows), row_takes_a_byte row, no_fewer_bytes rows)

-- the whole text has these records and no others
pub reads_back : (rows : List Row) → records default_config (csv_text rows) ≡ map read_back rows
reads_back rows = reads_rows rows (length (csv_text rows) + 1) (omega (arith, no_fewer_bytes rows))

-- a table's text is a line for the header and one for each row
pub lines_of : {X : Type 0} (fields : X → Row) (rows : List X) → csv_text (map fields rows) ≡ flat_map (λ x. row_text default_writer (fields x)) rows
lines_of fields [] = refl
lines_of fields (x ∷ xs) = ap (λ (t : List ℕ). row_text default_writer (fields x) ++ t) (lines_of fields xs)

-- the rows of several lists, list by list
pub rows_of_all : {X : Type 0} (rows_of : X → List Row) (xs : List X) → csv_text (flat_map rows_of xs) ≡ flat_map (λ x. csv_text (rows_of x)) xs
rows_of_all rows_of [] = refl
rows_of_all rows_of (x ∷ xs) =
    flat_map-append (row_text default_writer) (rows_of x) (flat_map rows_of xs) ∙ ap (λ (t : List ℕ). csv_text (rows_of x) ++ t) (rows_of_all rows_of xs)
