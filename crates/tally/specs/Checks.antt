-- What a check prints.
use Rattle.std.specs.Prelude.{◌≡◌, ℕ, ℤ, Bool, List, [], ◌∷◌, ◌++◌, None, Some, codes, nat_lt, if◌then◌else◌, string_bytes, ⊤}
use Rattle.tally.specs.declared.checking.Records.{Records}
use Rattle.tally.specs.declared.checking.Records.TheVariants.{Own, Made, NotMade}
use Rattle.tally_check.specs.declared.findings.Findings.{Findings}
use Rattle.tally_check_text.specs.CheckTable.{check_header, check_row}
use Rattle.tally_check_text.specs.SectionText.{section_text}
use Rattle.tally_check_text.specs.declared.origin.Origin.{Origin}
use Rattle.tally_check_text.specs.declared.origin.Origin.TheVariants as origin
use Rattle.tally_line.specs.declared.job.Form.{Form}
use Rattle.tally_line.specs.declared.job.Form.TheVariants.{Csv, Text}
use Rattle.tally_print.specs.FileColumns.{file_columns}
use Rattle.tally_print.specs.Tables.{csv_text}

-- an origin, as it is printed, is that of these records
abbrev pub IsOriginOf : Records → Origin → Type 0
IsOriginOf Own origin.File = ⊤
IsOriginOf Own origin.Database = ⊥
IsOriginOf Own (origin.Refused why) = ⊥
IsOriginOf Made origin.File = ⊥
IsOriginOf Made origin.Database = ⊤
IsOriginOf Made (origin.Refused why) = ⊥
IsOriginOf (NotMade reason) origin.File = ⊥
IsOriginOf (NotMade reason) origin.Database = ⊥
IsOriginOf (NotMade reason) (origin.Refused why) = why.now ≡ string_bytes reason

-- before what is found of the first file: the names of the columns of a table
abbrev pub head_text : Form → Bool → List ℕ
head_text Csv paths = csv_text (check_header paths ∷ [])
head_text Text paths = []

-- an empty line, unless a file is the first
abbrev pub gap_text : ℕ → List ℕ
gap_text number = if nat_lt 1 number then codes "\n" else []

-- a text, and then what is found of a file by its number and its path, of records of an origin: a row of the table, or a section, after
-- an empty line where it is not the first
abbrev pub with_found : Form → Bool → (ℤ → ℤ) → ℕ → List ℕ → Origin → Findings → List ℕ → List ℕ
with_found Csv paths clock number path origin found text =
    text ++ csv_text (check_row clock (file_columns number (if paths then Some path else None)) origin found ∷ [])
with_found Text paths clock number path origin found text = (text ++ gap_text number) ++ section_text clock path origin found
