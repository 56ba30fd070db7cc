-- Tables with the paths of files, put together of the rows of each file.
use Rattle.std.proofs.Common.{◌≡◌, ◌∙◌, ◌+◌, ◌++◌, ℕ, zero, suc, ℤ, List, [], ◌∷◌, map, get_or, length, ◌<◌, arith, ap, refl, sym}
use Rattle.std.proofs.lemmas.Grind.{flat_map-append}
use Rattle.std.proofs.lemmas.List.FromFn.{get_or-enumerate_from, get_or-range_with_len}
use Rattle.std.specs.Prelude.{Option}
use Rattle.std.specs.List.{enumerate_from, flat_map, range_with_len}
use Rattle.tally_answers.specs.declared.question.Answer.{Answer}
use Rattle.tally_print.specs.AttemptSections.{attempt_answer, attempt_answers}
use Rattle.tally_print.specs.PathTable.{path_header, path_rows, path_table_text}
use Rattle.tally_print.specs.Section.{answer_in}
use Rattle.tally_print.specs.Tables.{Row, csv_text}
use Rattle.tally_print.specs.declared.report_table.Table.{Table}
use Rattle.tally_print.specs.declared.report_table.Table.TheVariants as tables
use Rattle.tally_print.specs.declared.section.Section.{Section}
use Rattle.tally_records.specs.declared.choice.LoginChoice.{LoginChoice}
use Rattle.tally_sessions.specs.declared.entry.Entry.{Entry}
use Rattle.tally_cli.specs.inside.Paths.{section_text}

csv_pieces : {X : Type 0} (g : X → List Row) (xs : List X) → csv_text (flat_map g xs) ≡ flat_map (λ x. csv_text (g x)) xs
csv_pieces g [] = refl
csv_pieces g (x ∷ xs) = flat_map-append _ (g x) (flat_map g xs) ∙ ap (λ l. csv_text (g x) ++ l) (csv_pieces g xs)

csv_append : (xs ys : List Row) → csv_text (xs ++ ys) ≡ csv_text xs ++ csv_text ys
csv_append xs ys = flat_map-append _ xs ys

numbered_of : {X Y A : Type 0} (f : X → Y) (g : ℕ × Y → List A) (n : ℕ) (xs : List X) → flat_map g (enumerate_from n (map f xs)) ≡ flat_map (λ (numbered : ℕ × X). g (numbered.0, f numbered.1)) (enumerate_from n xs)
numbered_of f g n [] = refl
numbered_of f g n (x ∷ xs) = ap (λ l. g (n, f x) ++ l) (numbered_of f g (n + 1) xs)

numbered_range : {A : Type 0} (g : ℕ × ℕ → List A) (n count : ℕ) → flat_map g (enumerate_from n (range_with_len n count)) ≡ flat_map (λ k. g (k, k)) (range_with_len n count)
numbered_range g n zero = refl
numbered_range g n (suc count) = ap (λ l. g (n, n) ++ l) (numbered_range g (n + 1) count)

-- a host, as it stands among so many
pub host_at : (hosts host : ℕ) → host < hosts → host ≡ get_or (range_with_len 0 hosts) host host
host_at hosts host near = let same : host ≡ 0 + host = omega arith in same ∙ sym (get_or-range_with_len 0 hosts host host near)

-- an element with its number, as it stands among all of them
pub numbered_at : {X : Type 0} (xs : List X) (i : ℕ) (x : X) → i < length xs → x ≡ get_or xs i x → (i, x) ≡ get_or (enumerate_from 0 xs) i (i, x)
numbered_at xs i x near is =
    let same : i ≡ 0 + i = omega arith in
    (λ j. (same j, is j)) ∙ sym (get_or-enumerate_from 0 xs i (i, x) near)

module _ (table : Table) (clock : ℤ → ℤ) (paths : List (List ℕ)) where
  abbrev rows_text : ℕ × Answer → List ℕ
  rows_text numbered = csv_text (path_rows table clock (get_or paths numbered.0 []) numbered.1)

  -- the header, and then the rows of each answer
  pub table_pieces : (answers : List Answer) → csv_text (path_header table ∷ []) ++ flat_map rows_text (enumerate_from 0 answers) ≡ path_table_text table clock paths answers
  table_pieces answers =
      let rows : ℕ × Answer → List Row = λ numbered. path_rows table clock (get_or paths numbered.0 []) numbered.1 in
      ap (λ l. csv_text (path_header table ∷ []) ++ l) (sym (csv_pieces rows (enumerate_from 0 answers)))
      ∙ sym (csv_append (path_header table ∷ []) (flat_map rows (enumerate_from 0 answers)))

  -- the same of sections
  pub section_pieces : (entries : List Entry) (sections : List Section)
      → csv_text (path_header table ∷ []) ++ flat_map (section_text table clock paths entries) (enumerate_from 0 sections) ≡ path_table_text table clock paths (map (answer_in entries) sections)
  section_pieces entries sections =
      ap (λ l. csv_text (path_header table ∷ []) ++ l) (sym (numbered_of (answer_in entries) rows_text 0 sections))
      ∙ table_pieces (map (answer_in entries) sections)

-- the rows of a host's failed logins
abbrev pub host_text : (ℤ → ℤ) → List (List ℕ) → Option ℕ → LoginChoice → List Entry → ℕ → List ℕ
host_text clock paths limit choice entries host = csv_text (path_rows tables.Attempts clock (get_or paths host []) (attempt_answer limit choice entries host))

-- the same of the failed logins of so many hosts
pub attempt_pieces : (clock : ℤ → ℤ) (paths : List (List ℕ)) (hosts : ℕ) (limit : Option ℕ) (choice : LoginChoice) (entries : List Entry)
    → csv_text (path_header tables.Attempts ∷ []) ++ flat_map (host_text clock paths limit choice entries) (range_with_len 0 hosts)
    ≡ path_table_text tables.Attempts clock paths (attempt_answers hosts limit choice entries)
attempt_pieces clock paths hosts limit choice entries =
    let rows : ℕ × Answer → List ℕ = rows_text tables.Attempts clock paths in
    let answer : ℕ → Answer = attempt_answer limit choice entries in
    ap (λ l. csv_text (path_header tables.Attempts ∷ []) ++ l)
    (sym (numbered_of answer rows 0 (range_with_len 0 hosts) ∙ numbered_range (λ (numbered : ℕ × ℕ). rows (numbered.0, answer numbered.1)) 0 hosts))
    ∙ table_pieces tables.Attempts clock paths (attempt_answers hosts limit choice entries)
