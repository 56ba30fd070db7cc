-- The failed logins of hosts, section by section.
use Rattle.std.proofs.Common.{◌≡◌, ◌∙◌, ℕ, zero, suc, ℤ, ◌+◌, ◌<◌, ◌≤◌, ◌++◌, ◌∷◌, List, [], Option, ◌==◌, arith, ap, filter, flat_map, get_or, length, map, refl, sym}
use Rattle.std.proofs.lemmas.List.{append_assoc, length-map, length-reverse, take_all}
use Rattle.std.proofs.lemmas.List.FromFn.{get_or-range_with_len, length-range_with_len}
use Rattle.std.proofs.lemmas.List.Sums.{count_by-le-length, length-filter}
use Rattle.std.proofs.lemmas.Simd.{map-map}
use Rattle.std.specs.List.{range_with_len}
use Rattle.csv.specs.Writing.{default_writer, row_text}
use Rattle.tally_attempts.specs.Attempts.{attempt, attempts_before, attempts_of, is_chosen, latest_attempts}
use Rattle.tally_records.specs.declared.choice.LoginChoice.{LoginChoice}
use Rattle.tally_sessions.specs.Hosts.{of_host}
use Rattle.tally_sessions.specs.Totals.{first_time}
use Rattle.tally_sessions.specs.declared.entry.Entry.{Entry}
use Rattle.tally_print.specs.AnswerText.{answer_text}
use Rattle.tally_print.specs.AttemptSections.{attempt_answer, attempt_answers}
use Rattle.tally_print.specs.AttemptTable.{attempt_fields, attempt_header}
use Rattle.tally_print.specs.AttemptText.{attempts_text}
use Rattle.tally_print.specs.ReportTable.{table_text}
use Rattle.tally_print.specs.Sections.{sections, sections_text}
use Rattle.tally_print.specs.declared.report_table.Table.TheVariants.{Attempts}
use Rattle.tally_print.specs.inside.Attempts.{gap, section}
use Rattle.tally_print.proofs.ReportTableLemmas.{header_and_rows_by}
use Rattle.tally_print.proofs.TableLemmas.{lines_of}

-- three parts of a text after a page
pub in_three : (page a b d : List ℕ) → ((page ++ a) ++ b) ++ d ≡ page ++ (a ++ (b ++ d))
in_three page a b d = simp append_assoc

-- a host stands at its place
pub host_at : (hosts host : ℕ) → host < hosts → host ≡ get_or (range_with_len 0 hosts) host host
host_at hosts host below = omega (arith, get_or-range_with_len 0 hosts host host below)

pub host_within : (hosts host : ℕ) → host < hosts → host < length (range_with_len 0 hosts)
host_within hosts host below = omega (arith, length-range_with_len 0 hosts, below)

pub no_host_left : (hosts host : ℕ) → hosts ≤ host → length (range_with_len 0 hosts) ≤ host
no_host_left hosts host none = omega (arith, length-range_with_len 0 hosts, none)

-- no host has more failed logins than there are entries
pub attempts_fewer : (host : ℕ) (choice : LoginChoice) (entries : List Entry) → length (attempts_of host choice entries) ≤ length entries
attempts_fewer host choice entries =
    let own = filter (λ (e : Entry). e.host == host) entries in
    let chosen = filter (is_chosen choice) (of_host host entries) in
    omega (
      arith,
      length-reverse (map (attempt host) chosen),
      length-map chosen (attempt host),
      length-filter (is_chosen choice) (of_host host entries),
      count_by-le-length (is_chosen choice) (of_host host entries),
      length-map own (λ (e : Entry). e.item),
      length-filter (λ (e : Entry). e.host == host) entries,
      count_by-le-length (λ (e : Entry). e.host == host) entries,
    )

-- and those before all of them are all
pub attempts_at_first : (host : ℕ) (choice : LoginChoice) (place : ℕ) (entries : List Entry) → place ≡ length entries → attempts_of host choice entries ≡ attempts_before host choice place entries
attempts_at_first host choice place entries is = ap (attempts_of host choice) (sym (take_all place entries (omega (arith, is))))

-- a later section stands after an empty line
gap_later : (host : ℕ) → 0 < host → gap host ≡ 10 ∷ []
gap_later zero later = absurd (omega (arith, later))
gap_later (suc n) later = refl

module _ (f : ℕ → List ℕ) where
  after_others : (a n : ℕ) → 0 < a → flat_map (λ host. gap host ++ f host) (range_with_len a n) ≡ flat_map (λ t. 10 ∷ t) (map f (range_with_len a n))
  after_others a zero later = refl
  after_others a (suc n) later = rw (gap_later a later, after_others (a + 1) n (omega (arith, later))) refl

  -- texts with an empty line between each two
  gaps_between : (hosts : ℕ) → flat_map (λ host. gap host ++ f host) (range_with_len 0 hosts) ≡ sections (map f (range_with_len 0 hosts))
  gaps_between zero = refl
  gaps_between (suc n) = ap (λ (t : List ℕ). f 0 ++ t) (after_others 1 n (omega arith))

module _ (clock : ℤ → ℤ) (limit : Option ℕ) (choice : LoginChoice) (entries : List Entry) (hosts : ℕ) where
  -- the sections of hosts are those of their answers
  pub sections_are : (until : Option ℤ) → flat_map (section clock limit choice entries) (range_with_len 0 hosts) ≡ sections_text (attempt_answers hosts limit choice entries) clock until
  sections_are until =
      gaps_between (λ host. attempts_text (latest_attempts host limit choice entries) (first_time host entries) clock) hosts
      ∙ ap sections (sym (map-map (λ answer. answer_text answer clock until) (attempt_answer limit choice entries) (range_with_len 0 hosts)))

  -- the rows of hosts are those of their answers
  pub rows_are : row_text default_writer attempt_header ++ flat_map (λ host. flat_map (λ row. row_text default_writer (attempt_fields clock row)) (latest_attempts host limit choice entries)) (range_with_len 0 hosts)
      ≡ table_text Attempts clock (attempt_answers hosts limit choice entries)
  rows_are =
      ap (λ (t : List ℕ). row_text default_writer attempt_header ++ t) (λ j. flat_map (λ host. sym (lines_of (attempt_fields clock) (latest_attempts host limit choice entries)) j) (range_with_len 0 hosts))
      ∙ sym (header_and_rows_by Attempts clock (attempt_answer limit choice entries) (range_with_len 0 hosts))
