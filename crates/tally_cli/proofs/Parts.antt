-- The parts of a report by file, and its output.
use Rattle.std.proofs.Common.{◌≡◌, ◌∙◌, ◌+◌, ◌++◌, ◌<◌, ◌≤◌, ℕ, zero, suc, List, [], ◌∷◌, Option, None, Some, length, map, get_or, ap, sym, subst, refl, arith, append-nil, inl, inr, length-append}
use Rattle.std.proofs.lemmas.Bool.{cases_lt}
use Rattle.std.proofs.Math.ListN.{get_or-append}
use Rattle.std.proofs.Math.Seq.{get_or-append_seam}
use Rattle.std.proofs.lemmas.List.{get_or-map}
use Rattle.std.specs.List.{All, enumerate_from, flat_map}
use Rattle.tally_answers.specs.Answers.{HasDays}
use Rattle.tally_clock.specs.Rows.{ClockRows}
use Rattle.tally_line.specs.declared.job.Form.TheVariants.{Text, Csv}
use Rattle.tally_line.specs.declared.job.Job.{Job}
use Rattle.tally_line.specs.declared.job.Report.{Report}
use Rattle.tally_print.specs.FileUsage.{file_header}
use Rattle.tally_print.specs.Tables.{csv_text}
use Rattle.tally_records.specs.declared.process.ProcRecord.{ProcRecord}
use Rattle.tally_usage.specs.Sums.{AreSumsOf}
use Rattle.tally_usage.specs.declared.choice.ProcChoice.{ProcChoice}
use Rattle.tally_cli.specs.Output.{login_entries, proc_entries}
use Rattle.tally_cli.specs.Runs.{Told, records_told}
use Rattle.tally_cli.specs.Apart.{file_table, file_text, files_head, files_tail}
use Rattle.tally_cli.specs.UsageOutput.{Wanted, answers_on, by_file_output, chosen_entries, usage_output}
use Rattle.tally_cli.specs.Usages.{procs_told}
use Rattle.tally_cli.specs.declared.running.files.Count.TheVariants as count
use Rattle.tally_cli.specs.declared.running.parts.FilePart.{FilePart}
use Rattle.tally_cli.specs.inside.Counts.{ProcCount, AreSumsIn, AreSumsInEach}
use Rattle.tally_cli.specs.inside.Files.{HasSums}
use Rattle.tally_cli.specs.inside.Parts.{AreAnswered, AreAnsweredWanted, AreParts, ArePartsWanted, HasPart, IsAnswerAbout, IsPartOf, IsWithPart, part_text}
use Rattle.tally_cli.proofs.Summed.{chosen_records}

-- ---- one part more

pub no_parts : (wanted : Option Report) (at : ℕ → ProcCount) → ArePartsWanted wanted 0 at []
no_parts None at = refl
no_parts (Some r) at = record { count = refl; each = λ k d l. absurd (omega (arith, l)) }

module _ (r : Report) (at : ℕ → ProcCount) (host : ℕ) (old : List FilePart) (before : AreParts r host at old) (part : FilePart) (of : IsPartOf r host (at host) part) where
  longer : AreParts r (host + 1) at (old ++ part ∷ [])
  longer = record {
    count = length-append old (part ∷ []) ∙ ap (λ n. n + 1) before.count;
    each = λ k d l. elim (cases_lt k host) [
      | inl first ↦ subst (IsPartOf r k (at k)) (sym (get_or-append old (part ∷ []) d k (omega (arith, first, before.count)))) (before.each k d first)
      | inr last ↦
          let here : k ≡ host = omega (arith, l, last) in
          let own : get_or (old ++ part ∷ []) k d ≡ part = ap (λ n. get_or (old ++ part ∷ []) n d) (here ∙ sym before.count) ∙ get_or-append_seam old part [] d in
          subst (IsPartOf r k (at k)) (sym own) (subst (λ n. IsPartOf r n (at n) part) (sym here) of)
    ];
  }

pub part_added : (wanted : Option Report) (at : ℕ → ProcCount) (host : ℕ) (c : ProcCount) (old new : List FilePart) → c ≡ at host → HasSums c → ArePartsWanted wanted host at old → IsWithPart wanted host c old new → ArePartsWanted wanted (host + 1) at new
part_added None at host c old new is has before added = added ∙ before
part_added (Some r) at host count.Untried old new is has before added = absurd has
part_added (Some r) at host (count.Fault found) old new is has before added = absurd has
part_added (Some r) at host (count.Sums sums) old new is has before (part, of, more) =
    subst (AreParts r (host + 1) at) (sym more) (longer r at host old before part (subst (λ c. IsPartOf r host c part) is of))

-- ---- all parts

own_of : (r : Report) (file : ℕ) (c : ProcCount) (part : FilePart) → IsPartOf r file c part → (part.file ≡ file) × HasDays part.answer
own_of r file count.Untried part of = absurd of
own_of r file (count.Sums sums) part of = (of.0, of.1)
own_of r file (count.Fault found) part of = absurd of

about : (r : Report) (file : ℕ) (c : ProcCount) (part : FilePart) (rs : List ProcRecord) → IsPartOf r file c part → AreSumsIn c rs → IsAnswerAbout r rs part.answer
about r file count.Untried part rs of sums = absurd of
about r file (count.Sums s) part rs of sums = λ clock offset kinds until logins procs are. of.2 clock offset kinds until logins procs (subst (AreSumsOf s) (sym are) sums)
about r file (count.Fault found) part rs of sums = absurd of

pub have_parts : (wanted : Option Report) (files : ℕ) (at : ℕ → ProcCount) (parts : List FilePart) → files ≤ 128 → ArePartsWanted wanted files at parts → All HasPart parts
have_parts None files at parts few none k d l = absurd (omega (arith, l, ap length none))
have_parts (Some r) files at parts few are k d l =
    let near : k < files = omega (arith, l, are.count) in
    let own = own_of r k (at k) (get_or parts k d) (are.each k d near) in
    record { few = omega (arith, own.0, near, few); days = own.1 }

-- the parts answer on the records of the inputs
pub are_answered : (choice : ProcChoice) (wanted : Option Report) (files : ℕ) (at : ℕ → ProcCount) (inputs : List Told) (parts : List FilePart) → length inputs ≡ files
    → AreSumsInEach files at (map (procs_told choice) inputs) → ArePartsWanted wanted files at parts → AreAnsweredWanted choice wanted inputs parts
are_answered choice None files at inputs parts same sums are = tt
are_answered choice (Some r) files at inputs parts same sums are = record {
  count = are.count ∙ sym same;
  own = λ k d l. (own_of r k (at k) (get_or parts k d) (are.each k d (omega (arith, l, same)))).0;
  answer = λ k i d l.
      let near : k < files = omega (arith, l, same) in
      about r k (at k) (get_or parts k d) (procs_told choice (get_or inputs k i)) (are.each k d near)
      (subst (AreSumsIn (at k)) (get_or-map (procs_told choice) inputs k i [] l) (sums.each k near));
}

-- ---- the output

module _ (clock : ClockRows) (job : Job) (wanted : Wanted) where
  abbrev one : ℕ × Told → List ℕ
  one numbered = file_text clock job wanted.names wanted.apart numbered.0 (answers_on clock job wanted.choice (numbered.1 ∷ []))

  -- a part is what is printed of its file alone
  alone : (file : ℕ) (input : Told) (part : FilePart) → part.file ≡ file → IsAnswerAbout job.report (procs_told wanted.choice input) part.answer → part_text clock job wanted.names wanted.apart part ≡ one (file, input)
  alone file input part own answer =
      let only : List Told = input ∷ [] in
      let same = answer clock job.offset (map (λ (i : Told). i.kind) only) job.until (login_entries (map records_told only)) (chosen_entries wanted.choice (proc_entries (map records_told only)))
      (chosen_records wanted.choice only ∙ append-nil (procs_told wanted.choice input)) in
      λ j. file_text clock job wanted.names wanted.apart (own j) (sym same j)

  parts_from : (n : ℕ) (inputs : List Told) (parts : List FilePart) → length parts ≡ length inputs
      → ((k : ℕ) (d : FilePart) → k < length inputs → (get_or parts k d).file ≡ n + k)
      → ((k : ℕ) (i : Told) (d : FilePart) → k < length inputs → IsAnswerAbout job.report (procs_told wanted.choice (get_or inputs k i)) (get_or parts k d).answer)
      → flat_map (part_text clock job wanted.names wanted.apart) parts ≡ flat_map one (enumerate_from n inputs)
  parts_from n [] [] same own answer = refl
  parts_from n [] (p ∷ ps) same own answer = absurd (omega (arith, same))
  parts_from n (i ∷ is) [] same own answer = absurd (omega (arith, same))
  parts_from n (i ∷ is) (p ∷ ps) same own answer =
      let first = alone n i p (own zero p (omega arith) ∙ omega arith) (answer zero i p (omega arith)) in
      let rest = parts_from (n + 1) is ps (omega (arith, same)) (λ k d l. own (suc k) d (omega (arith, l)) ∙ omega arith) (λ k x d l. answer (suc k) x d (omega (arith, l))) in
      λ j. first j ++ rest j

  module _ (inputs : List Told) (parts : List FilePart) (are : AreAnswered wanted.choice job.report inputs parts) where
    pub parts_are : flat_map (part_text clock job wanted.names wanted.apart) parts ≡ flat_map one (enumerate_from 0 inputs)
    parts_are = parts_from 0 inputs parts are.count (λ k d l. are.own k d l ∙ omega arith) are.answer

    -- in text the report on all stands below the parts
    pub in_text : job.form ≡ Text → flat_map (part_text clock job wanted.names wanted.apart) parts ++ usage_output clock job wanted inputs ≡ by_file_output clock job wanted inputs
    in_text is = λ j. files_head (sym is j) wanted.apart.paths (file_table job.report wanted.names) ++ (parts_are j ++ files_tail (sym is j) (usage_output clock job wanted inputs))

    -- and in a table the names of the columns above them
    pub in_table : job.form ≡ Csv → csv_text (file_header wanted.apart.paths (file_table job.report wanted.names) ∷ []) ++ flat_map (part_text clock job wanted.names wanted.apart) parts ≡ by_file_output clock job wanted inputs
    in_table is =
        ap (λ l. csv_text (file_header wanted.apart.paths (file_table job.report wanted.names) ∷ []) ++ l) (sym (append-nil (flat_map (part_text clock job wanted.names wanted.apart) parts)))
        ∙ (λ j. files_head (sym is j) wanted.apart.paths (file_table job.report wanted.names) ++ (parts_are j ++ files_tail (sym is j) (usage_output clock job wanted inputs)))
