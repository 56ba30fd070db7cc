-- A text that grows by what is found of file after file.
use Rattle.std.proofs.Common.{◌≡◌, ◌<◌, ◌+◌, ◌++◌, ◌⊎◌, ◌||◌, ℕ, ℤ, Bool, false, List, [], ◌∷◌, arith, length, inl, inr, refl, sym, ap, append_assoc, ◌∙◌}
use Rattle.std.proofs.Math.Bool.{or-false}
use Rattle.std.specs.List.{flat_map, list_any}
use Rattle.std.proofs.lemmas.List.{append-nil, flat_map_more, length_push}
use Rattle.std.proofs.lemmas.List.Folds.{list_any-append}
use Rattle.tally.proofs.PlaceLemmas.{one_more, stops_next}
use Rattle.tally.specs.Checked.{IsFirstNotChecked, IsNotCheckedAt, IsPartAt, IsWithPart, IsWithParts, Part, is_doubtful_part}
use Rattle.tally.specs.Checks.{gap_text, head_text, with_found}
use Rattle.tally.specs.Places.{AllAt}
use Rattle.tally.specs.declared.checking.Checked.{Checked}
use Rattle.tally.specs.declared.checking.NotChecked.{NotChecked}
use Rattle.tally.specs.declared.checking.NotChecked.TheVariants.{Memory}
use Rattle.tally_check.specs.Findings.{is_doubtful}
use Rattle.tally_check.specs.declared.findings.Findings.{Findings}
use Rattle.tally_check_text.specs.SectionText.{section_text}
use Rattle.tally_check_text.specs.declared.origin.Origin.{Origin}
use Rattle.tally_line.specs.declared.job.Form.{Form}
use Rattle.tally_line.specs.declared.job.Form.TheVariants.{Csv, Text}
use Rattle.tally_line.specs.declared.line.Check.{Check}

-- a text has been extended by what is found of the first files, and this says whether one of them is doubtful
pub record HasGrown (finds : List ℕ → Checked → Type 0) (asked : Check) (clock : ℤ → ℤ) (start now : List ℕ) (doubtful : Bool) (files : ℕ) : Type 0 where
  pub parts : List Part
  pub count : length parts ≡ files
  pub each : AllAt (IsPartAt finds asked clock) parts
  pub text : now ≡ start ++ flat_map (λ part. part.text) parts
  pub doubt : doubtful ≡ list_any is_doubtful_part parts

-- by none
pub by_none : (finds : List ℕ → Checked → Type 0) (asked : Check) (clock : ℤ → ℤ) (start text : List ℕ) → text ≡ start → HasGrown finds asked clock start text false 0
by_none finds asked clock start text same = record {
  parts = [];
  count = search arith;
  each = λ k part below. absurd (omega (arith, below));
  text = same ∙ sym (append-nil start);
  doubt = search arith;
}

-- by one more
pub by_one_more : (finds : List ℕ → Checked → Type 0) (asked : Check) (clock : ℤ → ℤ) (start old new : List ℕ) (before after : Bool) (checked : Checked) (at : ℕ)
    → HasGrown finds asked clock start old before at → IsWithPart finds asked clock at old new checked → after ≡ (before || is_doubtful checked.findings.content)
    → HasGrown finds asked clock start new after (at + 1)
by_one_more finds asked clock start old new before after checked at grown one doubt =
    let part : Part = record { checked = checked; text = one.text } in record {
      parts = grown.parts ++ part ∷ [];
      count = length_push grown.parts part ∙ ap (λ n. n + 1) grown.count;
      each = one_more (IsPartAt finds asked clock) grown.parts (grown.parts ++ part ∷ []) part at refl grown.count grown.each one.is_part;
      text = one.grown ∙ ap (λ t. t ++ one.text) grown.text ∙ flat_map_more (λ part. part.text) start grown.parts part;
      doubt = doubt ∙ ap (λ b. b || is_doubtful_part part) grown.doubt ∙ ap (λ b. list_any is_doubtful_part grown.parts || b) (sym (or-false (is_doubtful_part part)))
          ∙ sym (list_any-append is_doubtful_part grown.parts (part ∷ []));
    }

-- by all that are asked for
pub by_all : (finds : List ℕ → Checked → Type 0) (asked : Check) (clock : ℤ → ℤ) (old text : List ℕ) (doubtful : Bool)
    → HasGrown finds asked clock (old ++ head_text asked.form asked.paths) text doubtful (length asked.files.items) → IsWithParts finds asked clock old text doubtful
by_all finds asked clock old text doubtful grown =
    record { parts = grown.parts; count = grown.count; each = grown.each; grown = grown.text; doubt = grown.doubt }

-- the file that comes next could not be checked
pub first_not_checked : (finds : List ℕ → Checked → Type 0) (refuses : List ℕ → NotChecked → Type 0) (asked : Check) (clock : ℤ → ℤ) (start text : List ℕ) (doubtful : Bool) (at : ℕ)
    (fault : NotChecked) → HasGrown finds asked clock start text doubtful at → at < length asked.files.items → (fault ≡ Memory) ⊎ IsNotCheckedAt refuses asked at fault
    → IsFirstNotChecked finds refuses asked clock fault
first_not_checked finds refuses asked clock start text doubtful at fault grown within (inl memory) = inl memory
first_not_checked finds refuses asked clock start text doubtful at fault grown within (inr refused) = inr (
  grown.parts,
  stops_next (IsPartAt finds asked clock) (IsNotCheckedAt refuses asked) (length asked.files.items) grown.parts at fault grown.count within grown.each refused,
)

-- what is found of a file is appended
pub with_found_is : (form : Form) (paths : Bool) (clock : ℤ → ℤ) (number : ℕ) (path : List ℕ) (origin : Origin) (found : Findings) (text : List ℕ)
    → with_found form paths clock number path origin found text ≡ text ++ with_found form paths clock number path origin found []
with_found_is Csv paths clock number path origin found text = refl
with_found_is Text paths clock number path origin found text = append_assoc text (gap_text number) (section_text clock path origin found)
