-- What worked command lines are said by.
use Rattle.std.proofs.Common.{◌≡◌, ◌∙◌, ◌-ℤ◌, List, ◌∷◌, None, Some, ap, ap₂, false, pos, refl, replicate, sym, true, true≢false, ℕ, ℤ}
use Rattle.std.specs.Prelude.{codes}
use Rattle.std.proofs.lemmas.Option.{same_Some}
use Rattle.clap.proofs.ValueTestLemmas.{accepts-Accepts}
use Rattle.clap.specs.ValueTests.{accepts}
use Rattle.clap.specs.Words.{Row, Text, one_of}
use Rattle.clap.specs.declared.builder.value_parser.ValueParser.TheVariants.{Unsigned}
use Rattle.tally_records.specs.Choice.{every_login}
use Rattle.tally_records.specs.Text.{padded}
use Rattle.tally_records.specs.declared.choice.LoginChoice.{LoginChoice}
use Rattle.tally_usage.specs.declared.order.Order.{Order}
use Rattle.tally_usage.specs.declared.order.Order.TheVariants.{Calls, Cpu}
use Rattle.tally_line.specs.Lines.{AsksFor, AsksForm, IsFormOf, met_in, rows_met}
use Rattle.tally_line.specs.Options.{IsFlag, IsNumber, IsOffsetOf, IsOptional, SetsJob, WritesIn, is_by_calls, number_of}
use Rattle.tally_line.specs.declared.job.Form.{Form}
use Rattle.tally_line.specs.declared.job.Form.TheVariants as form
use Rattle.tally_line.specs.declared.job.Job.{Job}
use Rattle.tally_line.specs.declared.job.Report.{Report}

-- the matches of words
abbrev pub matches_of : List Text → List Row
matches_of words = rows_met (met_in words)

-- the sessions of ann on tty1
abbrev pub chosen : LoginChoice
chosen = record every_login { users = Some (padded 32 (codes "ann")) ∷ replicate 7 None; lines = Some (padded 32 (codes "tty1")) ∷ replicate 7 None }

-- ---- jobs

-- the words ask for this job, whose moments are not settled
pub record Asks (words : List Text) (job : Job) : Type 0 where
  pub named : AsksFor job.report (met_in words)
  pub form : AsksForm job.report (matches_of words) job.form
  pub options : SetsJob (matches_of words) job

-- a job without a moment to count to
abbrev pub job_with : Report → Form → ℕ → ℕ → ℕ → ℤ → Job
job_with its_report its_form millions feeders askers offset = record { report = its_report; form = its_form; millions = millions; feeders = feeders; askers = askers; offset = offset; until = None }

-- of the jobs with this report they ask for this alone
abbrev pub IsAlone : List Text → Report → Job → Type 0
IsAlone words its_report job = (its_form : Form) (millions feeders askers : ℕ) (offset : ℤ)
    → Asks words (job_with its_report its_form millions feeders askers offset) → job_with its_report its_form millions feeders askers offset ≡ job

-- ---- numbers

-- a text that passes a range writes a number in it
pub writes : (least most : ℕ) (text : Text) → accepts false (Unsigned least most) text ≡ true → WritesIn least most text
writes least most text passes =
    let its = accepts-Accepts false (Unsigned least most) text passes in
    record { digits = its.0; at_least = its.2; at_most = its.3 }

module _ (rows : List Row) (id text : Text) (is : one_of id rows ≡ Some text) where
  pub number_is : (least most default : ℕ) → IsNumber id least most default rows (number_of text)
  number_is least most default = record { none = λ none. cc; some = λ other other_is written. ap number_of (same_Some text other (sym is ∙ other_is)) }

  pub optional_is : (least most : ℕ) → IsOptional id least most rows (Some (number_of text))
  optional_is least most = record { none = λ none. cc; some = λ other other_is written. ap (λ t. Some (number_of t)) (same_Some text other (sym is ∙ other_is)) }

-- an option that is not there has no number
pub optional_none : (rows : List Row) (id : Text) (least most : ℕ) → one_of id rows ≡ None → IsOptional id least most rows None
optional_none rows id least most is = record { none = λ none. refl; some = λ text text_is written. cc }

module _ (rows : List Row) (east west : Text) (is_east : one_of (codes "east") rows ≡ Some east) (is_west : one_of (codes "west") rows ≡ Some west) where
  pub offset_of : IsOffsetOf rows (pos (number_of east) -ℤ pos (number_of west))
  offset_of = record { east = number_of east; west = number_of west; is_east = number_is rows (codes "east") east is_east 0 1439 0; is_west = number_is rows (codes "west") west is_west 0 1439 0; value = refl }

  -- and there is no other
  pub offset_is : accepts false (Unsigned 0 1439) east ≡ true → accepts false (Unsigned 0 1439) west ≡ true → (offset : ℤ) → IsOffsetOf rows offset → offset ≡ pos (number_of east) -ℤ pos (number_of west)
  offset_is east_passes west_passes offset is = is.value ∙ ap₂ (λ e w. pos e -ℤ pos w) (is.is_east.some east is_east (writes 0 1439 east east_passes)) (is.is_west.some west is_west (writes 0 1439 west west_passes))

-- ---- flags

-- a flag is set where its word is `true`
pub flag_set : (rows : List Row) (id : Text) → one_of id rows ≡ Some (codes "true") → IsFlag id rows true
flag_set rows id is = record { given = λ set. refl; left_out = λ clear. cc; none = λ none. cc }

-- and is not where that is `false`
pub flag_clear : (rows : List Row) (id : Text) → one_of id rows ≡ Some (codes "false") → IsFlag id rows false
flag_clear rows id is = record { given = λ set. cc; left_out = λ clear. refl; none = λ none. refl }

-- the form is CSV where the flag is set
pub csv_asked : (rows : List Row) → one_of (codes "csv") rows ≡ Some (codes "true") → IsFormOf rows form.Csv
csv_asked rows is = record { csv = λ set. refl; text = λ clear. cc; none = λ none. cc }

-- and text where it is not
pub text_asked : (rows : List Row) → one_of (codes "csv") rows ≡ Some (codes "false") → IsFormOf rows form.Text
text_asked rows is = record { csv = λ set. cc; text = λ clear. refl; none = λ none. refl }

-- an order by what its test says
pub by_calls : (order : Order) → is_by_calls order ≡ true → order ≡ Calls
by_calls Calls is = refl
by_calls Cpu is = absurd (true≢false (sym is))

-- and likewise where it is not by calls
pub by_cpu : (order : Order) → is_by_calls order ≡ false → order ≡ Cpu
by_cpu Calls is = absurd (true≢false is)
by_cpu Cpu is = refl
