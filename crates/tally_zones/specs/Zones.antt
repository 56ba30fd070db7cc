-- The clock of a zone's word, as far as the files of the system do not decide it.
use Rattle.std.specs.Prelude.{◌≡◌, ◌+◌, ◌↔◌, ℕ, Err, IfOk, List, None, Result, take}
use Rattle.jiff_tz.specs.PosixReader.{read_whole}
use Rattle.tally_clock.specs.Rows.{ClockRows}
use Rattle.tally_clock.specs.Rules.{IsClockOfRule}
use Rattle.tally_clock.specs.Words.{zone_text}
use Rattle.tally_clock.specs.declared.file.FileFault.{FileFault}
use Rattle.tally_clock.specs.declared.file.FileFault.TheVariants as file
use Rattle.tally_clock.specs.declared.file.TheConstants.{FILE_LIMIT}
use Rattle.tally_clock.specs.declared.rule.RuleFault.{RuleFault}
use Rattle.tally_clock.specs.declared.rule.RuleFault.TheVariants as rule
use Rattle.tally_clock.specs.declared.word.ZoneText.TheVariants.{MistakenOffset, Rule}
use Rattle.tally_zones.specs.declared.zone.ZoneFault.{ZoneFault}
use Rattle.tally_zones.specs.declared.zone.ZoneFault.TheVariants as fault

-- as much of a file as shows whether it is too large
abbrev pub front_of : List ℕ → List ℕ
front_of bytes = take (FILE_LIMIT + 1) bytes

-- what is said of a file that gives no clock
abbrev pub of_file_fault : FileFault → ZoneFault
of_file_fault file.Memory = fault.Memory
of_file_fault found = fault.NoZone

-- what is said of a text that gives no clock
abbrev pub of_rule_fault : RuleFault → ZoneFault
of_rule_fault rule.Memory = fault.Memory
of_rule_fault found = fault.NotFound

-- what a word gives that names no file: the clock of its rule; a mistaken offset gives none, nor does what is no rule
pub record IsOfText (word : List ℕ) (given : Result ClockRows ZoneFault) : Type 0 where
  pub clock : IfOk given (IsClockOfRule word)
  pub mistaken : (given ≡ Err fault.Mistaken) ↔ (zone_text word ≡ MistakenOffset)
  pub no_rule : zone_text word ≡ Rule → read_whole word ≡ None → given ≡ Err fault.NotFound
