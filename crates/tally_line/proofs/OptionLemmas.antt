-- The numbers of options.
use Rattle.std.proofs.Common.{◌≡◌, ◌<◌, ◌≤◌, ◌^◌, ℕ, Option, None, Some, ap, arith}
use Rattle.clap.specs.Words.{ReadsOne, Text, one_text, rows_of}
use Rattle.clap.specs.declared.parser.matches.Found.{Found}
use Rattle.std.specs.Str.Parse.{ExplainsUnsignedError, HasUnsignedDigitsIfOk, ParsesUnsigned}
use Rattle.std.specs.declared.num.ParseIntError.{ParseIntError}
use Rattle.std.specs.Prelude.{Result, List}
use Rattle.tally_line.proofs.LineLemmas.{flag_in_rows}
use Rattle.tally_line.specs.Options.{IsOptional, WritesIn, number_of}

-- how `u32` reads a text
abbrev reads : List ℕ → Result ℕ ParseIntError → Type 0
reads bs r = ParsesUnsigned 32 10 bs r × ExplainsUnsignedError 10 bs r × HasUnsignedDigitsIfOk bs r

-- a text that writes a number in a range of 32 bits is read as it
read_in : (least most : ℕ) (text : Text) (read : Option ℕ) → most < 2 ^ 32 → WritesIn least most text → ReadsOne reads text read
    → read ≡ Some (number_of text)
read_in least most text (Some n) fits writes said = ap Some said.0.1
read_in least most text None fits writes said = absurd (said.1.0 (writes.digits, omega (arith, writes.at_most)))

-- what was read of an option, kept where it is in the range, is the option's number
pub optional_is : (f : Found) (id : Text) (least most : ℕ) (read r : Option ℕ) → most < 2 ^ 32
    → (one_text f id ≡ None → read ≡ None) → ((t : List ℕ) → one_text f id ≡ Some t → ReadsOne reads t read)
    → (read ≡ None → r ≡ None) → ((n : ℕ) → read ≡ Some n → least ≤ n → n ≤ most → r ≡ Some n)
    → IsOptional id least most (rows_of f) r
optional_is f id least most read r fits none value lacking kept = record {
  none = λ is. lacking (none (flag_in_rows f id None is));
  some = λ text is writes. kept (number_of text) (read_in least most text read fits writes (value text (flag_in_rows f id (Some text) is))) writes.at_least writes.at_most;
}
