-- What the options of a command line set.
use Rattle.std.specs.Prelude.{◌≡◌, ◌≤◌, ◌-ℤ◌, ℕ, ℤ, pos, Bool, true, false, List, Option, None, Some, ⊤, bytes_eq, codes}
use Rattle.std.specs.Option.{option_map_or}
use Rattle.std.specs.Str.Parse.{IsNumeral, digits_value, without_leading_plus}
use Rattle.clap.specs.Walk.{first_of}
use Rattle.clap.specs.Words.{Row, Text, one_of}
use Rattle.tally_line.specs.Named.{login_choice}
use Rattle.tally_line.specs.Times.{has_period}
use Rattle.tally_line.specs.declared.job.Job.{Job}
use Rattle.tally_line.specs.declared.job.Report.{Report}
use Rattle.tally_line.specs.declared.job.Report.TheVariants as report
use Rattle.tally_usage.specs.declared.order.Order.{Order}
use Rattle.tally_usage.specs.declared.order.Order.TheVariants.{Calls, Cpu}

-- the number that a text of digits writes
abbrev pub number_of : Text → ℕ
number_of text = digits_value 10 (without_leading_plus text)

-- a text of digits writes a number in a range, as `clap` asks of each option's value
pub record WritesIn (least most : ℕ) (text : Text) : Type 0 where
  pub digits : IsNumeral 10 (without_leading_plus text)
  pub at_least : least ≤ number_of text
  pub at_most : number_of text ≤ most

-- the number of an option in a range, and the default where the option is not there
pub record IsNumber (id : Text) (least most default : ℕ) (rows : List Row) (n : ℕ) : Type 0 where
  pub none : one_of id rows ≡ None → n ≡ default
  pub some : (text : Text) → one_of id rows ≡ Some text → WritesIn least most text → n ≡ number_of text

-- the number of an option that has no default
pub record IsOptional (id : Text) (least most : ℕ) (rows : List Row) (n : Option ℕ) : Type 0 where
  pub none : one_of id rows ≡ None → n ≡ None
  pub some : (text : Text) → one_of id rows ≡ Some text → WritesIn least most text → n ≡ Some (number_of text)

-- whether a flag is there
pub record IsFlag (id : Text) (rows : List Row) (set : Bool) : Type 0 where
  pub given : one_of id rows ≡ Some (codes "true") → set ≡ true
  pub left_out : one_of id rows ≡ Some (codes "false") → set ≡ false
  pub none : one_of id rows ≡ None → set ≡ false

-- a flag is set
abbrev pub is_set : Text → List Row → Bool
is_set id rows = option_map_or (λ word. bytes_eq word (codes "true")) (first_of id rows) false

-- whether commands or users are ordered by calls
abbrev pub is_by_calls : Order → Bool
is_by_calls Calls = true
is_by_calls Cpu = false

-- what is asked of a report, before its period is known
abbrev pub IsReportOf : Report → List Row → Type 0
IsReportOf (report.Last limit choice within) rows =
    IsOptional (codes "limit") 1 16777216 rows limit × (choice ≡ login_choice rows) × (within ≡ has_period rows)
IsReportOf (report.Attempts limit choice) rows =
    IsFlag (codes "sum") rows false × IsOptional (codes "limit") 1 16777216 rows limit × (choice ≡ login_choice rows)
IsReportOf (report.AttemptSums limit choice) rows =
    IsFlag (codes "sum") rows true × IsOptional (codes "limit") 1 16777216 rows limit × (choice ≡ login_choice rows)
IsReportOf (report.Connect by_day by_user choice) rows =
    IsFlag (codes "by_day") rows by_day × IsFlag (codes "by_user") rows by_user × (choice ≡ login_choice rows)
IsReportOf (report.Commands order reverse all) rows =
    IsFlag (codes "by_user") rows false × IsFlag (codes "by_calls") rows (is_by_calls order)
    × IsFlag (codes "reverse") rows reverse × IsFlag (codes "keep_all") rows all
IsReportOf (report.Users order reverse) rows =
    IsFlag (codes "by_user") rows true × IsFlag (codes "by_calls") rows (is_by_calls order)
    × IsFlag (codes "reverse") rows reverse
IsReportOf report.All rows = ⊤

-- how many times 1,048,576 records a report takes: `sa` keeps none
abbrev pub AreMillionsOf : Report → List Row → ℕ → Type 0
AreMillionsOf (report.Commands order reverse all) rows millions = millions ≡ 1
AreMillionsOf (report.Users order reverse) rows millions = millions ≡ 1
AreMillionsOf r rows millions = IsNumber (codes "millions") 1 16 1 rows millions

-- how many askers a report has: only that of all has any
abbrev pub AreAskersOf : Report → List Row → ℕ → Type 0
AreAskersOf report.All rows askers = IsNumber (codes "askers") 0 64 0 rows askers
AreAskersOf r rows askers = askers ≡ 0

-- minutes east of UTC: those east less those west
pub record IsOffsetOf (rows : List Row) (offset : ℤ) : Type 0 where
  pub east : ℕ
  pub west : ℕ
  pub is_east : IsNumber (codes "east") 0 1439 0 rows east
  pub is_west : IsNumber (codes "west") 0 1439 0 rows west
  pub value : offset ≡ pos east -ℤ pos west

-- the matches set all of a job but its form and its moments, which are not settled
pub record SetsJob (rows : List Row) (job : Job) : Type 0 where
  pub report : IsReportOf job.report rows
  pub millions : AreMillionsOf job.report rows job.millions
  pub feeders : IsNumber (codes "feeders") 1 64 4 rows job.feeders
  pub askers : AreAskersOf job.report rows job.askers
  pub offset : IsOffsetOf rows job.offset
  pub unsettled : job.until ≡ None
