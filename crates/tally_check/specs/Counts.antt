-- What is counted over the records of a file.
use Rattle.std.specs.Prelude.{ℤ, Bool, List, Option, Some, None, length, count_by}
use Rattle.std.specs.List.{filter_map, fold, position, suffix_len}
use Rattle.std.specs.Int.{int_max, int_min}
use Rattle.tally_check.specs.declared.counts.Counts.{Counts}
use Rattle.tally_check.specs.declared.counts.Found.{Found}
use Rattle.tally_check.specs.declared.counts.Span.{Span}
use Rattle.tally_check.specs.declared.counts.Zeros.{Zeros}
use Rattle.tally_check.specs.declared.seen.Seen.{Seen}
use Rattle.tally_check.specs.declared.seen.Seen.TheVariants.{Known}
use Rattle.tally_check.specs.Seen.{is_unknown, is_zeros}

-- how many records pass a test, and the place of the first
abbrev pub found_in : (Seen → Bool) → List Seen → Found
found_in p seen = record { count = count_by p seen; first = position p seen }

-- the records of zeros alone, and how many of them stand after all others
abbrev pub zeros_in : List Seen → Zeros
zeros_in seen = record { all = found_in is_zeros seen; at_end = suffix_len is_zeros seen }

-- the second that a record names
abbrev pub time_of : Seen → Option ℤ
time_of (Known kind time) = Some time
time_of _ = None

-- the seconds that records name, in stored order
abbrev pub times_of : List Seen → List ℤ
times_of seen = filter_map time_of seen

-- the earliest and the latest of a span and one second more
abbrev pub widened : Option Span → ℤ → Span
widened None time = record { first = time; last = time }
widened (Some span) time = record { first = int_min span.first time; last = int_max span.last time }

-- the earliest and the latest of seconds, or nothing of none
abbrev pub span_in : List ℤ → Option Span
span_in times = fold (λ span time. Some (widened span time)) None times

abbrev pub span_of : List Seen → Option Span
span_of seen = span_in (times_of seen)

-- all counts
abbrev pub counts_of : List Seen → Counts
counts_of seen = record {
  records = length seen;
  zeros = zeros_in seen;
  unknown = found_in is_unknown seen;
  span = span_of seen;
}
