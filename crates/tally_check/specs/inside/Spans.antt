-- A span of seconds, kept record by record.
use Rattle.std.specs.Prelude.{Option, Some}
use Rattle.tally_check.specs.Counts.{widened}
use Rattle.tally_check.specs.declared.counts.Span.{Span}
use Rattle.tally_check.specs.declared.seen.Seen.{Seen}
use Rattle.tally_check.specs.declared.seen.Seen.TheVariants.{Zeros, Unknown, Known}

-- the span with the second that one record more names
abbrev pub with_one : Option Span → Seen → Option Span
with_one span Zeros = span
with_one span Unknown = span
with_one span (Known kind time) = Some (widened span time)
