-- What a cut session changes on the days of the row in which it ends.
use Rattle.std.specs.Prelude.{ℤ, pos, Option, None, Some}
use Rattle.tally_sessions.specs.declared.connect.cut.Rest.{Rest}
use Rattle.tally_sessions.specs.inside.Spans.{span_change}

-- how many seconds more a day has of that row than the day before it, where the session does not begin there too
unfoldable pub rest_change : ℤ → Option Rest → ℤ
rest_change day None = pos 0
rest_change day (Some rest) = span_change day rest.last.begin rest.last.end_time
