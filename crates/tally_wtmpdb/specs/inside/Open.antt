-- What is kept of the sessions that are open.
use Rattle.std.specs.Prelude.{◌≡◌, ℕ, ◌≤◌, Bool, List, Option, Some, None, if◌then◌else◌, unwrap_or}
use Rattle.std.specs.BTreeMap.{get}
use Rattle.std.specs.Cmp.Lexicographic.{slice_cmp}
use Rattle.std.specs.List.{count_by, list_any}
use Rattle.std.specs.Ordering.{nat_cmp}
use Rattle.sqlite_value.specs.Order.{Row}
use Rattle.tally_wtmpdb.specs.Lines.{is_marked, is_of_row, is_on}
use Rattle.tally_wtmpdb.specs.declared.lines.OpenSessions.{OpenSessions}
use Rattle.tally_wtmpdb.specs.declared.moment.Moment.{Moment}

-- whether the line of the session of the row at a place has a mark, where the session is open
abbrev pub mark_in : OpenSessions → ℕ → Option Bool
mark_in sessions place = get nat_cmp sessions.marks place

-- how many open sessions have this text
abbrev pub count_in : OpenSessions → List ℕ → ℕ
count_in sessions text = unwrap_or (get (slice_cmp nat_cmp) sessions.counts text) 0

-- what is kept is that of the sessions that these logins began
pub record IsKept (rows : List Row) (ordered logins : List Moment) (sessions : OpenSessions) : Type 0 where
  pub marks : (place : ℕ) → mark_in sessions place ≡ (if list_any (is_of_row place) logins then Some (is_marked rows ordered place) else None)
  pub counts : (text : List ℕ) → count_in sessions text ≡ count_by (is_on rows text) logins
  pub once : (place : ℕ) → count_by (is_of_row place) logins ≤ 1
