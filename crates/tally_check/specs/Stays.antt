-- Sessions of login records that weigh in a report: those still open, and those that a boot ended.
use Rattle.std.specs.Prelude.{ℕ, Bool, true, false, not, ◌&&◌, List, None, count_by, filter, reverse, sum_by}
use Rattle.tally_check.specs.Logins.{logins_in}
use Rattle.tally_check.specs.declared.stays.Sessions.{Sessions}
use Rattle.tally_check.specs.declared.stays.Stayed.{Stayed}
use Rattle.tally_sessions.specs.Choice.{is_open}
use Rattle.tally_sessions.specs.Hosts.{posted_by}
use Rattle.tally_sessions.specs.Totals.{stays_of}
use Rattle.tally_sessions.specs.declared.entry.End.{End}
use Rattle.tally_sessions.specs.declared.entry.End.TheVariants.{Crash}
use Rattle.tally_sessions.specs.declared.entry.Entry.{Entry}
use Rattle.tally_sessions.specs.declared.entry.Stay.{Stay}

-- a boot ended the stay, with no shutdown before it
abbrev pub is_crash : End → Bool
is_crash Crash = true
is_crash _ = false

-- a session that nothing has ended
abbrev pub is_open_session : Stay → Bool
is_open_session s = not s.is_boot && is_open s.end

-- a session that a boot ended
abbrev pub is_crashed_session : Stay → Bool
is_crashed_session s = not s.is_boot && is_crash s.end

-- how many stays pass a test, and their seconds together
abbrev pub stayed : (Stay → Bool) → List Stay → Stayed
stayed p stays = record { count = count_by p stays; seconds = sum_by (λ s. s.length) (filter p stays) }

-- what of stays weighs
abbrev pub weighed : List Stay → Sessions
weighed stays = record {
  still_open = stayed is_open_session stays;
  crashed = stayed is_crashed_session stays;
}

-- the stays of stored entries, as `last` lists them; one that nothing has ended counts up to the last record
abbrev pub stays_among : List Entry → List Stay
stays_among entries = reverse (stays_of 0 entries None)

-- what of these records' sessions weighs
abbrev pub sessions_in : List (List ℕ) → Sessions
sessions_in records = weighed (stays_among (posted_by 0 (logins_in records)))
