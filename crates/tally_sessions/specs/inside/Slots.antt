-- The slots of lines, and what their sessions weigh.
use Rattle.std.specs.Prelude.{ℕ, List, [], ◌∷◌, bytes_eq, false, true, if◌then◌else◌, get_or, sum_by, ℤ, pos}
use Rattle.tally_sessions.specs.declared.connect_sums.slot.Slot.{Slot}
use Rattle.tally_sessions.specs.Opens.{Open, length_at}

-- the session of a slot
abbrev pub session_of : Slot → Open
session_of s = record { line = s.line; user = s.user; start = s.start; clock_at = s.clock_at }

-- its length at a time, when the clock has moved so far
abbrev pub length_of : ℤ → ℤ → Slot → ℕ
length_of now time s = length_at now time (session_of s)

-- its weight, where it is open
abbrev pub weight_at : (Open → ℕ) → Slot → ℕ
weight_at weight s = if s.is_open then weight (session_of s) else 0

-- the sessions that are open
abbrev pub opens_in : List Slot → List Open
opens_in [] = []
opens_in (s ∷ ss) = if s.is_open then session_of s ∷ opens_in ss else opens_in ss

-- each session weighs one
abbrev pub one : Open → ℕ
one o = 1

-- what they weigh together
abbrev pub weight_in : (Open → ℕ) → List Slot → ℕ
weight_in weight slots = sum_by (weight_at weight) slots

-- how many sessions are open
abbrev pub open_count : List Slot → ℕ
open_count slots = weight_in one slots

-- the weight of sessions on a line alone
abbrev pub on_line : List ℕ → (Open → ℕ) → Open → ℕ
on_line line weight o = if bytes_eq o.line line then weight o else 0

-- the weight of sessions on other lines
abbrev pub off_line : List ℕ → (Open → ℕ) → Open → ℕ
off_line line weight o = if bytes_eq o.line line then 0 else weight o

-- a slot whose session has just begun
abbrev pub begun : Open → Slot
begun o = record { line = o.line; user = o.user; start = o.start; clock_at = o.clock_at; is_open = true; is_listed = true }

-- a slot whose session has ended
abbrev pub closed : Slot → Slot
closed s = record s { is_open = false }

-- the same, whose line is not listed any more
abbrev pub unlisted : Slot → Slot
unlisted s = record s { is_open = false; is_listed = false }

-- what a read of a slot gives past the end
abbrev pub no_slot : Slot
no_slot = record { line = []; user = []; start = pos 0; clock_at = pos 0; is_open = false; is_listed = false }

abbrev pub slot_at : List Slot → ℕ → Slot
slot_at slots k = get_or slots k no_slot
