-- The files that sa(8) of GNU acct keeps its sums in, as it writes them on x86-64: savacct by command, usracct by user.
-- They have no mark, and no manual gives their layout: it is that of the files themselves.
use Rattle.std.specs.Prelude.{ℕ, Bool, List, slice_index, nat_le, not, ◌==◌, ◌&&◌, ◌||◌}
use Rattle.std.specs.List.{list_all}
use Rattle.tally_kinds.specs.Records.{field_at, has_text, records}
use Rattle.tally_kinds.specs.Texts.{are_zeros}

-- a count of calls, 8 bytes and little-endian: not 0, and below 2 ^ 32
abbrev pub is_count : List ℕ → Bool
is_count bytes = not (are_zeros (field_at 0 4 bytes)) && are_zeros (field_at 4 4 bytes)

-- a sum, a double of IEEE 754: 0, or from 2 ^ -31 up to 2 ^ 81, as its highest byte shows
abbrev pub is_sum : List ℕ → Bool
is_sum bytes = are_zeros bytes || (nat_le 0x3E (slice_index bytes 7) && nat_le (slice_index bytes 7) 0x44)

-- a count of calls, and then eight sums of times, memory, input and output
abbrev pub has_sums : List ℕ → Bool
has_sums bytes = is_count (field_at 0 8 bytes) && list_all is_sum (records 8 (field_at 8 64 bytes))

-- an entry of savacct: a command, whether it forked and went on without exec, and its sums, after 7 bytes that sa does not set
abbrev pub is_command_sum : List ℕ → Bool
is_command_sum bytes = has_text 0 16 bytes && (nat_le (slice_index bytes 16) 1 && has_sums (field_at 24 72 bytes))

-- an entry of usracct: a user, by number where it has no name, and its sums
abbrev pub is_user_sum : List ℕ → Bool
is_user_sum bytes = has_text 0 32 bytes && (not (slice_index bytes 0 == 0) && has_sums (field_at 32 72 bytes))
