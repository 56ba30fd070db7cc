-- What a file looks like: the first of the kinds, in their order, that its first bytes and its size are of.
use Rattle.std.specs.Prelude.{ℕ, Bool, true, List, [], ◌∷◌, find, length, unwrap_or, ◌==◌}
use Rattle.std.specs.List.{list_all}
use Rattle.tally_kinds.specs.Marks.{begins_with, gzip_mark, is_bzip2, sqlite_mark, xz_mark, zstd_mark}
use Rattle.tally_kinds.specs.Records.{has_all, has_failed_logins, has_long_logins, is_big_endian_login, is_last_login, is_login, is_proc}
use Rattle.tally_kinds.specs.Sums.{is_command_sum, is_user_sum}
use Rattle.tally_kinds.specs.Texts.{is_text_byte}
use Rattle.tally_kinds.specs.declared.kinds.Looks.{Looks}
use Rattle.tally_kinds.specs.declared.kinds.Looks.TheVariants.{Nothing, Gzip, Xz, Zstd, Bzip2, Sqlite, FailedLogins, Logins, Logins400, BigEndianLogins, Processes, BigEndianProcesses, Lastlog, Savacct, Usracct, Text, Unknown}

-- the kinds in their order: marks, then records, which no text can be, then texts
abbrev pub kinds : List Looks
kinds =
    Nothing ∷ Gzip ∷ Xz ∷ Zstd ∷ Bzip2 ∷ Sqlite ∷ FailedLogins ∷ Logins ∷ Logins400 ∷ BigEndianLogins ∷ Processes ∷ BigEndianProcesses ∷ Lastlog ∷ Savacct ∷ Usracct ∷ Text ∷ []

-- a file with this front and of this size is of a kind
abbrev pub is_of : Looks → List ℕ → ℕ → Bool
is_of Nothing front size = length front == 0
is_of Gzip front size = begins_with gzip_mark front
is_of Xz front size = begins_with xz_mark front
is_of Zstd front size = begins_with zstd_mark front
is_of Bzip2 front size = is_bzip2 front
is_of Sqlite front size = begins_with sqlite_mark front
is_of FailedLogins front size = has_failed_logins front size
is_of Logins front size = has_all 384 is_login front size
is_of Logins400 front size = has_long_logins front size
is_of BigEndianLogins front size = has_all 384 is_big_endian_login front size
is_of Processes front size = has_all 64 (is_proc 2 3) front size
is_of BigEndianProcesses front size = has_all 64 (is_proc 0x82 0x83) front size
is_of Lastlog front size = has_all 292 is_last_login front size
is_of Savacct front size = has_all 96 is_command_sum front size
is_of Usracct front size = has_all 104 is_user_sum front size
is_of Text front size = list_all is_text_byte front
is_of Unknown front size = true

-- what a file with this front and of this size looks like
abbrev pub looks_of : List ℕ → ℕ → Looks
looks_of front size = unwrap_or (find (λ kind. is_of kind front size) kinds) Unknown
