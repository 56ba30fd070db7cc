-- The login records that bytes have, where records of zeros alone and those of no type are passed over.
use Rattle.std.specs.Prelude.{ℕ, Bool, List, Option, None, if◌then◌else◌, is_some}
use Rattle.std.specs.List.{filter_map}
use Rattle.tally_check.specs.Seen.{are_zeros}
use Rattle.tally_records.specs.LoginRecord.{login_of}
use Rattle.tally_records.specs.declared.login.LoginRecord.{LoginRecord}

-- the record of the bytes, where they have a type and are not zeros alone
abbrev pub good_login : List ℕ → Option LoginRecord
good_login bytes = if are_zeros bytes then None else login_of bytes

-- the records of these, in stored order
abbrev pub logins_in : List (List ℕ) → List LoginRecord
logins_in records = filter_map good_login records

-- the bytes have such a record
abbrev pub is_good : List ℕ → Bool
is_good bytes = is_some (good_login bytes)
