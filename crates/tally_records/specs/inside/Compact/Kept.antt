-- The fields of compact login records.
use Rattle.std.specs.Prelude.{List}
use Rattle.tally_records.specs.declared.login.LoginRecord.{LoginRecord}
use Rattle.tally_records.specs.declared.login.logins.Logins.TheInside.{Inside}
use Rattle.tally_records.specs.inside.Compact.Layout.{Covers, records}

-- the records that the fields stand for
abbrev pub records_of : Inside → List LoginRecord
records_of a = records a.heads.items a.words.items

-- what the fields keep
abbrev pub IsSound : Inside → Type 0
IsSound a = Covers a.heads.items a.words.items
