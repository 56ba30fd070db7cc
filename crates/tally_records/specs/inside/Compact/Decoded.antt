-- What decoding one more record leaves.
use Rattle.std.specs.Prelude.{List, [], ◌∷◌, ◌++◌, Result, Ok, Err}
use Rattle.tally_records.specs.declared.login.LoginRecord.{LoginRecord}
use Rattle.tally_records.specs.declared.fault.RecordFault.{RecordFault}

-- the records, and after them one more, if it is one
abbrev pub with : List LoginRecord → Result LoginRecord RecordFault → Result (List LoginRecord) RecordFault
with rs (Ok r) = Ok (rs ++ r ∷ [])
with rs (Err fault) = Err fault
