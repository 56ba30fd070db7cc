-- Worked rows with the path of their file, computed by the definitions.
use Rattle.std.proofs.Common.{◌≡◌, [], ◌∷◌, ◌++◌, List, ℕ, ℤ, None, Some, false, map, pos, refl, true}
use Rattle.std.specs.Fmt.{digits}
use Rattle.std.specs.Prelude.{codes}
use Rattle.csv.specs.Writing.{escaped, fields_text, is_blank}
use Rattle.tally_attempts.specs.declared.attempt.Attempt.{Attempt}
use Rattle.tally_answers.specs.declared.question.Answer.TheVariants as answers
use Rattle.tally_records.specs.Period.{always}
use Rattle.tally_records.specs.Text.{padded}
use Rattle.tally_sessions.specs.declared.entry.End.TheVariants.{Logout}
use Rattle.tally_sessions.specs.declared.entry.Stay.{Stay}
use Rattle.tally_print.specs.AttemptTable.{attempt_fields, attempt_header}
use Rattle.tally_print.specs.ConnectTable.{connect_fields, connect_header}
use Rattle.tally_print.specs.PathTable.{path_header, path_report_rows, path_rows, with_path}
use Rattle.tally_print.specs.StayTable.{end_fields, iso_moment, part_fields, part_header, start_fields, stay_fields, stay_header, who_fields}
use Rattle.tally_print.specs.Tables.{csv_text}
use Rattle.tally_print.specs.declared.report_table.Table.TheVariants.{Stays, Attempts, Connect}

abbrev utc : ℤ → ℤ
utc time = pos 0

-- a path with a comma, a quote and a byte that does not print
abbrev odd : List ℕ
odd = codes "a,\"b" ++ 27 ∷ []

abbrev root : ℕ → ℤ → Attempt
root host time = record {
  host = host;
  user = padded 32 (codes "root");
  line = padded 32 (codes "tty1");
  remote = padded 256 [];
  time = time;
}

abbrev stay : Stay
stay = record {
  host = 1;
  is_boot = false;
  user = padded 32 (codes "ann");
  line = padded 32 (codes "tty1");
  remote = padded 256 (codes "far");
  start = pos 200;
  begin = pos 210;
  end = Logout;
  end_time = pos 1000;
  length = 790;
}

-- the path stands after the number of the file, in quotes where it needs them; it may be empty
rows_with_path : csv_text (map (λ path. with_path path (codes "1" ∷ codes "ann" ∷ [])) (codes "wtmp" ∷ odd ∷ [] ∷ [])) ≡ codes "1,wtmp,ann\n" ++ codes "1,\"a,\"\"b?\",ann\n" ++ codes "1,,ann\n"
unfolding escaped fields_text is_blank
rows_with_path = refl

-- the names of the columns
headers : csv_text (map path_header (Stays None ∷ Stays (Some always) ∷ Attempts ∷ []))
    ≡ codes "file,path,user,line,remote,start,start_at,begin,end,end_time,end_at,seconds\n" ++ codes "file,path,user,line,remote,start,start_at,begin,end,end_time,end_at,seconds,within\n" ++ codes "file,path,user,line,remote,time,at\n"
unfolding stay_header part_header attempt_header fields_text is_blank
headers = refl

-- two files: each row has the number and the path of its own
attempts_of_two : path_report_rows Attempts utc (odd ∷ codes "btmp.1" ∷ []) (answers.Attempts (root 0 (pos 501) ∷ root 0 (pos 500) ∷ []) None ∷ answers.Attempts (root 1 (pos 7) ∷ []) None ∷ [])
    ≡ (codes "file" ∷ codes "path" ∷ codes "user" ∷ codes "line" ∷ codes "remote" ∷ codes "time" ∷ codes "at" ∷ [])
    ∷ (codes "1" ∷ codes "a,\"b?" ∷ codes "root" ∷ codes "tty1" ∷ [] ∷ codes "501" ∷ iso_moment (pos 501) utc ∷ [])
    ∷ (codes "1" ∷ codes "a,\"b?" ∷ codes "root" ∷ codes "tty1" ∷ [] ∷ codes "500" ∷ iso_moment (pos 500) utc ∷ [])
    ∷ (codes "2" ∷ codes "btmp.1" ∷ codes "root" ∷ codes "tty1" ∷ [] ∷ codes "7" ∷ iso_moment (pos 7) utc ∷ []) ∷ []
unfolding attempt_header attempt_fields digits
attempts_of_two = refl

-- a file that has no path has an empty one
no_path : path_report_rows Attempts utc (codes "btmp" ∷ []) (answers.Attempts [] None ∷ answers.Attempts (root 1 (pos 7) ∷ []) None ∷ [])
    ≡ (codes "file" ∷ codes "path" ∷ codes "user" ∷ codes "line" ∷ codes "remote" ∷ codes "time" ∷ codes "at" ∷ []) ∷ (codes "2" ∷ [] ∷ codes "root" ∷ codes "tty1" ∷ [] ∷ codes "7" ∷ iso_moment (pos 7) utc ∷ []) ∷ []
unfolding attempt_header attempt_fields digits
no_path = refl

-- stays, without the seconds in a period and with them
stays_of_one : path_rows (Stays None) utc odd (answers.Last (stay ∷ []) None) ++ path_rows (Stays (Some (record { from = Some (pos 300); to = None }))) utc [] (answers.Last (stay ∷ []) None)
    ≡ (codes "2" ∷ codes "a,\"b?" ∷ codes "ann" ∷ codes "tty1" ∷ codes "far" ∷ codes "200" ∷ iso_moment (pos 200) utc ∷ codes "210" ∷ codes "logout" ∷ codes "1000" ∷ iso_moment (pos 1000) utc ∷ codes "790" ∷ [])
    ∷ (codes "2" ∷ [] ∷ codes "ann" ∷ codes "tty1" ∷ codes "far" ∷ codes "200" ∷ iso_moment (pos 200) utc ∷ codes "210" ∷ codes "logout" ∷ codes "1000" ∷ iso_moment (pos 1000) utc ∷ codes "790" ∷ codes "700" ∷ []) ∷ []
unfolding stay_fields part_fields who_fields start_fields end_fields digits
stays_of_one = refl

-- an answer to another kind of question has no rows, and a table whose rows have no file has no path
of_another_kind : path_rows Attempts utc odd (answers.Last (stay ∷ []) None) ∷ path_rows (Stays None) utc odd (answers.Attempts (root 0 (pos 1) ∷ []) None) ∷ [] ≡ [] ∷ [] ∷ []
of_another_kind = refl

without_files : path_header (Connect true false) ∷ path_rows (Connect false true) utc odd (answers.Connect (record { day = None; user = Some (codes "ann"); seconds = 600 } ∷ []) 600) ≡ (codes "day" ∷ codes "seconds" ∷ []) ∷ (codes "ann" ∷ codes "600" ∷ []) ∷ []
unfolding connect_header connect_fields digits
without_files = refl
