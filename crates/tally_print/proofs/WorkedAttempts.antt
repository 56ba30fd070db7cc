-- Worked lines and tables of failed logins, computed by the definitions.
use Rattle.std.proofs.Common.{◌≡◌, [], ◌∷◌, ◌++◌, map, List, ℕ, None, Some, ℤ, negsuc, pos, refl}
use Rattle.std.specs.Fmt.{digits}
use Rattle.std.specs.Prelude.{codes}
use Rattle.csv.specs.Writing.{escaped, fields_text, is_blank}
use Rattle.tally_attempts.specs.declared.attempt.Attempt.{Attempt}
use Rattle.tally_attempts.specs.declared.attempt.AttemptSum.{AttemptSum}
use Rattle.tally_answers.specs.declared.question.Answer.TheVariants as answers
use Rattle.tally_records.specs.Choice.{every_login}
use Rattle.tally_records.specs.Text.{padded}
use Rattle.tally_sessions.specs.declared.entry.Entry.{Entry}
use Rattle.tally_print.specs.AttemptSections.{attempt_answers}
use Rattle.tally_print.specs.AttemptTable.{attempt_fields, attempt_header, attempt_sum_fields, attempt_sum_header}
use Rattle.tally_print.specs.AttemptText.{attempt_line, attempt_sum_line, attempts_text}
use Rattle.tally_print.specs.ReportTable.{answer_rows, header, report_rows}
use Rattle.tally_print.specs.Sections.{sections}
use Rattle.tally_print.specs.StayTable.{iso_moment}
use Rattle.tally_print.specs.Tables.{csv_text}
use Rattle.tally_print.specs.Text.{beginning, moment}
use Rattle.tally_print.specs.declared.report_table.Table.TheVariants.{Attempts, AttemptSums}

abbrev utc : ℤ → ℤ
utc time = pos 0

abbrev attempt : List ℕ → List ℕ → ℤ → Attempt
attempt user line time = record {
  host = 1;
  user = padded 32 user;
  line = padded 32 line;
  remote = padded 256 (codes "203.0.113.7");
  time = time;
}

abbrev sum : List ℕ → List ℕ → ℕ → AttemptSum
sum user remote attempts = record { user = padded 32 user; remote = padded 256 remote; attempts = attempts }

-- columns are filled on the right, an empty one is blank, and a longer text stands whole
lines : map (attempt_line utc) (attempt (codes "root") (codes "ssh:notty") (pos 500) ∷ attempt (codes "eve") [] (pos 501) ∷ attempt [] (codes "tty1") (pos 502) ∷ attempt (codes "wilhelmina") (codes "tty1") (pos 503) ∷ [])
    ≡ (codes "root     ssh:notty    203.0.113.7      " ++ moment (pos 500) utc ++ codes "\n") ∷ (codes "eve                   203.0.113.7      " ++ moment (pos 501) utc ++ codes "\n")
    ∷ (codes "         tty1         203.0.113.7      " ++ moment (pos 502) utc ++ codes "\n") ∷ (codes "wilhelmina tty1         203.0.113.7      " ++ moment (pos 503) utc ++ codes "\n") ∷ []
unfolding attempt_line
lines = refl

-- the file's first record is named, if it has one, whether or not there are rows
no_rows : attempts_text [] None utc ∷ attempts_text [] (Some (pos 400)) utc ∷ [] ≡ codes "btmp has no records\n" ∷ (codes "\nbtmp begins " ++ moment (pos 400) utc ++ codes "\n") ∷ []
unfolding beginning
no_rows = refl

-- attempts are filled on the left, users on the right, and nothing follows the remote host
sum_lines : map attempt_sum_line (sum (codes "root") (codes "203.0.113.7") 3 ∷ sum (codes "wilhelmina") (codes "far") 123456789 ∷ sum [] [] 1 ∷ []) ≡ codes "       3 root     203.0.113.7\n" ∷ codes "123456789 wilhelmina far\n" ∷ codes "       1          \n" ∷ []
unfolding attempt_sum_line digits
sum_lines = refl

-- the names of each table's columns
headers : map header (Attempts ∷ AttemptSums ∷ []) ≡ (codes "file" ∷ codes "user" ∷ codes "line" ∷ codes "remote" ∷ codes "time" ∷ codes "at" ∷ []) ∷ (codes "user" ∷ codes "remote" ∷ codes "attempts" ∷ []) ∷ []
unfolding attempt_header attempt_sum_header
headers = refl

-- files count from 1, a time before 1970 has a sign, and the moment is that of the time
fields : map (attempt_fields utc) (attempt (codes "root") (codes "ssh:notty") (pos 500) ∷ attempt [] (codes "tty1") (negsuc 4) ∷ [])
    ≡ (codes "2" ∷ codes "root" ∷ codes "ssh:notty" ∷ codes "203.0.113.7" ∷ codes "500" ∷ iso_moment (pos 500) utc ∷ []) ∷ (codes "2" ∷ [] ∷ codes "tty1" ∷ codes "203.0.113.7" ∷ codes "-5" ∷ iso_moment (negsuc 4) utc ∷ []) ∷ []
unfolding attempt_fields digits
fields = refl

-- a remote host with a comma is quoted
quoted_sums : csv_text (map attempt_sum_fields (sum (codes "root") (codes "a,b") 12 ∷ sum [] (codes "far") 1 ∷ [])) ≡ codes "root,\"a,b\",12\n,far,1\n"
unfolding attempt_sum_fields digits escaped fields_text is_blank
quoted_sums = refl

-- the names of the columns stand once, and then the rows of each file
table_of_two : report_rows Attempts utc (answers.Attempts (attempt (codes "root") [] (pos 501) ∷ attempt (codes "eve") [] (pos 500) ∷ []) None ∷ answers.Attempts (record (attempt (codes "ann") [] (pos 7)) { host = 2 } ∷ []) None ∷ [])
    ≡ (codes "file" ∷ codes "user" ∷ codes "line" ∷ codes "remote" ∷ codes "time" ∷ codes "at" ∷ [])
    ∷ (codes "2" ∷ codes "root" ∷ [] ∷ codes "203.0.113.7" ∷ codes "501" ∷ iso_moment (pos 501) utc ∷ []) ∷ (codes "2" ∷ codes "eve" ∷ [] ∷ codes "203.0.113.7" ∷ codes "500" ∷ iso_moment (pos 500) utc ∷ [])
    ∷ (codes "3" ∷ codes "ann" ∷ [] ∷ codes "203.0.113.7" ∷ codes "7" ∷ iso_moment (pos 7) utc ∷ []) ∷ []
unfolding attempt_header attempt_fields digits
table_of_two = refl

table_of_sums : report_rows AttemptSums utc (answers.AttemptSums (sum (codes "root") (codes "far") 3 ∷ sum [] [] 1 ∷ []) ∷ []) ≡ (codes "user" ∷ codes "remote" ∷ codes "attempts" ∷ []) ∷ (codes "root" ∷ codes "far" ∷ codes "3" ∷ []) ∷ ([] ∷ [] ∷ codes "1" ∷ []) ∷ []
unfolding attempt_sum_header attempt_sum_fields digits
table_of_sums = refl

-- an answer to another kind of question has no rows
of_another_kind : answer_rows Attempts utc (answers.AttemptSums (sum [] [] 1 ∷ [])) ∷ answer_rows AttemptSums utc (answers.Attempts [] None) ∷ [] ≡ [] ∷ [] ∷ []
of_another_kind = refl

-- ---- several hosts

-- a record of a host: 6 is a failed login of root on tty1, and 0 none
abbrev stored : ℕ → ℕ → ℤ → Entry
stored host kind time = record {
  host = host;
  item = record {
    kind = kind;
    line = padded 32 (codes "tty1");
    user = padded 32 (codes "root");
    remote = padded 256 [];
    time = time;
  };
}

abbrev root : ℕ → ℤ → Attempt
root host time = record {
  host = host;
  user = padded 32 (codes "root");
  line = padded 32 (codes "tty1");
  remote = padded 256 [];
  time = time;
}

-- each host has a section: its latest failed logins up to the limit and its first time, of whatever record; a host without records has neither
each_host : attempt_answers 3 (Some 2) every_login (stored 1 0 (pos 5) ∷ stored 0 6 (pos 10) ∷ stored 1 6 (pos 20) ∷ stored 0 6 (pos 30) ∷ stored 0 7 (pos 40) ∷ [])
    ≡ answers.Attempts (root 0 (pos 40) ∷ root 0 (pos 30) ∷ []) (Some (pos 10)) ∷ answers.Attempts (root 1 (pos 20) ∷ []) (Some (pos 5)) ∷ answers.Attempts [] None ∷ []
each_host = refl

-- an empty line stands between each two sections
between : sections (codes "a\n" ∷ codes "b\n" ∷ codes "c\n" ∷ []) ∷ sections (codes "a\n" ∷ []) ∷ sections [] ∷ [] ≡ codes "a\n\nb\n\nc\n" ∷ codes "a\n" ∷ [] ∷ []
between = refl
