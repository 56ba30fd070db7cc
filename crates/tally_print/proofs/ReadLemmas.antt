-- What a reader gets from the tables.
use Rattle.std.proofs.Common.{None, Some, ◌≡◌, ℕ, ℤ, ◌<◌, ◌^◌, ◌∷◌, ◌++◌, List, [], All, refl, ◌∙◌, Bool, true, false, ap, flat_map, map, arith}
use Rattle.std.proofs.lemmas.Fmt.{decimal_is_IsNumeral}
use Rattle.std.proofs.lemmas.List.Elements.{All-tail}
use Rattle.std.proofs.lemmas.List.{map-append}
use Rattle.csv.specs.Reading.{default_config, records, strip_bom}
use Rattle.csv.specs.Writing.{default_writer, fields_text, is_blank, read_back, row_text}
use Rattle.tally_answers.specs.declared.question.Answer.{Answer}
use Rattle.tally_answers.specs.declared.question.Answer.TheVariants as answers
use Rattle.tally_answers.specs.declared.question.ConnectRow.{ConnectRow}
use Rattle.tally_sessions.specs.declared.entry.Stay.{Stay}
use Rattle.tally_usage.specs.declared.command.CommandRow.{CommandRow}
use Rattle.tally_usage.specs.declared.user.UidRow.{UidRow}
use Rattle.tally_attempts.specs.declared.attempt.Attempt.{Attempt}
use Rattle.tally_attempts.specs.declared.attempt.AttemptSum.{AttemptSum}
use Rattle.tally_print.specs.AttemptTable.{attempt_fields, attempt_header, attempt_sum_fields, attempt_sum_header}
use Rattle.tally_print.specs.ConnectTable.{connect_fields, connect_header}
use Rattle.tally_print.specs.ReportTable.{answer_rows, connect_rows, header, report_rows, table_text}
use Rattle.tally_print.specs.StayTable.{part_fields, part_header, stay_fields, stay_header, who_fields}
use Rattle.tally_records.specs.declared.period.Period.{Period}
use Rattle.tally_print.specs.UsageTable.{command_fields, command_header, name_fields, user_fields, user_header}
use Rattle.tally_print.specs.Tables.{Row, csv_rows, csv_text, last_number}
use Rattle.tally_print.specs.declared.report_table.Table.{Table}
use Rattle.tally_print.specs.declared.report_table.Table.TheVariants.{Stays, Attempts, AttemptSums, Connect, Commands, Users}
use Rattle.tally_print.proofs.TableLemmas.{reads_back}

-- rows with a field come back as they are
same_rows : {X : Type 0} (fields : X → Row) → ((x : X) → read_back (fields x) ≡ fields x) → (xs : List X) → map read_back (map fields xs) ≡ map fields xs
same_rows fields some [] = refl
same_rows fields some (x ∷ xs) = rw (some x, same_rows fields some xs) refl

connect_fields-some : (by_day by_user : Bool) (row : ConnectRow) → read_back (connect_fields by_day by_user row) ≡ connect_fields by_day by_user row
unfolding connect_fields
connect_fields-some true true row = refl
connect_fields-some true false row = refl
connect_fields-some false true row = refl
connect_fields-some false false row = refl

stay_fields-some : (clock : ℤ → ℤ) (stay : Stay) → read_back (stay_fields clock stay) ≡ stay_fields clock stay
unfolding stay_fields who_fields
stay_fields-some clock stay = refl

part_fields-some : (clock : ℤ → ℤ) (period : Period) (stay : Stay) → read_back (part_fields clock period stay) ≡ part_fields clock period stay
unfolding part_fields stay_fields who_fields
part_fields-some clock period stay = refl

attempt_fields-some : (clock : ℤ → ℤ) (attempt : Attempt) → read_back (attempt_fields clock attempt) ≡ attempt_fields clock attempt
unfolding attempt_fields
attempt_fields-some clock attempt = refl

attempt_sum_fields-some : (sum : AttemptSum) → read_back (attempt_sum_fields sum) ≡ attempt_sum_fields sum
unfolding attempt_sum_fields
attempt_sum_fields-some sum = refl

command_fields-some : (row : CommandRow) → read_back (command_fields row) ≡ command_fields row
unfolding command_fields name_fields
command_fields-some row = refl

user_fields-some : (row : UidRow) → read_back (user_fields row) ≡ user_fields row
unfolding user_fields
user_fields-some row = refl

-- the rows of an answer come back as they are
same_answer : (table : Table) (clock : ℤ → ℤ) (answer : Answer) → map read_back (answer_rows table clock answer) ≡ answer_rows table clock answer
same_answer (Stays None) clock (answers.Last rows first) = same_rows (stay_fields clock) (stay_fields-some clock) rows
same_answer (Stays None) clock (answers.Attempts rows first) = refl
same_answer (Stays None) clock (answers.AttemptSums rows) = refl
same_answer (Stays None) clock (answers.Connect rows total) = refl
same_answer (Stays None) clock (answers.Commands rows total) = refl
same_answer (Stays None) clock (answers.Users rows total) = refl
same_answer (Stays (Some period)) clock (answers.Last rows first) = same_rows (part_fields clock period) (part_fields-some clock period) rows
same_answer (Stays (Some period)) clock (answers.Attempts rows first) = refl
same_answer (Stays (Some period)) clock (answers.AttemptSums rows) = refl
same_answer (Stays (Some period)) clock (answers.Connect rows total) = refl
same_answer (Stays (Some period)) clock (answers.Commands rows total) = refl
same_answer (Stays (Some period)) clock (answers.Users rows total) = refl
same_answer Attempts clock (answers.Last rows first) = refl
same_answer Attempts clock (answers.Attempts rows first) = same_rows (attempt_fields clock) (attempt_fields-some clock) rows
same_answer Attempts clock (answers.AttemptSums rows) = refl
same_answer Attempts clock (answers.Connect rows total) = refl
same_answer Attempts clock (answers.Commands rows total) = refl
same_answer Attempts clock (answers.Users rows total) = refl
same_answer AttemptSums clock (answers.Last rows first) = refl
same_answer AttemptSums clock (answers.Attempts rows first) = refl
same_answer AttemptSums clock (answers.AttemptSums rows) = same_rows attempt_sum_fields attempt_sum_fields-some rows
same_answer AttemptSums clock (answers.Connect rows total) = refl
same_answer AttemptSums clock (answers.Commands rows total) = refl
same_answer AttemptSums clock (answers.Users rows total) = refl
same_answer (Connect by_day by_user) clock (answers.Last rows first) = refl
same_answer (Connect by_day by_user) clock (answers.Attempts rows first) = refl
same_answer (Connect by_day by_user) clock (answers.AttemptSums rows) = refl
same_answer (Connect by_day by_user) clock (answers.Connect rows total) =
    same_rows (connect_fields by_day by_user) (connect_fields-some by_day by_user) (connect_rows by_day by_user rows total)
same_answer (Connect by_day by_user) clock (answers.Commands rows total) = refl
same_answer (Connect by_day by_user) clock (answers.Users rows total) = refl
same_answer Commands clock (answers.Last rows first) = refl
same_answer Commands clock (answers.Attempts rows first) = refl
same_answer Commands clock (answers.AttemptSums rows) = refl
same_answer Commands clock (answers.Connect rows total) = refl
same_answer Commands clock (answers.Commands rows total) = same_rows command_fields command_fields-some rows
same_answer Commands clock (answers.Users rows total) = refl
same_answer Users clock (answers.Last rows first) = refl
same_answer Users clock (answers.Attempts rows first) = refl
same_answer Users clock (answers.AttemptSums rows) = refl
same_answer Users clock (answers.Connect rows total) = refl
same_answer Users clock (answers.Commands rows total) = refl
same_answer Users clock (answers.Users rows total) = same_rows user_fields user_fields-some rows

same_answers : (table : Table) (clock : ℤ → ℤ) (all : List Answer) → map read_back (flat_map (answer_rows table clock) all) ≡ flat_map (answer_rows table clock) all
same_answers table clock [] = refl
same_answers table clock (answer ∷ all) =
    map-append read_back (answer_rows table clock answer) (flat_map (answer_rows table clock) all)
    ∙ rw (same_answer table clock answer, same_answers table clock all) refl

-- a header has a field, and begins with no byte order mark
header-some : (table : Table) → read_back (header table) ≡ header table
unfolding part_header stay_header attempt_header attempt_sum_header connect_header command_header user_header
header-some (Stays None) = refl
header-some (Stays (Some period)) = refl
header-some Attempts = refl
header-some AttemptSums = refl
header-some (Connect true true) = refl
header-some (Connect true false) = refl
header-some (Connect false true) = refl
header-some (Connect false false) = refl
header-some Commands = refl
header-some Users = refl

header-plain : (table : Table) (rest : List ℕ) → strip_bom (row_text default_writer (header table) ++ rest) ≡ row_text default_writer (header table) ++ rest
unfolding part_header stay_header attempt_header attempt_sum_header connect_header command_header user_header fields_text is_blank strip_bom
header-plain (Stays None) rest = refl
header-plain (Stays (Some period)) rest = refl
header-plain Attempts rest = refl
header-plain AttemptSums rest = refl
header-plain (Connect true true) rest = refl
header-plain (Connect true false) rest = refl
header-plain (Connect false true) rest = refl
header-plain (Connect false false) rest = refl
header-plain Commands rest = refl
header-plain Users rest = refl

pub report_reads_back : (table : Table) (clock : ℤ → ℤ) (all : List Answer) → csv_rows (table_text table clock all) ≡ report_rows table clock all
report_reads_back table clock all =
    ap (records default_config) (header-plain table (csv_text (flat_map (answer_rows table clock) all)))
    ∙ reads_back (report_rows table clock all)
    ∙ rw (header-some table, same_answers table clock all) refl

-- a row's last field says its seconds
says_seconds : (by_day by_user : Bool) (row : ConnectRow) → row.seconds < 2 ^ 64 → last_number (connect_fields by_day by_user row) ≡ row.seconds
unfolding connect_fields
says_seconds true true row h = (decimal_is_IsNumeral row.seconds h).1
says_seconds true false row h = (decimal_is_IsNumeral row.seconds h).1
says_seconds false true row h = (decimal_is_IsNumeral row.seconds h).1
says_seconds false false row h = (decimal_is_IsNumeral row.seconds h).1

pub seconds_say : (by_day by_user : Bool) (rows : List ConnectRow) → All (λ row. row.seconds < 2 ^ 64) rows → map last_number (map (connect_fields by_day by_user) rows) ≡ map (λ row. row.seconds) rows
seconds_say by_day by_user [] all = refl
seconds_say by_day by_user (row ∷ rows) all =
    let here = says_seconds by_day by_user row (all 0 row (omega arith)) in
    let rest = seconds_say by_day by_user rows (All-tail (λ r. r.seconds < 2 ^ 64) row rows all) in
    rw (here, rest) refl
