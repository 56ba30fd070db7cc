-- Worked texts of whole reports, computed by the definitions.
use Rattle.std.proofs.Common.{◌≡◌, [], ◌∷◌, ◌++◌, map, Bool, true, false, ℕ, List, Ok, Err, Some, None, ℤ, pos, refl}
use Rattle.std.specs.Fmt.{digits}
use Rattle.std.specs.Prelude.{codes}
use Rattle.jiff_core.specs.Calendar.{day_count, days_from_civil, days_of_months, days_of_years}
use Rattle.tally_attempts.specs.declared.attempt.AttemptSum.{AttemptSum}
use Rattle.tally_answers.specs.declared.question.Answer.{Answer}
use Rattle.tally_answers.specs.declared.question.Answer.TheVariants as answers
use Rattle.tally_records.specs.Choice.{every_login}
use Rattle.tally_records.specs.Event.{event_of}
use Rattle.tally_records.specs.Text.{padded}
use Rattle.tally_sessions.specs.Clock.{pending_old_time}
use Rattle.tally_sessions.specs.Stays.{seconds_of}
use Rattle.tally_sessions.specs.declared.entry.End.{End}
use Rattle.tally_sessions.specs.declared.entry.End.TheVariants.{Logout, Next, Down, Crash, Still}
use Rattle.tally_sessions.specs.declared.entry.Entry.{Entry}
use Rattle.tally_sessions.specs.declared.entry.Stay.{Stay}
use Rattle.tally_usage.specs.declared.usage.Usage.{Usage}
use Rattle.tally_print.specs.AnswerText.{answer_text}
use Rattle.tally_print.specs.AttemptText.{attempt_line, attempt_sum_line, attempt_sums_text, attempts_text}
use Rattle.tally_print.specs.Civil.{day_of_month, month_of, year_of}
use Rattle.tally_print.specs.ConnectText.{connect_line, connect_text}
use Rattle.tally_print.specs.LastText.{ending, last_text, stay_line}
use Rattle.tally_print.specs.Output.{failed_calls}
use Rattle.tally_print.specs.Section.{answer_in}
use Rattle.tally_print.specs.Sections.{sections_text}
use Rattle.tally_print.specs.Text.{beginning, date, moment, span, time_of_day}
use Rattle.tally_print.specs.UsageText.{columns, command_line, commands_text, named_total_line, total_line, user_line, users_text}
use Rattle.tally_print.specs.declared.output.PrintFault.TheVariants.{Memory, Write}
use Rattle.tally_print.specs.declared.section.Section.TheVariants as section

abbrev utc : ℤ → ℤ
utc time = pos 0

-- the day from which others count
first_day : date (pos 0) ≡ codes "1970-01-01"
unfolding date year_of month_of day_of_month days_from_civil day_count days_of_years days_of_months
first_day = refl

-- from 200 to 1000, and by the clock of the end from 350 on
abbrev stay : Bool → End → Stay
stay is_boot end = record {
  host = 0;
  is_boot = is_boot;
  user = padded 32 (codes "ann");
  line = padded 32 (codes "tty1");
  remote = padded 256 (codes "far");
  start = pos 200;
  begin = pos 350;
  end = end;
  end_time = pos 1000;
  length = 650;
}

-- who, where and from where, the start as recorded, and when or how it ended, with the length of the adjusted start; then the first record
stays : last_text (stay false Logout ∷ stay false Next ∷ stay true Down ∷ stay true Crash ∷ stay false Still ∷ stay true Still ∷ []) (Some (pos 100)) utc None
    ≡ codes "ann      tty1         far              1970-01-01 00:03:20 - 1970-01-01 00:16:40 (00:10)\n"
    ++ codes "ann      tty1         far              1970-01-01 00:03:20 - 1970-01-01 00:16:40 (00:10)\n"
    ++ codes "reboot   system boot  far              1970-01-01 00:03:20 - down                (00:10)\n"
    ++ codes "reboot   system boot  far              1970-01-01 00:03:20 - crash               (00:10)\n"
    ++ codes "ann      tty1         far              1970-01-01 00:03:20   still logged in\n"
    ++ codes "reboot   system boot  far              1970-01-01 00:03:20   still running\n"
    ++ codes "\nwtmp begins 1970-01-01 00:01:40\n"
unfolding stay_line ending moment time_of_day span beginning digits
stays = rw first_day refl

-- failed logins, and the first record
attempts : attempts_text (record { host = 0; user = padded 32 (codes "root"); line = padded 32 (codes "ssh:notty"); remote = padded 256 (codes "far"); time = pos 1000 } ∷ []) (Some (pos 100)) utc
    ≡ codes "root     ssh:notty    far              1970-01-01 00:16:40\n" ++ codes "\nbtmp begins 1970-01-01 00:01:40\n"
unfolding attempt_line moment time_of_day beginning
attempts = rw first_day refl

abbrev sum : List ℕ → ℕ → AttemptSum
sum user attempts = record { user = padded 32 user; remote = padded 256 (codes "far"); attempts = attempts }

-- sums have nothing above them and nothing below
sums : attempt_sums_text (sum (codes "root") 3 ∷ sum (codes "eve") 1 ∷ []) ≡ codes "       3 root     far\n" ++ codes "       1 eve      far\n"
unfolding attempt_sum_line digits
sums = refl

-- the total of connect time stands below its rows: of a user on a day, of a day, and of a user
connect_times : connect_text (record { day = Some (pos 0); user = Some (padded 32 (codes "ann")); seconds = 3600 } ∷ record { day = Some (pos 0); user = None; seconds = 1800 }
    ∷ record { day = None; user = Some (padded 32 (codes "ann")); seconds = 60 } ∷ []) 5400
    ≡ codes "1970-01-01 ann                          1.00\n" ++ codes "1970-01-01 total                        0.50\n" ++ codes "ann                          0.02\n"
    ++ codes "total                        1.50\n"
unfolding connect_line digits
connect_times = rw first_day refl

-- four calls of a minute elapsed, eight of two, and none
abbrev four : Usage
four = record { count = 4; real = 6000; cpu = 90; io = 10; mem_cpu = 4500 }

abbrev eight : Usage
eight = record { count = 8; real = 12000; cpu = 180; io = 20; mem_cpu = 18000 }

abbrev no_call : Usage
no_call = record { count = 0; real = 0; cpu = 0; io = 0; mem_cpu = 0 }

-- the total of commands stands above them
commands : commands_text (record { name = padded 17 (codes "make"); forked = true; other = false; usage = four } ∷ record { name = padded 17 (codes "***other"); forked = false; other = true; usage = four } ∷ []) eight
    ≡ codes "       8         2.00re         0.03cp          2avio        100k\n" ++ codes "       4         1.00re         0.02cp          2avio         50k make*\n"
    ++ codes "       4         1.00re         0.02cp          2avio         50k ***other\n"
unfolding total_line command_line columns digits
commands = refl

-- and that of users above these
users : users_text (record { uid = 7; usage = four } ∷ record { uid = 4294967295; usage = four } ∷ []) eight
    ≡ codes "total             8         2.00re         0.03cp          2avio        100k\n" ++ codes "7                 4         1.00re         0.02cp          2avio         50k\n"
    ++ codes "4294967295        4         1.00re         0.02cp          2avio         50k\n"
unfolding named_total_line user_line columns digits
users = refl

-- each kind of answer has its own text, also where it has no row
abbrev text : Answer → List ℕ
text answer = answer_text answer utc None

of_nothing : map text (answers.Last [] None ∷ answers.Attempts [] None ∷ answers.AttemptSums [] ∷ answers.Connect [] 0 ∷ answers.Commands [] no_call ∷ answers.Users [] no_call ∷ [])
    ≡ codes "wtmp has no records\n" ∷ codes "btmp has no records\n" ∷ [] ∷ codes "total                        0.00\n"
    ∷ codes "       0         0.00re         0.00cp          0avio          0k\n"
    ∷ codes "total             0         0.00re         0.00cp          0avio          0k\n" ∷ []
unfolding beginning connect_line total_line named_total_line columns digits
of_nothing = refl

-- an empty line stands between two answers, and the moment that is given is that of each
two_answers : sections_text (answers.Last (stay false Still ∷ []) (Some (pos 200)) ∷ answers.Connect [] 3600 ∷ []) utc (Some (pos 1000))
    ≡ codes "ann      tty1         far              1970-01-01 00:03:20 - still logged in     (00:10)\n" ++ codes "\nwtmp begins 1970-01-01 00:03:20\n" ++ codes "\n"
    ++ codes "total                        1.00\n"
unfolding stay_line ending moment time_of_day span beginning connect_line digits
two_answers = rw first_day refl

-- a record of a host: 7 is a login, and 8 a logout
abbrev stored : ℕ → ℕ → List ℕ → ℤ → Entry
stored host kind line time = record {
  host = host;
  item = record {
    kind = kind;
    line = padded 32 line;
    user = padded 32 (codes "ann");
    remote = padded 256 (codes "far");
    time = time;
  };
}

abbrev latest : Stay
latest = record {
  host = 1;
  is_boot = false;
  user = padded 32 (codes "ann");
  line = padded 32 (codes "tty2");
  remote = padded 256 (codes "far");
  start = pos 20;
  begin = pos 20;
  end = Still;
  end_time = pos 100;
  length = 80;
}

-- a section of stays has those of its host up to its limit, counted up to its moment, and the time of the first record; another has its answer
in_section : map (answer_in (stored 0 7 (codes "tty1") (pos 5) ∷ stored 1 8 (codes "tty1") (pos 8) ∷ stored 1 7 (codes "tty1") (pos 10) ∷ stored 1 7 (codes "tty2") (pos 20) ∷ []))
    (section.Stays 1 (Some 1) every_login (Some (pos 100)) ∷ section.Answered (answers.Connect [] 7) ∷ [])
    ≡ answers.Last (latest ∷ []) (Some (pos 8)) ∷ answers.Connect [] 7 ∷ []
unfolding seconds_of pending_old_time event_of
in_section = refl

-- a failed write alone is a failed call of the output
failures : map failed_calls (Ok tt ∷ Err Memory ∷ Err Write ∷ []) ≡ 0 ∷ 0 ∷ 1 ∷ []
failures = refl
