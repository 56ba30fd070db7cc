-- What is known of the book that the files of a run are read into, while askers ask.
use Rattle.std.specs.Prelude.{◌≡◌, ◌*◌, ◌+◌, ◌<◌, ◌≤◌, ◌∷◌, [], ℕ, List, Option, Some, ℤ, ⊤, false, length, map, pos}
use Rattle.std.specs.List.{All}
use Rattle.tally_book.specs.Contents.{Contents}
use Rattle.tally_book.specs.Deeds.{Ask, SameOfEachHost, deeds_of}
use Rattle.tally_book.specs.Rooms.{batches_in}
use Rattle.tally_answers.specs.declared.question.Question.{Question}
use Rattle.tally_answers.specs.declared.question.Question.TheVariants as questions
use Rattle.tally_book.specs.declared.room.TheConstants.{MILLION, MOST_MILLIONS}
use Rattle.tally_desk.specs.Rounds.{in_rounds}
use Rattle.tally_line.specs.declared.job.Job.{Job}
use Rattle.tally_line.specs.declared.job.Report.{Report}
use Rattle.tally_line.specs.declared.job.Report.TheVariants as report
use Rattle.tally_records.specs.Choice.{every_login}
use Rattle.tally_records.specs.declared.choice.LoginChoice.{LoginChoice}
use Rattle.tally_sessions.specs.declared.sessions.TheConstants.{HOST_LIMIT}
use Rattle.tally_usage.specs.declared.order.Order.TheVariants as order
use Rattle.tally_cli.specs.Output.{login_entries, proc_entries}
use Rattle.tally_cli.specs.Runs.{IsFirstFault, IsGood, Told, records_told, room_of}
use Rattle.tally_cli.specs.declared.fault.RunFault.{RunFault}
use Rattle.tally_cli.specs.declared.fault.RunFault.TheVariants.{Memory, Callers, File, Asker, Write}

-- the sessions that a report is over, or all of them where it has none
abbrev pub choice_of : Report → LoginChoice
choice_of (report.Last limit choice within) = choice
choice_of (report.Connect by_day by_user choice) = choice
choice_of r = every_login

-- what an asker asks in a round, of chosen sessions up to a moment: the latest stays of the first host, connect time, and the usage of
-- commands and users
abbrev pub asked_once : LoginChoice → Option ℤ → List Question
asked_once choice until = questions.Last 0 (Some 10) choice until ∷ questions.Connect false false (pos 0) choice until
    ∷ questions.Commands order.Cpu false false ∷ questions.Users order.Cpu false ∷ []

-- all that each asker asks beside a job, in four rounds
abbrev pub questions_beside : Job → List Question
questions_beside job = in_rounds 4 (asked_once (choice_of job.report) job.until)

-- the inputs have no fault, the book has just their records, each under its number, and each asker after them has asked just its questions
pub record AreRead (job : Job) (inputs : List Told) (b : Contents) : Type 0 where
  pub good : All (IsGood (room_of job)) inputs
  pub same : SameOfEachHost b.logins (login_entries (map records_told inputs)) b.procs (proc_entries (map records_told inputs))
  pub asked : (asker : ℕ) → length inputs ≤ asker → asker < length inputs + job.askers → deeds_of asker b ≡ map Ask (questions_beside job)

-- what a fault of reading shows of the sources
abbrev pub IsReadCause : ℕ → List Told → RunFault → Type 0
IsReadCause room inputs Memory = ⊤
IsReadCause room inputs (Callers count) = ⊤
IsReadCause room inputs (File host fault) = IsFirstFault room inputs host fault
IsReadCause room inputs (Asker caller fault) = All (IsGood room) inputs
IsReadCause room inputs Write = ⊥

-- nothing failed in printing
abbrev pub IsUnprinted : RunFault → Type 0
IsUnprinted Write = ⊥
IsUnprinted fault = ⊤

-- the most calls before a report: the full batches of both kinds, and of each caller one batch that is not full or the questions of an asker
abbrev pub most_calls : ℕ
most_calls = 2 * batches_in (MILLION * MOST_MILLIONS) + HOST_LIMIT * 17
