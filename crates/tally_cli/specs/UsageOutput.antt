-- The output of a report on processes alone.
use Rattle.std.specs.Prelude.{◌∷◌, [], ℕ, List, filter, if◌then◌else◌, map}
use Rattle.std.specs.List.{enumerate_from, flat_map}
use Rattle.tally_clock.specs.Rows.{ClockRows}
use Rattle.tally_answers.specs.declared.question.Answer.{Answer}
use Rattle.tally_line.specs.declared.job.Job.{Job}
use Rattle.tally_usage.specs.Choice.{is_chosen}
use Rattle.tally_usage.specs.declared.choice.ProcChoice.{ProcChoice}
use Rattle.tally_usage.specs.declared.entry.ProcEntry.{ProcEntry}
use Rattle.tally_cli.specs.Apart.{Apart, Names, answers_text, apart_of, file_table, file_text, files_text, names_given}
use Rattle.tally_cli.specs.Output.{answers_of, login_entries, proc_entries}
use Rattle.tally_cli.specs.Runs.{Told, records_told}
use Rattle.tally_cli.specs.declared.running.wanted.UsageWanted.{UsageWanted}

-- ---- what is wanted beside a job

-- the chosen processes, the names of users, and how the files are told apart
pub record Wanted : Type 0 where
  pub choice : ProcChoice
  pub names : Names
  pub apart : Apart

abbrev pub wanted_of : UsageWanted → Wanted
wanted_of w = record { choice = w.choice; names = names_given w.names; apart = apart_of w.apart }

-- ---- of all files together

-- the process entries of chosen records
abbrev pub chosen_entries : ProcChoice → List ProcEntry → List ProcEntry
chosen_entries choice entries = filter (λ e. is_chosen choice e.item) entries

-- the answers to a job's report over the chosen processes of inputs
abbrev pub answers_on : ClockRows → Job → ProcChoice → List Told → List Answer
answers_on clock job choice inputs = answers_of clock job (map (λ i. i.kind) inputs)
    (login_entries (map records_told inputs)) (chosen_entries choice (proc_entries (map records_told inputs)))

-- the output of a report on all inputs together
abbrev pub usage_output : ClockRows → Job → Wanted → List Told → List ℕ
usage_output clock job wanted inputs = answers_text clock job wanted.names (answers_on clock job wanted.choice inputs)

-- ---- by file

-- the texts of the inputs, each of which is what the same job prints of it alone
abbrev pub inputs_text : ClockRows → Job → Wanted → List Told → List ℕ
inputs_text clock job wanted inputs =
    flat_map (λ numbered. file_text clock job wanted.names wanted.apart numbered.0 (answers_on clock job wanted.choice (numbered.1 ∷ []))) (enumerate_from 0 inputs)

-- the output of a report on each input alone, and then on all
abbrev pub by_file_output : ClockRows → Job → Wanted → List Told → List ℕ
by_file_output clock job wanted inputs =
    files_text job.form wanted.apart.paths (file_table job.report wanted.names) (inputs_text clock job wanted inputs) (usage_output clock job wanted inputs)

-- the output that is wanted
abbrev pub usage_printed : ClockRows → Job → Wanted → List Told → List ℕ
usage_printed clock job wanted inputs =
    if wanted.apart.by_file then by_file_output clock job wanted inputs else usage_output clock job wanted inputs
