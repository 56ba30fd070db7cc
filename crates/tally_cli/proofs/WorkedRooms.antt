-- Worked examples of room, computed by the definitions.
use Rattle.std.proofs.Common.{◌≡◌, ℕ, [], ◌∷◌, None, Some, map, refl}
use Rattle.std.specs.Prelude.{pos}
use Rattle.tally_book.specs.Rooms.{batches_in}
use Rattle.tally_desk.specs.Blocks.{block_fault}
use Rattle.tally_desk.specs.declared.fault.FeedFault.TheVariants.{TooLong}
use Rattle.tally_line.specs.declared.job.Form.TheVariants.{Text}
use Rattle.tally_line.specs.declared.job.Job.{Job}
use Rattle.tally_line.specs.declared.job.Report.TheVariants as report
use Rattle.tally_records.specs.declared.batch.Kind.TheVariants.{Login}
use Rattle.tally_cli.specs.Runs.{room_of}
use Rattle.tally_cli.specs.Reading.{most_calls}

abbrev job_of : ℕ → Job
job_of millions = record { report = report.All; form = Text; millions = millions; feeders = 4; askers = 0; offset = pos 0; until = None }

-- a million has 1,048,576 records, which are 1,024 full batches
rooms : map (λ n. room_of (job_of n)) (1 ∷ 2 ∷ 16 ∷ []) ≡ 1048576 ∷ 2097152 ∷ 16777216 ∷ []
rooms = refl

batches : map (λ n. batches_in (room_of (job_of n))) (1 ∷ 2 ∷ 16 ∷ []) ≡ 1024 ∷ 2048 ∷ 16384 ∷ []
batches = refl

-- with room for two millions the 2,049th block is too long, and the 2,048th is not
too_long : map (λ number. block_fault (batches_in (room_of (job_of 2))) Login 0 (number, [])) (1024 ∷ 2047 ∷ 2048 ∷ []) ≡ None ∷ None ∷ Some (TooLong 2097152) ∷ []
too_long = refl

-- 16,384 full batches of either kind, and 17 calls of each of 128 callers
calls : most_calls ≡ 34944
calls = refl
