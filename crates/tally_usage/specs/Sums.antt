-- Sums over records that are not kept.
use Rattle.std.specs.Prelude.{◌≡◌, ◌++◌, ◌≤◌, ◌<◌, ℕ, nat_eq, List, All, length}
use Rattle.tally_records.specs.ProcRecord.{IsBounded}
use Rattle.tally_records.specs.declared.process.ProcRecord.{ProcRecord}
use Rattle.tally_usage.specs.declared.command.Command.{Command}
use Rattle.tally_usage.specs.declared.fault.SumsFault.{SumsFault}
use Rattle.tally_usage.specs.declared.fault.SumsFault.TheVariants.{Full, Memory}
use Rattle.tally_usage.specs.declared.usage.TheConstants.{SUMS_LIMIT}
use Rattle.tally_usage.specs.declared.usage.Usage.{Usage}
use Rattle.tally_usage.specs.Command.{command_of, is_same_command}
use Rattle.tally_usage.specs.Totals.{HasTotals}
use Rattle.tally_usage.specs.Usage.{usage_of}

-- what is counted: the usage of each command group, of each user, and of all
pub record Counted : Type 0 where
  pub commands : List (Command × Usage)
  pub users : List (ℕ × Usage)
  pub total : Usage

-- these are the sums of just these records
pub record AreSumsOf (s : Counted) (rs : List ProcRecord) : Type 0 where
  pub few : length rs ≤ SUMS_LIMIT
  pub bounded : All IsBounded rs
  pub total : s.total ≡ usage_of rs
  pub commands : HasTotals is_same_command command_of s.commands rs
  pub users : HasTotals nat_eq (λ r. r.uid) s.users rs

-- they are the sums of some records
abbrev pub AreSums : Counted → Type 0
AreSums s = (rs : List ProcRecord) × AreSumsOf s rs

-- what they were the sums of, and then these records too
abbrev pub CountsMore : Counted → Counted → List ProcRecord → Type 0
CountsMore old new more = (rs : List ProcRecord) → AreSumsOf old rs → AreSumsOf new (rs ++ more)

-- the sums of the records of both
abbrev pub CountsBoth : Counted → Counted → Counted → Type 0
CountsBoth one other both = (rs ss : List ProcRecord) → AreSumsOf one rs → AreSumsOf other ss → AreSumsOf both (rs ++ ss)

-- it is the answer about whatever records these are the sums of
abbrev pub IsAbout : {X : Type 0} → Counted → (List ProcRecord → X) → X → Type 0
IsAbout s answer x = (rs : List ProcRecord) → AreSumsOf s rs → x ≡ answer rs

-- the fault is that they are too many exactly where so many are
abbrev pub IsCauseAt : ℕ → SumsFault → Type 0
IsCauseAt count Memory = count ≤ SUMS_LIMIT
IsCauseAt count Full = SUMS_LIMIT < count
