-- Where the reading of a file stops.
use Rattle.std.specs.Prelude.{◌≡◌, ◌<◌, ◌≤◌, ◌+◌, ◌++◌, ℕ, Bool, true, false, List, Option, IfSome, ⊤, length}
use Rattle.std.specs.Io.KnownBytes.{Consumes, IsAtEnd}
use Rattle.tally_check.specs.Kinds.{most_bytes, too_many}
use Rattle.tally_check.specs.declared.fault.CheckFault.{CheckFault}
use Rattle.tally_check.specs.declared.fault.CheckFault.TheVariants.{Memory, Read}
use Rattle.tally_check.specs.declared.kind.Guess.{Guess}
use Rattle.tally_check.specs.declared.tally.Tally.{Tally}
use Rattle.tally_check.specs.declared.tally.TheConstants.{BLOCK_SIZE}
use Rattle.tally_check.specs.inside.Tallies.{IsTallyOf}
use Rattle.tally_sessions.specs.State.{State}

-- memory ran out or a read failed, or the bytes to come, where they are known, are too many for what the file may be
abbrev pub IsStop : Guess → Option (List ℕ) → CheckFault → Type 0
IsStop guess known Memory = ⊤
IsStop guess known Read = ⊤
IsStop guess known fault = IfSome known (λ bytes. (fault ≡ too_many guess) × (most_bytes guess < length bytes))

-- a read failed
abbrev pub IsReadFault : CheckFault → Type 0
IsReadFault fault = fault ≡ Read

-- after so many bytes memory ran out or a read failed, or the bytes to come, where they are known, are too many together with them
abbrev pub IsStopAfter : Guess → ℕ → Option (List ℕ) → CheckFault → Type 0
IsStopAfter guess size known Memory = ⊤
IsStopAfter guess size known Read = ⊤
IsStopAfter guess size known fault = IfSome known (λ bytes. (fault ≡ too_many guess) × (most_bytes guess < size + length bytes))

-- a block was read and counted too: it is full, or the last one
pub record IsCounted (before after : Option (List ℕ)) (old : Tally) (kept : State) (new : Tally) (kept_now : State) (is_last : Bool) : Type 0 where
  pub block : List ℕ
  pub taken : Consumes before after block
  pub counted : (bytes : List ℕ) → IsTallyOf bytes old kept → IsTallyOf (bytes ++ block) new kept_now
  pub size : new.size ≡ old.size + length block
  pub few : new.size ≤ most_bytes new.guess
  pub full : is_last ≡ false → length block ≡ BLOCK_SIZE
  pub end : is_last ≡ true → IsAtEnd after

-- the bytes to come, where they are known, were counted up to their end
pub record IsWhole (known : Option (List ℕ)) (tally : Tally) (kept : State) : Type 0 where
  pub bytes : List ℕ
  pub all : IfSome known (λ xs. xs ≡ bytes)
  pub counted : IsTallyOf bytes tally kept
  pub few : length bytes ≤ most_bytes tally.guess
