-- What is read of a time zone file.
use Rattle.std.proofs.Common.{◌≡◌, ◌+◌, ◌++◌, ◌≤◌, [], ℕ, List, None, Option, Some, arith, length, subst, take}
use Rattle.std.specs.Prelude.{IfSome, option_map}
use Rattle.std.proofs.lemmas.List.{length-take, take_all}
use Rattle.tally_clock.specs.Files.{IsClockOfFile}
use Rattle.tally_clock.specs.Rows.{ClockRows}
use Rattle.tally_clock.specs.declared.file.TheConstants.{FILE_LIMIT}
use Rattle.tally_zones.specs.Zones.{front_of}

small_is_whole : (bytes : List ℕ) → length (front_of bytes) ≤ FILE_LIMIT → front_of bytes ≡ bytes
small_is_whole bytes small = take_all (FILE_LIMIT + 1) bytes (let size = length-take (FILE_LIMIT + 1) bytes in omega (arith, size))

-- the clock of what was read is that of the file
pub clock_of_front : (bytes : Option (List ℕ)) (front : List ℕ) (clock : ClockRows) → IfSome bytes (λ xs. front ≡ front_of xs) → IsClockOfFile front clock
    → IfSome bytes (λ xs. IsClockOfFile xs clock)
clock_of_front None front clock is shows = tt
clock_of_front (Some xs) front clock is shows =
    let read : IsClockOfFile (front_of xs) clock = subst (λ (f : List ℕ). IsClockOfFile f clock) is shows in
    subst (λ (f : List ℕ). IsClockOfFile f clock) (small_is_whole xs read.small) read

-- what a reader of so many bytes read after none is the front of what its file had
pub limited : (bytes : Option (List ℕ)) (given limit : ℕ) (before items : List ℕ) → given ≡ limit → before ≡ []
    → IfSome (option_map (take given) bytes) (λ xs. items ≡ before ++ xs) → IfSome bytes (λ xs. items ≡ take limit xs)
limited None given limit before items is none read = tt
limited (Some xs) given limit before items is none read = rw (is, none) at read
