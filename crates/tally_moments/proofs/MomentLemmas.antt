-- What words say, in steps.
use Rattle.std.proofs.Common.{◌≡◌, ℕ, ℤ, List, drop, take, slice_index, Some, true, refl}
use Rattle.tally_moments.specs.Dates.{day_named}
use Rattle.tally_moments.specs.Moments.{is_between, timed, timed_on}

pub timed_is : (word : List ℕ) (day : ℤ) → is_between (slice_index word 10) ≡ true → day_named (take 10 word) ≡ Some day → timed word ≡ timed_on day (drop 11 word)
timed_is word day between named = rw (between, named) refl
