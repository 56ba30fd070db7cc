-- The seconds of a session that has ended, whose times came as numbers of 32 bits.
use Rattle.std.proofs.Common.{◌≡◌, ◌∙◌, ◌+◌, ◌<◌, ◌^◌, ℕ, ℤ, Bool, cond, FitsSigned, ap, subst, to_z, of_z, w32}
use Rattle.std.proofs.lemmas.Int.{to_z-of_z}
use Rattle.tally_clock.specs.Days.{seconds_between}

abbrev held : ℤ → ℤ
held z = to_z w32 (of_z w32 z)

same_seconds : (s : ℕ) (begin end_time : ℤ) → s ≡ seconds_between (held begin) (held end_time) → FitsSigned w32 begin → FitsSigned w32 end_time → s ≡ seconds_between begin end_time
same_seconds s begin end_time is b e = is ∙ (λ i. seconds_between (to_z-of_z w32 begin b i) (to_z-of_z w32 end_time e i))

pub seconds_added : (n old s : ℕ) (covered : Bool) (begin end_time : ℤ) → n ≡ old + cond covered s 0 → s ≡ seconds_between (held begin) (held end_time) → FitsSigned w32 begin → FitsSigned w32 end_time
    → n ≡ old + cond covered (seconds_between begin end_time) 0
seconds_added n old s covered begin end_time added is b e = added ∙ ap (λ (k : ℕ). old + cond covered k 0) (same_seconds s begin end_time is b e)

pub few_seconds : (s : ℕ) (begin end_time : ℤ) → s ≡ seconds_between (held begin) (held end_time) → FitsSigned w32 begin → FitsSigned w32 end_time → s < 2 ^ 32 → seconds_between begin end_time < 2 ^ 32
few_seconds s begin end_time is b e few = subst (λ (k : ℕ). k < 2 ^ 32) (same_seconds s begin end_time is b e) few
