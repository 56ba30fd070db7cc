-- The digits of a moment.
use Rattle.std.proofs.Common.{◌≡◌, ◌∙◌, ◌++◌, ◌∷◌, [], ℕ, ℤ, List, pos, ◌+ℤ◌, ap, unsigned_abs}
use Rattle.std.specs.Int.{int_div_euclid, int_rem_euclid}
use Rattle.tally_print.specs.Text.{date, time_of_day}
use Rattle.tally_print.specs.inside.Moments.{marked_moment}

pub moment_is : (digits day_digits : List ℕ) (day time ahead : ℤ) (second mark : ℕ) → digits ≡ day_digits ++ mark ∷ [] ++ time_of_day second → day_digits ≡ date day
    → day ≡ int_div_euclid (time +ℤ ahead) (pos 86_400) → second ≡ unsigned_abs (int_rem_euclid (time +ℤ ahead) (pos 86_400)) → digits ≡ marked_moment time mark ahead
moment_is digits day_digits day time ahead second mark is first at later =
    is ∙ ap (λ (ds : List ℕ). ds ++ mark ∷ [] ++ time_of_day second) (first ∙ ap date at)
    ∙ ap (λ (s : ℕ). date (int_div_euclid (time +ℤ ahead) (pos 86_400)) ++ mark ∷ [] ++ time_of_day s) later
