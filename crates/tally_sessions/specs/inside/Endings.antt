-- How the fields of a kept end stand for it.
use Rattle.std.specs.Prelude.{◌≡◌, ℤ, pos, Option, Some, None, is_some, false, refl}
use Rattle.std.proofs.Common.{sym}
use Rattle.std.specs.Option.{option_map, option_map_or}
use Rattle.tally_sessions.specs.declared.entry.End.{End}
use Rattle.tally_sessions.specs.declared.track.ending.Ending.{Ending}

-- the end that the fields stand for
abbrev pub ending_in : Option End → ℤ → ℤ → Option Ending
ending_in end begin end_time = option_map (λ e. record { begin = begin; end = e; end_time = end_time }) end

-- the times are 0 where there is no end
abbrev pub AreKept : Option End → ℤ → ℤ → Type 0
AreKept end begin end_time = is_some end ≡ false → (begin ≡ pos 0) × (end_time ≡ pos 0)

-- the fields of an end
abbrev pub begin_in : Option Ending → ℤ
begin_in ending = option_map_or (λ e. e.begin) ending (pos 0)

abbrev pub end_time_in : Option Ending → ℤ
end_time_in ending = option_map_or (λ e. e.end_time) ending (pos 0)

abbrev pub end_in : Option Ending → Option End
end_in ending = option_map (λ e. e.end) ending

-- the fields come back from their end
pub begin_back : (end : Option End) (begin end_time : ℤ) → AreKept end begin end_time → begin_in (ending_in end begin end_time) ≡ begin
begin_back None begin end_time h = sym (h refl).0
begin_back (Some e) begin end_time h = refl

pub end_time_back : (end : Option End) (begin end_time : ℤ) → AreKept end begin end_time → end_time_in (ending_in end begin end_time) ≡ end_time
end_time_back None begin end_time h = sym (h refl).1
end_time_back (Some e) begin end_time h = refl

pub end_back : (end : Option End) (begin end_time : ℤ) → end_in (ending_in end begin end_time) ≡ end
end_back None begin end_time = refl
end_back (Some e) begin end_time = refl
