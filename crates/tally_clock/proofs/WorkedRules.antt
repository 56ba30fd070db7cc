-- Worked rules of POSIX, whose offsets count west of UTC.
use Rattle.std.proofs.Common.{◌≡◌, [], ◌∷◌, map, Some, None, ℤ, pos, neg_ℤ, ◌≤ℤ◌, ap, refl, sym, arith}
use Rattle.std.proofs.lemmas.Int.{ints}
use Rattle.std.specs.Prelude.{codes}
use Rattle.jiff_core.specs.declared.Offset.{Offset}
use Rattle.jiff_tz.proofs.OnLiterals.{jiff_tz_on_literals}
use Rattle.jiff_tz.specs.Abbreviation.{abbreviation_text}
use Rattle.jiff_tz.specs.Zone as Zone
use Rattle.jiff_tz.specs.declared.abbreviation.Abbreviation.{Abbreviation}
use Rattle.jiff_tz.specs.declared.posix.TimeZone.{TimeZone as Rule}
use Rattle.jiff_tz.specs.declared.timezone.TimeZone.TheVariants as zone
use Rattle.tally_clock.specs.Rows.{utc}
use Rattle.tally_clock.specs.Rules.{IsClockOfRule, RefusesRule, rule_offset}
use Rattle.tally_clock.specs.Zones.{ShowsZone, zone_offset}
use Rattle.tally_clock.specs.declared.rule.RuleFault.TheVariants as fault

abbrev offset : (seconds : ℤ) → neg_ℤ (pos 93599) ≤ℤ seconds → seconds ≤ℤ pos 93599 → Offset
offset seconds low high = record { seconds = seconds; in_range = (low, high) }

abbrev one_hour : Offset
one_hour = offset (pos 3600) (omega (arith, ints)) (omega (arith, ints))

abbrev two_hours : Offset
two_hours = offset (pos 7200) (omega (arith, ints)) (omega (arith, ints))

-- the rule of two hours east, whatever its name is
abbrev always_east : Abbreviation → Rule
always_east name = record { std_abbrev = name; std_offset = two_hours; dst = None }

-- `<+02>-2` is two hours east at each second
east : (name : Abbreviation) → abbreviation_text name ≡ codes "+02" → IsClockOfRule (codes "<+02>-2") (record { first = two_hours; rows = [] })
unfolding jiff_tz_on_literals
east name named = record {
  rule = always_east name;
  read = ap (λ text. Some (record { std_name = text; std_seconds = pos 7200; dst = None })) (sym named);
  shows = λ time h. refl;
}

-- a text that is no rule has no clock
no_rule : RefusesRule (codes "Berlin") fault.NoRule
unfolding jiff_tz_on_literals
no_rule = refl

-- a rule without summer time has its one offset at each second
rule_seconds : (name : Abbreviation) → map (rule_offset (always_east name)) (neg_ℤ (pos 2147483648) ∷ pos 0 ∷ pos 2147483647 ∷ []) ≡ pos 7200 ∷ pos 7200 ∷ pos 7200 ∷ []
rule_seconds name = refl

-- a zone is as far ahead of UTC as its rule, or as its one offset, and UTC is not at all
zone_seconds : (name : Abbreviation) → map (λ z. zone_offset z (pos 1000000)) (zone.Posix (always_east name) ∷ zone.Fixed one_hour ∷ zone.UTC ∷ []) ≡ pos 7200 ∷ pos 3600 ∷ pos 0 ∷ []
unfolding Zone.offset_at
zone_seconds name = refl

-- the clock of UTC is that of the zone
clock_of_utc : ShowsZone zone.UTC utc
unfolding Zone.offset_at
clock_of_utc time h = refl
