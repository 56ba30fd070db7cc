-- Worked headers of time zone files (RFC 9636), and faults of files and rules.
use Rattle.std.proofs.Common.{◌≡◌, ℕ, ◌/◌, ◌%◌, ◌<◌, ◌≤◌, List, [], ◌∷◌, ◌++◌, inl, map, replicate, refl, arith}
use Rattle.std.specs.Prelude.{codes}
use Rattle.jiff_core.specs.declared.error.TzifFault.TheVariants as tzif
use Rattle.jiff_tz.proofs.OnLiterals.{jiff_tz_tables_on_literals}
use Rattle.tally_clock.specs.Files.{RefusesFile, first_block_end, header_start, leap_count, of_clock_fault}
use Rattle.tally_clock.specs.Rules as rules
use Rattle.tally_clock.specs.declared.clock.TheConstants.{ROW_LIMIT}
use Rattle.tally_clock.specs.declared.file.FileFault.TheVariants as file
use Rattle.tally_clock.specs.declared.file.TheConstants.{FILE_LIMIT}
use Rattle.tally_clock.specs.declared.rule.RuleFault.TheVariants as rule
use Rattle.tally_clock.specs.declared.zone.ClockFault.TheVariants as clock

-- a number of four bytes, the highest first
abbrev four : ℕ → List ℕ
four n = 0 ∷ 0 ∷ n / 256 ∷ n % 256 ∷ []

-- a header with the numbers of flags of UTC, flags of standard time, leap seconds, times, types and bytes of names
abbrev header : (version utc std leaps times types chars : ℕ) → List ℕ
header version utc std leaps times types chars = codes "TZif" ++ version ∷ replicate 15 0 ++ four utc ++ four std ++ four leaps ++ four times ++ four types ++ four chars

-- 44 bytes, 1 a flag of either kind, 8 a leap second, 5 a time, 6 a type and 1 a byte of a name
block_ends : first_block_end (header 50 0 0 0 0 0 0) ∷ first_block_end (header 50 1 0 0 0 0 0) ∷ first_block_end (header 50 0 1 0 0 0 0) ∷ first_block_end (header 50 0 0 1 0 0 0) ∷ first_block_end (header 50 0 0 0 1 0 0)
    ∷ first_block_end (header 50 0 0 0 0 1 0) ∷ first_block_end (header 50 0 0 0 0 0 1) ∷ first_block_end (header 50 1 2 3 300 5 6) ∷ [] ≡ 44 ∷ 45 ∷ 45 ∷ 52 ∷ 49 ∷ 50 ∷ 45 ∷ 1607 ∷ []
block_ends = refl

-- a file of version 1 has one header, and one of a later version a second after the first block
header_starts : map (λ version. header_start (header version 1 2 3 4 5 6)) (0 ∷ 50 ∷ 51 ∷ 52 ∷ []) ≡ 0 ∷ 127 ∷ 127 ∷ 127 ∷ []
header_starts = refl

-- the leap seconds of the header that counts
leaps : leap_count (header 0 0 0 27 0 1 4) ∷ leap_count (header 50 0 0 3 0 1 4 ++ replicate 34 170 ++ header 50 0 0 0 0 1 4) ∷ leap_count (header 50 0 0 0 0 1 4 ++ replicate 10 170 ++ header 50 0 0 300 0 1 4) ∷ [] ≡ 27 ∷ 0 ∷ 300 ∷ []
leaps = refl

-- a file has up to 64 KiB, and an offset changes at up to 4,096 seconds
limits : FILE_LIMIT ∷ ROW_LIMIT ∷ [] ≡ 65536 ∷ 4096 ∷ []
limits = refl

-- one byte more is too large
large : RefusesFile (replicate 65537 0) file.Large ≡ (65536 < 65537)
large = refl

-- leap seconds are refused, one already, of a file that is not too large
with_leaps : RefusesFile (header 0 0 0 1 0 1 4) file.LeapSeconds ≡ ((44 ≤ 65536) × (0 < 1))
with_leaps = refl

-- bytes without a header hold no zone
no_zone : RefusesFile (codes "no zone") file.NoZone
unfolding jiff_tz_tables_on_literals
no_zone = (omega arith, inl (tzif.Header, refl))

-- memory may be wanted for whatever file or rule
without_memory : RefusesFile [] file.Memory × rules.RefusesRule (codes "UTC0") rule.Memory
without_memory = (tt, tt)

-- a clock's fault is the same fault of a file and of a rule
of_files : map of_clock_fault (clock.Memory ∷ clock.Long ∷ []) ≡ file.Memory ∷ file.Long ∷ []
of_files = refl

of_rules : map rules.of_clock_fault (clock.Memory ∷ clock.Long ∷ []) ≡ rule.Memory ∷ rule.Long ∷ []
of_rules = refl
