-- Worked process records whose numbers are packed, computed by the definitions.
use Rattle.std.proofs.Common.{◌≡◌, List, [], ◌∷◌, map, true, false, ℕ, refl, arith}
use Rattle.std.specs.Prelude.{codes}
use Rattle.tally_records.specs.Elapsed.{elapsed_of, rounded_down}
use Rattle.tally_records.specs.NumberedProc.{named, number_of, version_in}
use Rattle.tally_records.specs.PackedProc.{elapsed_ticks, unpacked}
use Rattle.tally_records.specs.ProcRecord.{IsBounded}
use Rattle.tally_records.specs.Text.{padded}
use Rattle.tally_records.specs.declared.process.ProcRecord.{ProcRecord}
use Rattle.tally_records.specs.declared.process.numbered.NumberedProc.{NumberedProc}
use Rattle.tally_records.specs.declared.process.packed.PackedProc.{PackedProc}
use Rattle.tally_records.specs.declared.process.packed.Version.{Version}
use Rattle.tally_records.specs.declared.process.packed.Version.TheVariants.{Two, Three}

abbrev make : List ℕ
make = padded 17 (codes "make")

-- numbers with an exponent of 1, 2, 1 and 7, and an elapsed time of this word
abbrev packed : Version → ℕ → ℕ → PackedProc
packed version elapsed flag = record { uid = 1000; begin = 50; elapsed = elapsed; user_ticks = 8193; system_ticks = 16385; mem = 16383; io = 65535; version = version; flag = flag; comm = make }

-- the record of these: 1 * 8, 1 * 64, 8191 * 8 and 8191 * 2097152
abbrev worked_out : ℕ → ℕ → ProcRecord
worked_out real_ticks flag = record { flag = flag; uid = 1000; begin = 50; user_ticks = 8; system_ticks = 64; real_ticks = real_ticks; mem = 65528; io = 17177772032; comm = make }

-- each number is worked out by its own field, and the elapsed time by the version
records : unpacked (packed Two 8194 0 ∷ packed Three 1142292480 255 ∷ []) ≡ worked_out 16 0 ∷ worked_out 600 255 ∷ []
unfolding elapsed_of rounded_down
records = refl

-- an elapsed time of version 2 is in the low 16 bits
low_bits : map (elapsed_ticks Two) (65535 ∷ 65536 ∷ 73729 ∷ []) ≡ 17177772032 ∷ 0 ∷ 8 ∷ []
low_bits = refl

-- the greatest numbers of a record are within its bounds
bounded : IsBounded (record (worked_out 18446744073709551615 255) { user_ticks = 17177772032; system_ticks = 17177772032; mem = 17177772032 })
bounded = record { user_ticks = omega arith; system_ticks = omega arith; real_ticks = omega arith; mem = omega arith; io = omega arith }

-- numbered fields with 256 times the number, 128 in version 3, and half of the flag
abbrev numbered : ℕ → NumberedProc
numbered rest = record { uid = 1000; begin = 50; elapsed = 8194; user_ticks = 8193; system_ticks = 16385; mem = 16383; io = 65535; rest = rest }

-- the number 5 with a flag of 26 or 27 in version 2 and version 3, and the greatest number
numbers : map (λ rest. number_of (numbered rest)) (1293 ∷ 1421 ∷ 255 ∷ 256 ∷ 4294967295 ∷ []) ≡ 5 ∷ 5 ∷ 0 ∷ 1 ∷ 16777215 ∷ []
numbers = refl

-- the bit of the version is set in version 3
versions : map version_in (0 ∷ 1 ∷ []) ≡ Two ∷ Three ∷ []
versions = refl

-- the lowest bit of the flag comes with the command, and its other seven bits from the record
with_commands : map (λ rest. named make false (numbered rest)) (0 ∷ 1293 ∷ 1421 ∷ 4294967295 ∷ []) ≡ packed Two 8194 0 ∷ packed Two 8194 26 ∷ packed Three 8194 26 ∷ packed Three 8194 254 ∷ []
with_commands = refl

with_forked : map (λ rest. named make true (numbered rest)) (0 ∷ 1293 ∷ 1421 ∷ 4294967295 ∷ []) ≡ packed Two 8194 1 ∷ packed Two 8194 27 ∷ packed Three 8194 27 ∷ packed Three 8194 255 ∷ []
with_forked = refl
