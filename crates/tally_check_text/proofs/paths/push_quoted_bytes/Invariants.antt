use Rattle.std.proofs.Common.{◌≡◌, ◌++◌, flat_map, take}
use Rattle.tally_check_text.specs.Quoted.{quoted_byte}
use Rattle.tally_check_text.proofs.paths.push_quoted_bytes.Given as goal

-- the bytes so far joined the text
abbrev pub invariant-loop-byte : goal.invariant-loop-byte
invariant-loop-byte l = l.text.items ≡ l.initial.text.items ++ flat_map quoted_byte (take l.byte-index l.path)
