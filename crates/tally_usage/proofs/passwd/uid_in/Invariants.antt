use Rattle.std.proofs.Common.{◌≡◌, ◌^◌, min, take, true}
use Rattle.std.specs.Char.{is_ascii_digit}
use Rattle.std.specs.List.{list_all}
use Rattle.std.specs.Str.Parse.{digits_value}
use Rattle.tally_usage.proofs.passwd.uid_in.Given as goal

-- so far there are digits, and the number is what they say, or 2 ^ 32 where it is more
abbrev pub invariant-loop-byte : goal.invariant-loop-byte
invariant-loop-byte l = record {
  digits : list_all is_ascii_digit (take l.byte-index l.text) ≡ true;
  value : l.number ≡ min (digits_value 10 (take l.byte-index l.text)) (2 ^ 32);
}
