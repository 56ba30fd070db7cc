use Rattle.std.proofs.Common.{◌≡◌, ◌≤◌, length, map, take}
use Rattle.std.specs.List.{All, range_with_len}
use Rattle.std.specs.Vec.{vec_capacity}
use Rattle.tally_cli.specs.inside.Parts.{HasPart, part_alone}
use Rattle.tally_cli.proofs.running.by_file.parts_of.Given as goal

abbrev pub invariant-loop-file : goal.invariant-loop-file
invariant-loop-file l = record {
  room : l.files ≤ vec_capacity l.parts;
  count : length l.parts.items ≡ l.file;
  value : l.parts.items ≡ map (part_alone l.book.clock l.by_day l.by_user l.choice l.job l.book.logins) (take l.file (range_with_len 0 l.files));
  parts : All HasPart l.parts.items;
}
