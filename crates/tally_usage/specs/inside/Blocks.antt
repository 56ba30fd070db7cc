-- Kept entries in blocks.
use Rattle.std.specs.List.{flat_map}
use Rattle.std.specs.Prelude.{◌≡◌, ◌≤◌, ◌<◌, ◌-◌, ◌+◌, ℕ, List, [], ◌++◌, IfSome, get_or, is_some, length, nat_lt, if◌then◌else◌, vec_capacity, vec_len}
use Rattle.std.specs.Global.{Vec}
use Rattle.tally_usage.specs.declared.entry.CompactProc.{CompactProc}
use Rattle.tally_usage.specs.declared.kept_list.KeptList.TheInside.{Inside}
use Rattle.tally_usage.specs.Kept.{Kept}

-- the entries of full blocks
abbrev pub in_blocks : List (Vec CompactProc) → List CompactProc
in_blocks full = flat_map (λ v. v.items) full

-- room after the last block
abbrev pub next_room : Inside → ℕ
next_room k = if is_some k.next then 4096 else 0

-- room for entries in the last block and, where that can be filled, after it
abbrev pub room_of : Inside → ℕ
room_of k = if nat_lt (vec_capacity k.last) 4096 then vec_capacity k.last - length k.last.items else 4096 - length k.last.items + next_room k

abbrev pub kept_of : Inside → Kept
kept_of k = record { entries = in_blocks k.full.items ++ k.last.items; spare = room_of k }

-- room for a block, with nothing in it
pub record IsRoom (v : Vec CompactProc) : Type 0 where
  pub empty : v.items ≡ []
  pub room : 4096 ≤ vec_capacity v

pub record AreBlocks (k : Inside) : Type 0 where
  pub full : (j : ℕ) (d : Vec CompactProc) → j < length k.full.items → length (get_or k.full.items j d).items ≡ 4096
  pub last : length k.last.items ≤ 4096
  pub next : IfSome k.next IsRoom
  pub place : IfSome k.next (λ v. vec_len k.full < vec_capacity k.full)
  pub count : k.count ≡ length (in_blocks k.full.items) + length k.last.items
