-- The bytes that packed files and databases begin with, as the pages of their formats have them.
use Rattle.std.specs.Prelude.{ℕ, Bool, List, [], ◌∷◌, ◌++◌, codes, nat_eq, nat_le, slice_index, ◌&&◌}
use Rattle.std.specs.List.{starts_with}

-- RFC 1952
abbrev pub gzip_mark : List ℕ
gzip_mark = 0x1F ∷ 0x8B ∷ []

-- the page of the .xz format
abbrev pub xz_mark : List ℕ
xz_mark = 0xFD ∷ 0x37 ∷ 0x7A ∷ 0x58 ∷ 0x5A ∷ 0 ∷ []

-- RFC 8878
abbrev pub zstd_mark : List ℕ
zstd_mark = 0x28 ∷ 0xB5 ∷ 0x2F ∷ 0xFD ∷ []

-- bzip2(1)
abbrev pub bzip2_mark : List ℕ
bzip2_mark = codes "BZh"

-- the page of SQLite's database file format
abbrev pub sqlite_mark : List ℕ
sqlite_mark = codes "SQLite format 3" ++ 0 ∷ []

-- the first bytes are those of a mark
abbrev pub begins_with : List ℕ → List ℕ → Bool
begins_with mark front = starts_with nat_eq front mark

-- the digit of bzip2's size of blocks, 1 to 9
abbrev pub has_block_size : List ℕ → Bool
has_block_size front = nat_le 49 (slice_index front 3) && nat_le (slice_index front 3) 57

-- packed by bzip2: its mark, and how large its blocks are
abbrev pub is_bzip2 : List ℕ → Bool
is_bzip2 front = begins_with bzip2_mark front && has_block_size front
