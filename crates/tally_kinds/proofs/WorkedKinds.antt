-- Worked kinds: what files look like, computed by the definitions from bytes that are laid out by hand.
use Rattle.std.proofs.Common.{◌≡◌, ℕ, ◌-◌, true, List, [], ◌∷◌, ◌++◌, length, map, replicate, refl}
use Rattle.std.specs.Prelude.{codes}
use Rattle.tally_kinds.specs.Kinds.{is_of, looks_of}
use Rattle.tally_kinds.specs.declared.kinds.Looks.{Looks}
use Rattle.tally_kinds.specs.declared.kinds.Looks.TheVariants.{Nothing, Gzip, Xz, Zstd, Bzip2, Sqlite, FailedLogins, Logins, Logins400, BigEndianLogins, Processes, BigEndianProcesses, Lastlog, Text, Unknown}

-- what a whole file looks like
abbrev pub looks : List ℕ → Looks
looks bytes = looks_of bytes (length bytes)

-- a field of n bytes with a text
abbrev pub field : ℕ → List ℕ → List ℕ
field n text = text ++ replicate (n - length text) 0

-- what a field holds that tells nothing
abbrev pub other : ℕ → List ℕ
other n = replicate n 170

-- a login record with these two bytes of type, and so many bytes after its texts
abbrev pub login : ℕ → ℕ → ℕ → List ℕ
login first second rest =
    first ∷ second ∷ other 6 ++ field 32 (codes "tty1") ++ other 4 ++ field 32 (codes "ann") ++ field 256 (codes "far.example") ++ other rest

-- process records of versions 2 and 3, with these bytes of version
abbrev pub version_2 : ℕ → List ℕ
version_2 version = 1 ∷ version ∷ other 34 ++ field 17 (codes "make") ++ other 11

abbrev version_3 : ℕ → List ℕ
version_3 version = 1 ∷ version ∷ other 46 ++ field 16 (codes "make")

-- the last login of a user, at these four bytes of time
abbrev last_login : List ℕ → List ℕ
last_login time = time ++ field 32 (codes "tty1") ++ field 256 (codes "far.example")

-- ---- marks

marks : map looks ([] ∷ (0x1F ∷ 0x8B ∷ 8 ∷ []) ∷ (0xFD ∷ 0x37 ∷ 0x7A ∷ 0x58 ∷ 0x5A ∷ 0 ∷ 1 ∷ []) ∷ (0x28 ∷ 0xB5 ∷ 0x2F ∷ 0xFD ∷ 0 ∷ []) ∷ codes "BZh9" ∷ (codes "SQLite format 3" ++ 0 ∷ 16 ∷ []) ∷ [])
    ≡ Nothing ∷ Gzip ∷ Xz ∷ Zstd ∷ Bzip2 ∷ Sqlite ∷ []
marks = refl

-- ---- records, each kind with two of them

-- a type in the low byte comes first, and a big-endian machine writes it last
logins : map looks ((login 2 0 52 ++ login 8 0 52) ∷ (login 2 0 68 ++ login 8 0 68) ∷ (login 0 2 52 ++ login 0 8 52) ∷ (login 0 2 68 ++ login 0 8 68) ∷ [])
    ≡ Logins ∷ Logins400 ∷ BigEndianLogins ∷ Logins400 ∷ []
logins = refl

-- failed logins have no type but 0, 6 and 7, and a record of type 0 alone shows none
failed : map looks ((login 6 0 52 ++ login 7 0 52) ∷ (login 0 0 52 ++ login 6 0 52) ∷ (login 6 0 52 ++ login 8 0 52) ∷ login 0 0 52 ∷ [])
    ≡ FailedLogins ∷ FailedLogins ∷ Logins ∷ Logins ∷ []
failed = refl

processes : map looks ((version_2 2 ++ version_3 3) ∷ (version_3 3 ++ version_2 2) ∷ (version_2 0x82 ++ version_3 0x83) ∷ [])
    ≡ Processes ∷ Processes ∷ BigEndianProcesses ∷ []
processes = refl

last_logins : looks (last_login (1 ∷ 2 ∷ 3 ∷ 4 ∷ []) ++ replicate 292 0) ≡ Lastlog
last_logins = refl

-- ---- texts

texts : map looks ((codes "bob" ++ 10 ∷ []) ∷ (9 ∷ 13 ∷ 0xC3 ∷ 0xA9 ∷ []) ∷ replicate 384 65 ∷ (codes "bob" ++ 0 ∷ 10 ∷ []) ∷ (codes "bob" ++ 127 ∷ []) ∷ [])
    ≡ Text ∷ Text ∷ Text ∷ Unknown ∷ Unknown ∷ []
texts = refl

-- ---- what is none of them

-- the second record is of another kind, or has a text that goes on after its end
second_record : map looks ((login 7 0 52 ++ login 10 0 52) ∷ (login 7 0 52 ++ login 7 1 52) ∷ (login 7 0 52 ++ login 0 7 52) ∷ (version_2 2 ++ version_2 4) ∷ (version_2 2 ++ version_2 0x82) ∷ [])
    ≡ Unknown ∷ Unknown ∷ Unknown ∷ Unknown ∷ Unknown ∷ []
second_record = refl

after_its_end : map looks ((7 ∷ 0 ∷ other 6 ++ field 32 (codes "tty1" ++ 0 ∷ 49 ∷ []) ++ replicate 344 0) ∷ (1 ∷ 2 ∷ other 34 ++ field 17 (codes "make" ++ 0 ∷ 49 ∷ []) ++ other 11) ∷ [])
    ≡ Unknown ∷ Unknown ∷ []
after_its_end = refl

-- a text may fill its field, but for those of lastlog
full_fields : map looks ((7 ∷ 0 ∷ other 6 ++ replicate 32 65 ++ other 4 ++ replicate 32 66 ++ replicate 256 67 ++ other 52) ∷ (replicate 4 1 ++ replicate 32 65 ++ replicate 256 67) ∷ [])
    ≡ FailedLogins ∷ Unknown ∷ []
full_fields = refl

-- a record that is torn, and one that is not whole in the front
torn : map looks ((login 7 0 52 ++ 7 ∷ []) ∷ (version_2 2 ++ 2 ∷ []) ∷ (last_login (1 ∷ 2 ∷ 3 ∷ 4 ∷ []) ++ 0 ∷ []) ∷ []) ≡ Unknown ∷ Unknown ∷ Unknown ∷ []
torn = refl

-- zeros alone could be records of each kind that nobody has written
zeros : map looks (replicate 384 0 ∷ replicate 400 0 ∷ replicate 292 0 ∷ []) ≡ Unknown ∷ Unknown ∷ Unknown ∷ []
zeros = refl

-- ---- the front and the size

-- a front of whole records and a part of the next, of a file of three
longer : looks_of (login 8 0 52 ++ login 8 0 52 ++ 255 ∷ []) 1152 ≡ Logins
longer = refl

-- the size is not that of whole records, or the front has none
size : looks_of (login 8 0 52) 767 ∷ looks_of (version_2 2) 130 ∷ looks_of (8 ∷ 0 ∷ []) 384 ∷ [] ≡ Unknown ∷ Unknown ∷ Unknown ∷ []
size = refl

-- ---- the order

-- a mark counts more than the layout of a record
mark_first : looks (last_login (0x1F ∷ 0x8B ∷ 8 ∷ 0 ∷ [])) ≡ Gzip
mark_first = refl

also_last_logins : is_of Lastlog (last_login (0x1F ∷ 0x8B ∷ 8 ∷ 0 ∷ [])) 292 ≡ true
also_last_logins = refl

-- failed logins are logins too
also_logins : is_of Logins (login 6 0 52) 384 ≡ true
also_logins = refl
