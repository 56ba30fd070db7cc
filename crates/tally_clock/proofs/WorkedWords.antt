-- Worked words that name a zone, computed by the definitions.
use Rattle.std.proofs.Common.{◌≡◌, [], ◌∷◌, ◌++◌, true, false, map, refl}
use Rattle.std.specs.Prelude.{codes}
use Rattle.tally_clock.specs.Words.{has_slashes, is_name, is_name_byte, is_offset, is_path, zone_text, zone_word}
use Rattle.tally_clock.specs.declared.word.ZoneText.TheVariants.{MistakenOffset, Rule}
use Rattle.tally_clock.specs.declared.word.ZoneWord.TheVariants.{Local, Name, Path, Text}

-- the first and the last digit, capital and small letter, `_`, `-`, `+` and the slash
name_bytes : map is_name_byte (codes "09AZaz_-+/") ≡ true ∷ true ∷ true ∷ true ∷ true ∷ true ∷ true ∷ true ∷ true ∷ true ∷ []
name_bytes = refl

-- the bytes beside these, a blank, and bytes past ASCII
other_bytes : map is_name_byte (codes "*,.:@[^`{ " ++ 0 ∷ 127 ∷ 128 ∷ 255 ∷ [])
    ≡ false ∷ false ∷ false ∷ false ∷ false ∷ false ∷ false ∷ false ∷ false ∷ false ∷ false ∷ false ∷ false ∷ false ∷ []
other_bytes = refl

-- two slashes in a row, wherever they stand
slashes : map has_slashes (codes "a//b" ∷ codes "//" ∷ codes "a/b//" ∷ codes "a/b/c" ∷ codes "/" ∷ [] ∷ []) ≡ true ∷ true ∷ true ∷ false ∷ false ∷ false ∷ []
slashes = refl

-- no part of a name is empty: not the whole, the first, the last nor one between
names : map is_name (codes "Europe/Berlin" ∷ codes "a/b/c" ∷ codes "UTC" ∷ codes "Etc/GMT+5" ∷ [] ∷ codes "/a" ∷ codes "a/" ∷ codes "a//b" ∷ codes "a.b" ∷ codes "/" ∷ [])
    ≡ true ∷ true ∷ true ∷ true ∷ false ∷ false ∷ false ∷ false ∷ false ∷ false ∷ []
names = refl

-- a path begins with a slash or a dot, and one later is none
paths : map is_path (codes "/etc/localtime" ∷ codes "./zone" ∷ codes ".zone" ∷ codes "/" ∷ codes "." ∷ codes "a/b" ∷ codes "a.b" ∷ [] ∷ []) ≡ true ∷ true ∷ true ∷ true ∷ true ∷ false ∷ false ∷ false ∷ []
paths = refl

-- the zone of the machine has just this word
machine : map zone_word (codes "local" ∷ codes "Local" ∷ codes "localtime" ∷ codes "local " ∷ []) ≡ Local ∷ Name ∷ Name ∷ Text ∷ []
machine = refl

-- a path, also where it goes through a folder above, which no name does
files : map zone_word (codes "/etc/localtime" ∷ codes "../zone" ∷ codes "Europe/Berlin" ∷ codes "Europe/../zone" ∷ codes "EST5EDT" ∷ codes "UTC+2" ∷ []) ≡ Path ∷ Path ∷ Name ∷ Text ∷ Name ∷ Name ∷ []
files = refl

-- what is neither is a text
texts : map zone_word (codes "CET-1CEST,M3.5.0,M10.5.0/3" ∷ codes "<+02>-2" ∷ codes "UTC+5:30" ∷ codes "Europe/" ∷ [] ∷ []) ≡ Text ∷ Text ∷ Text ∷ Text ∷ Text ∷ []
texts = refl

-- a sign or a digit, and then signs, digits and colons alone
offsets : map is_offset (codes "+2" ∷ codes "-05:30" ∷ codes "2" ∷ codes "+" ∷ [] ∷ codes ":30" ∷ codes "2h" ∷ codes "x2" ∷ codes " 2" ∷ []) ≡ true ∷ true ∷ true ∷ true ∷ false ∷ false ∷ false ∷ false ∷ false ∷ []
offsets = refl

-- `UTC`, `GMT` and `UT` with such an offset are mistaken
mistaken : map zone_text (codes "UTC+2" ∷ codes "UTC2" ∷ codes "GMT-1" ∷ codes "UT+05:30" ∷ codes "UTC0" ∷ codes "UTC-" ∷ [])
    ≡ MistakenOffset ∷ MistakenOffset ∷ MistakenOffset ∷ MistakenOffset ∷ MistakenOffset ∷ MistakenOffset ∷ []
mistaken = refl

-- without an offset they are not, nor with more, nor are other names
rules : map zone_text (codes "UTC" ∷ codes "GMT0BST" ∷ codes "utc+2" ∷ codes "CET-1" ∷ codes "<+02>-2" ∷ codes "XUTC+2" ∷ codes "UTC+2,M3.5.0" ∷ [] ∷ []) ≡ Rule ∷ Rule ∷ Rule ∷ Rule ∷ Rule ∷ Rule ∷ Rule ∷ Rule ∷ []
rules = refl
