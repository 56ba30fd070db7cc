-- Words that name a zone.
use Rattle.std.specs.Prelude.{◌&&◌, ◌||◌, ◌==◌, ◌-◌, ◌∷◌, ℕ, Bool, List, [], codes, drop, false, length, not, slice_index_or, take, if◌then◌else◌}
use Rattle.std.specs.Char.{is_ascii_alphanumeric, is_ascii_digit}
use Rattle.std.specs.List.{list_all, list_any, zip}
use Rattle.std.specs.Str.{bytes_eq}
use Rattle.tally_clock.specs.declared.word.ZoneText.{ZoneText}
use Rattle.tally_clock.specs.declared.word.ZoneText.TheVariants.{MistakenOffset, Rule}
use Rattle.tally_clock.specs.declared.word.ZoneWord.{ZoneWord}
use Rattle.tally_clock.specs.declared.word.ZoneWord.TheVariants.{Local, Name, Path, Text}

-- a slash
abbrev pub is_slash : ℕ → Bool
is_slash byte = byte == 47

-- a letter, a digit, `_`, `-` or `+`, or the slash between two parts; no dot, so that no part is `..`
abbrev pub is_name_byte : ℕ → Bool
is_name_byte byte = is_ascii_alphanumeric byte || (byte == 95) || (byte == 45) || (byte == 43) || is_slash byte

-- no byte but these
abbrev pub has_name_bytes : List ℕ → Bool
has_name_bytes word = list_all is_name_byte word

-- a slash at the same place
abbrev pub meet_in_slash : List ℕ → List ℕ → Bool
meet_in_slash text other = list_any (λ p. is_slash p.0 && is_slash p.1) (zip text other)

-- two slashes in a row
abbrev pub has_slashes : List ℕ → Bool
has_slashes word = meet_in_slash word (drop 1 word)

-- parts of such bytes, none of them empty, with a slash between each two; the empty word reads as a slash
abbrev pub is_name : List ℕ → Bool
is_name word = has_name_bytes word && not (has_slashes word)
    && not (is_slash (slice_index_or word 0 47)) && not (is_slash (slice_index_or word (length word - 1) 47))

-- begins with a slash or a dot
abbrev pub is_path : List ℕ → Bool
is_path [] = false
is_path (first ∷ rest) = is_slash first || (first == 46)

-- what a word names a zone by
abbrev pub zone_word : List ℕ → ZoneWord
zone_word word =
    if bytes_eq word (codes "local") then Local
    else (if is_path word then Path
    else (if is_name word then Name else Text))

-- a plus or a minus
abbrev pub is_sign : ℕ → Bool
is_sign byte = (byte == 43) || (byte == 45)

-- signs, digits and colons alone
abbrev pub has_offset_bytes : List ℕ → Bool
has_offset_bytes text = list_all (λ b. is_sign b || is_ascii_digit b || (b == 58)) text

-- a sign or a digit, and then no more than signs, digits and colons
abbrev pub is_offset : List ℕ → Bool
is_offset [] = false
is_offset (first ∷ rest) =
    (is_sign first || is_ascii_digit first) && has_offset_bytes rest

-- a name of UTC and an offset
abbrev pub is_offset_from : List ℕ → List ℕ → Bool
is_offset_from zone word = bytes_eq (take (length zone) word) zone && is_offset (drop (length zone) word)

-- what a word is that names no file: POSIX reads `UTC+2` as two hours west, and whoever writes it means east
abbrev pub zone_text : List ℕ → ZoneText
zone_text word =
    if list_any (λ zone. is_offset_from zone word) (codes "UTC" ∷ codes "GMT" ∷ codes "UT" ∷ [])
    then MistakenOffset else Rule
