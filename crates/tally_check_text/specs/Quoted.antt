-- A path in a command, as a shell reads it and a terminal shows it.
use Rattle.std.specs.Prelude.{ℕ, Bool, nat_le, ◌==◌, ◌&&◌, ◌||◌, List, [], ◌∷◌, ◌++◌, codes, flat_map, get_or, if◌then◌else◌}
use Rattle.std.specs.List.{list_all}
use Rattle.tally_print.specs.Text.{shown_byte}

-- a byte that means nothing to a shell: a letter, a digit, one of %+,-./ or one of :@_
abbrev pub is_plain_byte : ℕ → Bool
is_plain_byte byte =
    (nat_le 97 byte && nat_le byte 122) || ((nat_le 65 byte && nat_le byte 90) || ((nat_le 48 byte && nat_le byte 58)
    || ((byte == 37) || ((nat_le 43 byte && nat_le byte 47) || ((byte == 64) || (byte == 95))))))

-- a byte in single quotes; a quote ends them, stands behind a backslash and begins them again
abbrev pub quoted_byte : ℕ → List ℕ
quoted_byte byte = if byte == 39 then codes "'\\''" else shown_byte byte ∷ []

-- a path with its folder, where it begins with a dash
abbrev pub folder_before : List ℕ → List ℕ
folder_before path = if get_or path 0 0 == 45 then codes "./" else []

-- as it is where all bytes are plain, and in single quotes otherwise
unfoldable pub quoted : List ℕ → List ℕ
quoted path =
    folder_before path
    ++ (if list_all is_plain_byte path then path else codes "'" ++ flat_map quoted_byte path ++ codes "'")
