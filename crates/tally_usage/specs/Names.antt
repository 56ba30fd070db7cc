-- The names of users by number, and the lines of passwd(5) that give them.
use Rattle.std.specs.Prelude.{ℕ, ◌^◌, Bool, ◌==◌, ◌&&◌, nat_eq, nat_lt, List, [], get_or, length, map, Option}
use Rattle.std.specs.Char.{is_ascii_digit}
use Rattle.std.specs.List.{find, list_all, slice_split}
use Rattle.std.specs.Map.{lookup}
use Rattle.std.specs.Option.{option_map}
use Rattle.std.specs.Str.Parse.{digits_value}

-- the name of a number
abbrev pub names_of : List (ℕ × List ℕ) → ℕ → Option (List ℕ)
names_of names uid = lookup (nat_eq uid) names

-- the lines of a file; the last counts too where no line feed ends it
abbrev pub lines_of : List ℕ → List (List ℕ)
lines_of bytes = slice_split (λ byte. byte == 10) bytes

-- the fields of a line, between colons
abbrev pub fields_of : List ℕ → List (List ℕ)
fields_of line = slice_split (λ byte. byte == 58) line

-- the first field is a name, and the third a number
abbrev pub name_field : List (List ℕ) → List ℕ
name_field fields = get_or fields 0 []

abbrev pub number_field : List (List ℕ) → List ℕ
number_field fields = get_or fields 2 []

-- a digit or more, and nothing else
abbrev pub is_numeral : List ℕ → Bool
is_numeral text = nat_lt 0 (length text) && list_all is_ascii_digit text

-- a text is the number of a user: a decimal number below 2 ^ 32
abbrev pub is_uid : List ℕ → Bool
is_uid text = is_numeral text && nat_lt (digits_value 10 text) (2 ^ 32)

-- the fields are those of a user: seven, a name that is not empty, and a number
abbrev pub is_user : List (List ℕ) → Bool
is_user fields =
    (length fields == 7) && nat_lt 0 (length (name_field fields)) && is_uid (number_field fields)

-- the number of a user
abbrev pub uid_of : List (List ℕ) → ℕ
uid_of fields = digits_value 10 (number_field fields)

-- the fields are those of the user of this number
abbrev pub has_uid : ℕ → List (List ℕ) → Bool
has_uid uid fields = is_user fields && nat_eq uid (uid_of fields)

-- the name of a number among lines: that of the first line of this user
abbrev pub name_among : List (List ℕ) → ℕ → Option (List ℕ)
name_among lines uid = option_map name_field (find (has_uid uid) (map fields_of lines))

-- the name of a number in a file of passwd(5)
abbrev pub name_in : List ℕ → ℕ → Option (List ℕ)
name_in bytes uid = name_among (lines_of bytes) uid
