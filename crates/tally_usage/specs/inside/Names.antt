-- How names are kept, and how the lines of passwd(5) are read.
use Rattle.std.specs.Prelude.{ℕ, if◌then◌else◌, List, [], map, Option, None, Some, Vec}
use Rattle.std.specs.Borrow.{Bor}
use Rattle.tally_usage.specs.Names.{fields_of, is_user, name_field, uid_of}

-- the names of kept vectors
abbrev pub names_kept : {A : Type 0} → List (ℕ × Vec ℕ A) → List (ℕ × List ℕ)
names_kept entries = map (λ e. (e.0, e.1.items)) entries

-- the fields of what is left of a line, if anything
abbrev pub fields_left : Option (Bor (List ℕ)) → List (List ℕ)
fields_left None = []
fields_left (Some rest) = fields_of rest.now

-- the number and the name of a user, where the fields have one
abbrev pub user_of : List (List ℕ) → Option (ℕ × List ℕ)
user_of fields = if is_user fields then Some (uid_of fields, name_field fields) else None

-- a number and a name that is lent
abbrev pub lent_user : Option (ℕ × Bor (List ℕ)) → Option (ℕ × List ℕ)
lent_user None = None
lent_user (Some user) = Some (user.0, user.1.now)
