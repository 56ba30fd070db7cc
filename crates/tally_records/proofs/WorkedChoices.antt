-- Worked choices and periods, computed by the definitions.
use Rattle.std.proofs.Common.{◌≡◌, List, [], ◌∷◌, ◌++◌, true, false, map, replicate, ℕ, ℤ, pos, negsuc, Option, Some, None, refl}
use Rattle.std.specs.Prelude.{codes}
use Rattle.tally_records.specs.Choice.{every_login, is_among, is_every_login, is_name, names_nothing}
use Rattle.tally_records.specs.Period.{always, is_always, is_within}
use Rattle.tally_records.specs.Text.{padded}
use Rattle.tally_records.specs.declared.period.Period.{Period}

abbrev ann : List ℕ
ann = padded 32 (codes "ann")

abbrev bob : List ℕ
bob = padded 32 (codes "bob")

abbrev no_names : List (Option (List ℕ))
no_names = None ∷ None ∷ None ∷ None ∷ None ∷ None ∷ None ∷ None ∷ []

-- a name in the first of the eight places
abbrev in_first : List ℕ → List (Option (List ℕ))
in_first name = Some name ∷ replicate 7 None

-- a name in the last of them
abbrev in_last : List ℕ → List (Option (List ℕ))
in_last name = replicate 7 None ++ Some name ∷ []

-- eight empty places name nothing, and one name in whatever place is something
nothing_named : map names_nothing (no_names ∷ in_first ann ∷ in_last ann ∷ []) ≡ true ∷ false ∷ false ∷ []
nothing_named = refl

-- a name is that of a text byte for byte: no part of it, no longer one, no capital, and an empty place is no name
same_name : map (is_name ann) (Some ann ∷ Some (padded 32 (codes "an")) ∷ Some (padded 32 (codes "anna")) ∷ Some (padded 32 (codes "Ann")) ∷ None ∷ []) ≡ true ∷ false ∷ false ∷ false ∷ false ∷ []
same_name = refl

-- where something is named, it alone is chosen, in whatever place it stands
chosen_names : map (λ names. map (is_among names) (ann ∷ bob ∷ [])) (in_first ann ∷ in_last ann ∷ (Some bob ∷ in_last ann) ∷ []) ≡ (true ∷ false ∷ []) ∷ (true ∷ false ∷ []) ∷ (true ∷ true ∷ []) ∷ []
chosen_names = refl

-- where nothing is named, every text is chosen, an empty one too
unnamed : map (is_among no_names) (ann ∷ bob ∷ replicate 32 0 ∷ []) ≡ true ∷ true ∷ true ∷ []
unnamed = refl

abbrev period : Option ℤ → Option ℤ → Period
period from to = record { from = from; to = to }

-- a period has its first second and not its end
bounds : map (is_within (period (Some (pos 100)) (Some (pos 300)))) (pos 99 ∷ pos 100 ∷ pos 299 ∷ pos 300 ∷ []) ≡ false ∷ true ∷ true ∷ false ∷ []
bounds = refl

-- without a beginning it has all seconds before its end, and without an end all from its beginning on, before 1970 too
open_bounds : map (is_within (period None (Some (pos 0)))) (negsuc 2147483647 ∷ negsuc 0 ∷ pos 0 ∷ []) ∷ map (is_within (period (Some (negsuc 0)) None)) (negsuc 1 ∷ negsuc 0 ∷ pos 2147483647 ∷ []) ∷ []
    ≡ (true ∷ true ∷ false ∷ []) ∷ (false ∷ true ∷ true ∷ []) ∷ []
open_bounds = refl

-- one that ends where it begins, or before that, has no second
empty_periods : map (is_within (period (Some (pos 100)) (Some (pos 100)))) (pos 99 ∷ pos 100 ∷ []) ∷ map (is_within (period (Some (pos 300)) (Some (pos 100)))) (pos 99 ∷ pos 200 ∷ pos 300 ∷ []) ∷ []
    ≡ (false ∷ false ∷ []) ∷ (false ∷ false ∷ false ∷ []) ∷ []
empty_periods = refl

-- all time has neither a beginning nor an end, and every second
all_time : always ≡ record { from = None; to = None }
all_time = refl

every_second : map (is_within always) (negsuc 2147483647 ∷ pos 0 ∷ pos 2147483647 ∷ []) ≡ true ∷ true ∷ true ∷ []
every_second = refl

-- a bound makes a period other than all time, even where no record can have a second past it
bounded_periods : map is_always (period None None ∷ period (Some (negsuc 9999999999)) None ∷ period None (Some (pos 9999999999)) ∷ period (Some (pos 0)) (Some (pos 0)) ∷ []) ≡ true ∷ false ∷ false ∷ false ∷ []
bounded_periods = refl

-- all sessions: no user and no line is named, over all time
everything : every_login ≡ record { users = no_names; lines = no_names; period = period None None }
everything = refl

-- a user, a line, a beginning or an end leaves some out
some_left_out : map is_every_login (every_login ∷ record every_login { users = in_last ann } ∷ record every_login { lines = in_last ann } ∷ record every_login { period = period (Some (pos 0)) None }
    ∷ record every_login { period = period None (Some (pos 0)) } ∷ record { users = in_first ann; lines = in_first bob; period = period (Some (pos 0)) (Some (pos 1)) } ∷ [])
    ≡ true ∷ false ∷ false ∷ false ∷ false ∷ false ∷ []
some_left_out = refl
