-- What is read of files up to a limit.
use Rattle.std.proofs.Common.{◌≡◌, ◌+◌, ◌++◌, ◌≤◌, [], ℕ, List, None, Option, Some, arith, length, subst, take}
use Rattle.std.specs.Prelude.{IfSome, option_map}
use Rattle.std.proofs.lemmas.List.{length-take, take_all}
use Rattle.tally_kinds.specs.Kinds.{looks_of}
use Rattle.tally_kinds.specs.declared.kinds.Looks.{Looks}
use Rattle.tally_kinds.specs.declared.kinds.TheConstants.{FRONT_SIZE}
use Rattle.tally.specs.Users.{HasNamesOf, users_front}
use Rattle.tally.specs.declared.users.TheConstants.{USERS_LIMIT}

-- where a byte more than the limit was asked for and not found, the whole was read
small_is_whole : (bytes : List ℕ) → length (users_front bytes) ≤ USERS_LIMIT → users_front bytes ≡ bytes
small_is_whole bytes small = take_all (USERS_LIMIT + 1) bytes (let size = length-take (USERS_LIMIT + 1) bytes in omega (arith, size))

-- the names of what was read are those of the file
pub names_of_front : (bytes : Option (List ℕ)) (front : List ℕ) (names : List (ℕ × List ℕ)) → IfSome bytes (λ xs. front ≡ users_front xs) → HasNamesOf front names
    → IfSome bytes (λ xs. HasNamesOf xs names)
names_of_front None front names is has = tt
names_of_front (Some xs) front names is has =
    let read : HasNamesOf (users_front xs) names = subst (λ (f : List ℕ). HasNamesOf f names) is has in
    subst (λ (f : List ℕ). HasNamesOf f names) (small_is_whole xs read.small) read

-- a file looks like what was read of its front
pub looks_of_front : (bytes : Option (List ℕ)) (front : List ℕ) (size : ℕ) (looks : Looks) → IfSome bytes (λ xs. front ≡ take FRONT_SIZE xs) → looks ≡ looks_of front size
    → IfSome bytes (λ xs. looks ≡ looks_of (take FRONT_SIZE xs) size)
looks_of_front None front size looks is shown = tt
looks_of_front (Some xs) front size looks is shown = subst (λ (f : List ℕ). looks ≡ looks_of f size) is shown

-- what a reader of so many bytes read after none is the front of what its file had
pub limited : (bytes : Option (List ℕ)) (given limit : ℕ) (before items : List ℕ) → given ≡ limit → before ≡ []
    → IfSome (option_map (take given) bytes) (λ xs. items ≡ before ++ xs) → IfSome bytes (λ xs. items ≡ take limit xs)
limited None given limit before items is none read = tt
limited (Some xs) given limit before items is none read = rw (is, none) at read
