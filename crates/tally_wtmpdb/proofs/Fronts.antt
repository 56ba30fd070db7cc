-- What is read of files up to a limit.
use Rattle.std.proofs.Common.{◌≡◌, ◌++◌, [], ℕ, List, None, Option, Some, take}
use Rattle.std.specs.Prelude.{IfSome, option_map}

-- what a reader of so many bytes read after none is the front of what its file had
pub limited : (bytes : Option (List ℕ)) (given limit : ℕ) (before items : List ℕ) → given ≡ limit → before ≡ []
    → IfSome (option_map (take given) bytes) (λ xs. items ≡ before ++ xs) → IfSome bytes (λ xs. items ≡ take limit xs)
limited None given limit before items is none read = tt
limited (Some xs) given limit before items is none read = rw (is, none) at read
