-- Sessions in some order.
use Rattle.std.specs.Prelude.{◌≡◌, ℕ, List, sum_by}
use Rattle.tally_sessions.specs.declared.sums.Session.{Session}

-- these are the same sessions, in some order: they weigh as much, whatever the weights are
abbrev pub AreAlike : List Session → List Session → Type 0
AreAlike xs ys = (weight : Session → ℕ) → sum_by weight xs ≡ sum_by weight ys
