-- The seconds of a user, whose name is given as a key.
use Rattle.std.proofs.Common.{◌≡◌, ◌∙◌, ℕ, ℤ, List, Option, Some, ap}
use Rattle.tally_sessions.specs.Totals.{connect_of}
use Rattle.tally_sessions.specs.inside.Totals.{seconds_of_hosts}
use Rattle.tally_sessions.specs.declared.entry.Entry.{Entry}

pub connect_by_key : (n : ℕ) (key user : List ℕ) (es : List Entry) (until : Option ℤ) → n ≡ seconds_of_hosts (Some key) es until → key ≡ user → n ≡ connect_of user es until
connect_by_key n key user es until e f = e ∙ ap (λ (name : List ℕ). connect_of name es until) f
