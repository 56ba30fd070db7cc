use Rattle.std.proofs.Common.{◌≡◌, ℕ, map}
use Rattle.tally_usage.specs.Names.{name_among, names_of}
use Rattle.tally_usage.specs.inside.Names.{names_kept}
use Rattle.tally_usage.proofs.names.names_of_lines.Given as goal

-- the names are those of the lines so far
abbrev pub invariant-loop-line : goal.invariant-loop-line
invariant-loop-line l = (uid : ℕ) → names_of (names_kept l.names.entries) uid ≡ name_among (map (λ x. x.now) l.yielded) uid
