use Rattle.std.proofs.Common.{◌≡◌, ◌+◌, ◌-◌, ◌≤◌, ◌==◌, drop, length, not}
use Rattle.std.specs.List.{prefix_len}
use Rattle.tally_print.proofs.file_usage.text_of.Given as goal

-- no NUL stands before `end`
abbrev pub invariant-loop-end : goal.invariant-loop-end
invariant-loop-end l =
    (l.end ≤ length l.field) × (prefix_len (λ b. not (b == 0)) l.field ≡ l.end + prefix_len (λ b. not (b == 0)) (drop l.end l.field))

abbrev pub decreases-loop-end : goal.decreases-loop-end
decreases-loop-end l = length l.field - l.end
