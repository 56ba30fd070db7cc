-- The passes of a new desk.
use Rattle.std.proofs.Common.{◌≡◌, ℕ, ◌<◌, List, length, map, get_or, ap, ◌∙◌, arith}
use Rattle.std.proofs.lemmas.List.FromFn.{get_or-map-range_with_len, length-map-range_with_len}
use Rattle.std.specs.List.{range_with_len}
use Rattle.tally_desk.specs.Passes.{PassState}

-- as many as there are callers, each the first of its number
pub record AreFirst (first : ℕ → PassState) (callers : ℕ) (passes : List PassState) : Type 0 where
  pub count : length passes ≡ callers
  pub each : (k : ℕ) (p : PassState) → k < length passes → get_or passes k p ≡ first k

pub are_first : (first : ℕ → PassState) (callers : ℕ) (passes : List PassState) → passes ≡ map first (range_with_len 0 callers) → AreFirst first callers passes
are_first first callers passes e =
    let count : length passes ≡ callers = ap length e ∙ length-map-range_with_len first 0 callers in
    record {
      count = count;
      each = λ k p l. ap (λ ps. get_or ps k p) e ∙ get_or-map-range_with_len first 0 callers k k p (omega (arith, l, count)) (omega arith);
    }
