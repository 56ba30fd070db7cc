-- The usage of joined lists, and that a usage fits its types.
use Rattle.std.proofs.Common.{◌≡◌, ◌*◌, ◌^◌, ◌≤◌, Bool, List, [], ◌++◌, length, filter, All, refl, arith, length-append}
use Rattle.std.proofs.Math.Nat.{mul-le-mul_left}
use Rattle.std.proofs.lemmas.List.Elements.{All-weaker, All-filter}
use Rattle.std.proofs.lemmas.List.Sums.{sum_by-append, sum_by-le, length-filter, count_by-le-length}
use Rattle.tally_records.specs.declared.process.ProcRecord.{ProcRecord}
use Rattle.tally_records.specs.ProcRecord.{IsBounded}
use Rattle.tally_usage.specs.inside.Usage.{Fits}
use Rattle.tally_usage.specs.Usage.{cpu_of, no_usage, plus, usage_of}

pub usage_of-none : usage_of [] ≡ no_usage
unfolding usage_of
usage_of-none = refl

pub usage_of-append : (xs ys : List ProcRecord) → usage_of (xs ++ ys) ≡ plus (usage_of xs) (usage_of ys)
unfolding usage_of
usage_of-append xs ys = λ i. record {
  count = length-append xs ys i;
  real = sum_by-append (λ r. r.real_ticks) xs ys i;
  cpu = sum_by-append cpu_of xs ys i;
  io = sum_by-append (λ r. r.io) xs ys i;
  mem_cpu = sum_by-append (λ r. r.mem * cpu_of r) xs ys i;
}

pub count-usage_of : (rs : List ProcRecord) → (usage_of rs).count ≡ length rs
unfolding usage_of
count-usage_of rs = refl

pub cpu_bounded : (r : ProcRecord) → IsBounded r → cpu_of r ≤ 2 ^ 35
cpu_bounded r b = omega (arith, b.user_ticks, b.system_ticks)

pub mem_cpu_bounded : (r : ProcRecord) → IsBounded r → r.mem * cpu_of r ≤ 2 ^ 69
mem_cpu_bounded r b =
    omega (arith, b.mem, mul-le-mul_left r.mem (cpu_bounded r b))

-- so many bounded records fit
pub usage_of-Fits : (rs : List ProcRecord) → All IsBounded rs → length rs ≤ 2 ^ 28 → Fits (usage_of rs)
unfolding usage_of
usage_of-Fits rs bounded few = record {
  count = omega arith;
  real = omega (arith, sum_by-le (λ r. r.real_ticks) (2 ^ 64) rs (All-weaker IsBounded (λ r. r.real_ticks ≤ 2 ^ 64) (λ r b. omega (arith, b.real_ticks)) rs bounded));
  cpu = omega (arith, sum_by-le cpu_of (2 ^ 35) rs (All-weaker IsBounded (λ r. cpu_of r ≤ 2 ^ 35) cpu_bounded rs bounded));
  io = omega (arith, sum_by-le (λ r. r.io) (2 ^ 34) rs (All-weaker IsBounded (λ r. r.io ≤ 2 ^ 34) (λ r b. omega (arith, b.io)) rs bounded));
  mem_cpu = omega (arith, sum_by-le (λ r. r.mem * cpu_of r) (2 ^ 69) rs (All-weaker IsBounded (λ r. r.mem * cpu_of r ≤ 2 ^ 69) mem_cpu_bounded rs bounded));
}

-- a filter keeps no more
pub length-filter-le : {X : Type 0} (p : X → Bool) (xs : List X) → length (filter p xs) ≤ length xs
length-filter-le p xs = omega (arith, length-filter p xs, count_by-le-length p xs)

pub filter-Fits : (p : ProcRecord → Bool) (rs : List ProcRecord) → All IsBounded rs → length rs ≤ 2 ^ 28 → Fits (usage_of (filter p rs))
filter-Fits p rs bounded few =
    usage_of-Fits (filter p rs) (All-filter p IsBounded rs bounded) (omega (arith, length-filter-le p rs))
