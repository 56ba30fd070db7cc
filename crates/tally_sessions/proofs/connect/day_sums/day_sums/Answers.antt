use Rattle.std.proofs.Common.{◌≡◌, ◌∙◌, ◌+◌, ◌≤◌, ◌<◌, ◌^◌, ℕ, ℤ, List, Bool, true, false, cond, pos, ◌+ℤ◌, ◌-ℤ◌, FitsSigned, length, sym, ap, subst, arith, rules, to_z, of_z, w32, w64}
use Rattle.std.proofs.lemmas.Int.{ints, to_z-of_z}
use Rattle.std.specs.Ordering.{int_cmp, is_eq}
use Rattle.std.specs.Prelude.{int_lt, unsigned_abs}
use Rattle.tally_sessions.specs.declared.sums.Session.{Session}
use Rattle.tally_sessions.specs.inside.Changes.{change_at, change_of_day, day_at}
use Rattle.tally_sessions.specs.Days.{IsDay, IsOffset, local}
use Rattle.tally_sessions.specs.Sums.{seconds_of_day}
use Rattle.tally_sessions.specs.inside.Sums.{sum_at}
use Rattle.tally_sessions.proofs.connect.DayChanges.{none_earlier, none_later, seconds_of_day-le}
use Rattle.tally_sessions.proofs.days.SpanLemmas.{above}
use Rattle.tally_sessions.proofs.days.ClockDays.{IsNear, near_local}
use Rattle.tally_sessions.proofs.connect.Walked.{IsWalked, walk_end, walk_start, walk_step}
use Rattle.tally_sessions.proofs.connect.day_sums.day_sums.Goals as goal
use Rattle.tally_sessions.proofs.connect.day_sums.day_sums.Goals.{then-seconds-gt0+in_ok-add, else-seconds-gt0}

abbrev held : ℤ → ℤ
held z = to_z w32 (of_z w32 z)

abbrev kept : ℤ → ℤ
kept z = to_z w64 (of_z w64 z)

few_seconds : (clock : ℤ → ℤ) (day : ℤ) (ss : List Session) → IsNear clock → length ss ≤ 16777216 → seconds_of_day clock day ss ≤ 2 ^ 44
few_seconds clock day ss near few = let n = seconds_of_day-le clock day ss near in omega (arith, n, few)

sum_in_range : (seconds change : ℤ) (a b : ℕ) → seconds ≡ pos a → change ≡ pos b -ℤ pos a → a ≤ 2 ^ 44 → b ≤ 2 ^ 44 → FitsSigned w64 (seconds +ℤ kept change)
sum_in_range seconds change a b is is' few few' = omega (arith, ints)

sum_is : (seconds change : ℤ) (a b : ℕ) → seconds ≡ pos a → change ≡ pos b -ℤ pos a → a ≤ 2 ^ 44 → b ≤ 2 ^ 44 → kept (seconds +ℤ kept change) ≡ pos b
sum_is seconds change a b is is' few few' = omega (arith, ints)

-- the sum so far and the change of a place make the seconds of its day, which fit
sum_here : (clock : ℤ → ℤ) (place : ℕ) (ss : List Session) (seconds : ℤ) (items table : List ℤ) → IsNear clock → length ss ≤ 16777216 → seconds ≡ pos (seconds_of_day clock (day_at place -ℤ pos 1) ss)
    → items ≡ table → change_at table place ≡ change_of_day clock (day_at place) ss
    → FitsSigned w64 (seconds +ℤ kept (change_at items place)) × (kept (seconds +ℤ kept (change_at items place)) ≡ pos (seconds_of_day clock (day_at place) ss))
sum_here clock place ss seconds items table near few is same at =
    let change : change_at items place ≡ change_of_day clock (day_at place) ss = ap (λ t. change_at t place) same ∙ at in
    let day_before = few_seconds clock (day_at place -ℤ pos 1) ss near few in
    let day = few_seconds clock (day_at place) ss near few in
    (sum_in_range seconds _ _ _ is change day_before day, sum_is seconds _ _ _ is change day_before day)

add_none : (n : ℕ) → n ≡ n + 0
add_none n = omega arith

same_before : (place : ℕ) → day_at place ≡ day_at (place + 1) -ℤ pos 1
same_before place = omega (arith, ints)

next_day : (place : ℕ) → day_at place +ℤ pos 1 ≡ day_at (place + 1)
next_day place = omega (arith, ints)

nothing : (b : Bool) (m n : ℕ) → n ≡ 0 → m ≡ m + cond b n 0
nothing true m n h = omega arith
nothing false m n h = omega arith

none_at : (z : ℤ) (n : ℕ) → z ≡ pos n → int_lt (pos 0) z ≡ false → n ≡ 0
none_at z n is le = let low = above (pos 0) z le in omega (arith, ints, is, low)

amount_is : (z : ℤ) (n : ℕ) → z ≡ pos n → unsigned_abs z ≡ n
amount_is z n is = ap unsigned_abs is

pub loop-place-init : goal.loop-place-init
loop-place-init g c =
    let ss = g.S.SessionSource.ahead c.args.source.now in
    let clock = local c.args.clock.now (held c.args.offset) in
    let days : (d : ℤ) → 0 < seconds_of_day clock d ss → IsDay d = c.in_ok-table.ensures.days in record {
      seconds = ap pos (sym (none_earlier clock (day_at 0 -ℤ pos 1) ss days (omega (arith, ints))));
      walked = subst (λ es. IsWalked ◌+◌ (λ (d : ℤ). seconds_of_day clock d ss) (λ (d : ℤ). 0) (sum_at int_cmp es) (day_at 0)) (sym c.new-sums.ensures.empty)
          (walk_start ◌+◌ 0 add_none (λ (d : ℤ). seconds_of_day clock d ss) (λ (d : ℤ). 0) (day_at 0) (λ d le. none_earlier clock d ss days le));
    }

pub overflow_add-seconds : goal.overflow_add-seconds
overflow_add-seconds g c =
    let ss = g.S.SessionSource.ahead c.args.source.now in
    let clock = local c.args.clock.now (held c.args.offset) in
    let place = c.loop-place.place in
    let within : place < 49717 = omega (arith, c.loop-place-test.true, c.deref-change-items.ensures.len, c.in_ok-table.ensures.all_days) in
    (sum_here clock place ss _ _ _ (near_local c.args.clock.now (held c.args.offset) (subst IsOffset (sym (to_z-of_z w32 c.args.offset c.ranges.offset)) c.requires.offset_in)) c.requires.few c.loop-place.invariant.seconds c.deref-change-items.ensures.value (c.in_ok-table.ensures.value place within)).0

pub add-requires : goal.add-requires
add-requires g c =
    let ss = g.S.SessionSource.ahead c.args.source.now in
    let clock = local c.args.clock.now (held c.args.offset) in
    let place = c.loop-place.place in
    let within : place < 49717 = omega (arith, c.loop-place-test.true, c.deref-change-items.ensures.len, c.in_ok-table.ensures.all_days) in
    let few = few_seconds clock (day_at place) ss (near_local c.args.clock.now (held c.args.offset) (subst IsOffset (sym (to_z-of_z w32 c.args.offset c.ranges.offset)) c.requires.offset_in)) c.requires.few in
    let seconds = (sum_here clock place ss _ _ _ (near_local c.args.clock.now (held c.args.offset) (subst IsOffset (sym (to_z-of_z w32 c.args.offset c.ranges.offset)) c.requires.offset_in)) c.requires.few c.loop-place.invariant.seconds c.deref-change-items.ensures.value (c.in_ok-table.ensures.value place within)).1 in
    let day : held c.day_at.result ≡ day_at place = to_z-of_z w32 c.day_at.result (search rules) ∙ c.day_at.ensures in
    let none : sum_at int_cmp c.loop-place.sums.entries (held c.day_at.result) ≡ 0 = ap (sum_at int_cmp c.loop-place.sums.entries) day ∙ c.loop-place.invariant.walked.rest (day_at place) (omega (arith, ints)) in
    let amount = amount_is _ _ seconds in
    omega (arith, none, amount, few)

pub loop-place-preserved : goal.loop-place-preserved
loop-place-preserved g c =
    let ss = g.S.SessionSource.ahead c.args.source.now in
    let clock = local c.args.clock.now (held c.args.offset) in
    let place = c.loop-place.place in
    let within : place < 49717 = omega (arith, c.loop-place-test.true, c.deref-change-items.ensures.len, c.in_ok-table.ensures.all_days) in
    let seconds = (sum_here clock place ss _ _ _ (near_local c.args.clock.now (held c.args.offset) (subst IsOffset (sym (to_z-of_z w32 c.args.offset c.ranges.offset)) c.requires.offset_in)) c.requires.few c.loop-place.invariant.seconds c.deref-change-items.ensures.value (c.in_ok-table.ensures.value place within)).1 in
    let amount : ℤ → ℕ = λ (d : ℤ). seconds_of_day clock d ss in
    let now : ℤ → ℕ = sum_at int_cmp c.loop-place.sums.entries in
    let next : ℤ → ℕ = sum_at int_cmp c.if-seconds-gt0.sums.entries in
    let added : (d : ℤ) → next d ≡ now d + cond (is_eq (int_cmp (day_at place) d)) (amount (day_at place)) 0 = λ d.
    elim c.if-seconds-gt0.branch [
      | then-seconds-gt0+in_ok-add w ↦
          let day : held w.day_at.result ≡ day_at place = to_z-of_z w32 w.day_at.result (search rules) ∙ w.day_at.ensures in
          ap (λ m. sum_at int_cmp m.entries d) w.sums-is ∙ w.in_ok-add.ensures d
          ∙ (λ i. now d + cond (is_eq (int_cmp (day i) d)) (amount_is _ (amount (day_at place)) seconds i) 0)
      | else-seconds-gt0 w ↦
          ap (λ m. sum_at int_cmp m.entries d) w.sums-is
          ∙ nothing (is_eq (int_cmp (day_at place) d)) (now d) (amount (day_at place)) (none_at _ _ seconds w.if-seconds-gt0.false)
    ] in record {
      seconds = seconds ∙ ap (λ (d : ℤ). pos (seconds_of_day clock d ss)) (same_before place);
      walked = subst (IsWalked ◌+◌ amount (λ (d : ℤ). 0) next) (next_day place)
          (walk_step ◌+◌ 0 add_none amount (λ (d : ℤ). 0) now next (day_at place) c.loop-place.invariant.walked added);
    }

pub returns-clause-value : goal.returns-clause-value
returns-clause-value g c day =
    let ss = g.S.SessionSource.ahead c.args.source.now in
    let clock = local c.args.clock.now (held c.args.offset) in
    let place = c.loop-place.place in
    let offset_is : held c.args.offset ≡ c.args.offset = to_z-of_z w32 c.args.offset (search rules) in
    let days : (d : ℤ) → 0 < seconds_of_day clock d ss → IsDay d = c.in_ok-table.ensures.days in
    let all : 49716 ≤ place = omega (arith, c.loop-place-test.false, c.deref-change-items.ensures.len, c.in_ok-table.ensures.all_days) in
    let sum = walk_end ◌+◌ 0 add_none (λ (d : ℤ). seconds_of_day clock d ss) (λ (d : ℤ). 0) (sum_at int_cmp c.loop-place.sums.entries) (day_at place) c.loop-place.invariant.walked
    (λ d le. none_later clock d ss place days all le) day in
    let value : sum_at int_cmp c.loop-place.sums.entries day ≡ seconds_of_day clock day ss = omega (arith, sum) in
    value ∙ ap (λ (z : ℤ). seconds_of_day (local c.args.clock.now z) day ss) offset_is

pub returns-clause-days : goal.returns-clause-days
returns-clause-days g c day lt =
    let ss = g.S.SessionSource.ahead c.args.source.now in
    let offset_is : held c.args.offset ≡ c.args.offset = to_z-of_z w32 c.args.offset (search rules) in
    c.in_ok-table.ensures.days day (subst (λ n. 0 < n) (returns-clause-value g c day ∙ ap (λ (z : ℤ). seconds_of_day (local c.args.clock.now z) day ss) (sym offset_is)) lt)
