use Rattle.std.proofs.Common.{◌≡◌, ◌∙◌, ◌≤◌, ◌<◌, ◌^◌, ℕ, zero, suc, ℤ, All, true, false, List, [], ◌∷◌, ◌++◌, length, refl, FitsSigned, pos, ◌+ℤ◌, ◌≤ℤ◌, sym, ap, subst, arith, to_z, of_z, w32, w64}
use Rattle.std.proofs.lemmas.Int.{ints, to_z-of_z}
use Rattle.std.specs.Prelude.{int_lt, unsigned_abs}
use Rattle.tally_sessions.specs.declared.connect.keys.DayUser.{DayUser}
use Rattle.tally_sessions.specs.declared.sums.Session.{Session}
use Rattle.tally_sessions.specs.declared.times.DayUserTime.{DayUserTime}
use Rattle.tally_sessions.specs.inside.Changes.{day_change, days_from}
use Rattle.tally_sessions.specs.Rows.{day_user_times}
use Rattle.tally_sessions.specs.Days.{IsDay, IsOffset, local}
use Rattle.tally_sessions.specs.Sums.{seconds_of_day_user}
use Rattle.tally_sessions.proofs.connect.DaySpread.{spread_end}
use Rattle.tally_sessions.proofs.days.SpanLemmas.{above}
use Rattle.tally_sessions.proofs.connect.DayUsers.{day_user_rows_are, day_user_rows_days}
use Rattle.tally_sessions.proofs.connect.RowOrder.{given_by, rows_of_sums, sums_of}
use Rattle.tally_sessions.proofs.connect.RowSteps.{ahead_less, change_is_all, IsPopped, IsWalk, popped_high, popped_low, walk_on, walk_past, walk_start}
use Rattle.tally_sessions.proofs.days.ClockDays.{IsNear, near_local}
use Rattle.tally_sessions.proofs.connect.UserChanges.{seconds_of_day_user-le}
use Rattle.tally_sessions.proofs.connect.day_user_rows.day_user_rows.Goals as goal

abbrev held : ℤ → ℤ
held z = to_z w32 (of_z w32 z)

abbrev kept : ℤ → ℤ
kept z = to_z w64 (of_z w64 z)

pub loop-at-init : goal.loop-at-init
loop-at-init g c = walk_start _ _ _ c.new-rows.ensures.items c.in_ok-changes.ensures.value

abbrev all_of : (ℤ → ℤ) → List Session → DayUser → ℕ
all_of clock ss k = seconds_of_day_user clock k.day k.user ss

kept_is : (v : ℤ) (n : ℕ) → v ≡ pos n → n ≤ 2 ^ 44 → kept v ≡ pos n
kept_is v n is few = omega (arith, ints)

some_if : (n : ℕ) → int_lt (pos 0) (pos n) ≡ true → 0 < n
some_if zero h = absurd (let no : false ≡ true = h in cc)
some_if (suc n) h = omega arith

none_if : (n : ℕ) → int_lt (pos 0) (pos n) ≡ false → n ≡ 0
none_if n h = let low = above (pos 0) (pos n) h in omega (arith, ints)

-- what is known of the least key
record IsFirst (all : DayUser → ℕ) (at : DayUser) (v : ℤ) : Type 0 where
  amount : v ≡ pos (all at)
  kept_amount : kept v ≡ pos (all at)
  few : all at ≤ 2 ^ 44

first_is : (clock : ℤ → ℤ) (ss : List Session) (rows : List DayUserTime) (old popped : List (DayUser × ℤ)) (at : DayUser) (v : ℤ) → IsNear clock → length ss ≤ 16777216 → ((k : DayUser) → 0 < all_of clock ss k → IsDay k.day)
    → IsWalk (all_of clock ss) rows old → IsPopped old popped at v → IsFirst (all_of clock ss) at v
first_is clock ss rows old popped at v near few days h out =
    let amount = change_is_all (all_of clock ss) rows old popped at v h out days in
    let small = seconds_of_day_user-le clock at ss near few in record {
      amount = amount;
      kept_amount = kept_is v (all_of clock ss at) amount small;
      few = small;
    }

day_fits : (d : ℤ) → IsDay d → FitsSigned w32 (held d +ℤ pos 1)
day_fits d is = let low = is.low in let high = is.high in omega (arith, ints)

pub overflow_add-day : goal.overflow_add-day
overflow_add-day g c =
    let clock = local c.args.clock.now (held c.args.offset) in
    let near = near_local c.args.clock.now (held c.args.offset) (subst IsOffset (sym (to_z-of_z w32 c.args.offset c.ranges.offset)) c.requires.offset_in) in
    let ss = g.S.SessionSource.ahead c.args.source.now in
    let out : IsPopped c.loop-at.changes.entries c.pop_first.new.self.entries c.in-Some.at c.in-Some.seconds = record { value = c.in-Some.ensures.value; least = c.in-Some.ensures.least; updates = c.in-Some.ensures.updates.0 } in
    let first = first_is clock ss c.loop-at.rows.items _ _ c.in-Some.at c.in-Some.seconds near c.requires.few c.in_ok-changes.ensures.days c.loop-at.invariant out in
    day_fits c.in-Some.at.day (c.in_ok-changes.ensures.days c.in-Some.at (some_if _ (subst (λ z. int_lt (pos 0) z ≡ true) first.kept_amount c.if-seconds-gt0.true)))

pub add_change-requires-clause-low : goal.add_change-requires-clause-low
add_change-requires-clause-low g c =
    let out : IsPopped c.loop-at.changes.entries c.pop_first.new.self.entries c.in-Some.at c.in-Some.seconds = record { value = c.in-Some.ensures.value; least = c.in-Some.ensures.least; updates = c.in-Some.ensures.updates.0 } in
    popped_low (all_of (local c.args.clock.now (held c.args.offset)) (g.S.SessionSource.ahead c.args.source.now)) c.loop-at.rows.items _ _ c.in-Some.at c.in-Some.seconds c.loop-at.invariant out _ (λ j. seconds_of_day_user-le (local c.args.clock.now (held c.args.offset)) j (g.S.SessionSource.ahead c.args.source.now) (near_local c.args.clock.now (held c.args.offset) (subst IsOffset (sym (to_z-of_z w32 c.args.offset c.ranges.offset)) c.requires.offset_in)) c.requires.few)

pub add_change-requires-clause-high : goal.add_change-requires-clause-high
add_change-requires-clause-high g c =
    let out : IsPopped c.loop-at.changes.entries c.pop_first.new.self.entries c.in-Some.at c.in-Some.seconds = record { value = c.in-Some.ensures.value; least = c.in-Some.ensures.least; updates = c.in-Some.ensures.updates.0 } in
    popped_high (all_of (local c.args.clock.now (held c.args.offset)) (g.S.SessionSource.ahead c.args.source.now)) c.loop-at.rows.items _ _ c.in-Some.at c.in-Some.seconds c.loop-at.invariant out _ (λ j. seconds_of_day_user-le (local c.args.clock.now (held c.args.offset)) j (g.S.SessionSource.ahead c.args.source.now) (near_local c.args.clock.now (held c.args.offset) (subst IsOffset (sym (to_z-of_z w32 c.args.offset c.ranges.offset)) c.requires.offset_in)) c.requires.few)

small : (z : ℤ) (n : ℕ) → z ≡ pos n → n ≤ 2 ^ 44 → z ≤ℤ pos (2 ^ 61)
small z n is few = omega (arith, ints)

pub add_change-requires-clause-more_high : goal.add_change-requires-clause-more_high
add_change-requires-clause-more_high g c =
    let out : IsPopped c.loop-at.changes.entries c.pop_first.new.self.entries c.in-Some.at c.in-Some.seconds = record { value = c.in-Some.ensures.value; least = c.in-Some.ensures.least; updates = c.in-Some.ensures.updates.0 } in
    let first = first_is (local c.args.clock.now (held c.args.offset)) (g.S.SessionSource.ahead c.args.source.now) c.loop-at.rows.items _ _ c.in-Some.at c.in-Some.seconds (near_local c.args.clock.now (held c.args.offset) (subst IsOffset (sym (to_z-of_z w32 c.args.offset c.ranges.offset)) c.requires.offset_in)) c.requires.few c.in_ok-changes.ensures.days c.loop-at.invariant out in
    small _ _ first.kept_amount first.few

next_day : (d : ℤ) → IsDay d → held (held d +ℤ pos 1) ≡ d +ℤ pos 1
next_day d is = let low = is.low in let high = is.high in omega (arith, ints)

same_day : (d : ℤ) → IsDay d → held d ≡ d
same_day d is = let low = is.low in let high = is.high in omega (arith, ints)

pub loop-at-smaller-in-Continue-branch-3 : goal.loop-at-smaller-in-Continue-branch-3
loop-at-smaller-in-Continue-branch-3 g c =
    let clock = local c.args.clock.now (held c.args.offset) in
    let near = near_local c.args.clock.now (held c.args.offset) (subst IsOffset (sym (to_z-of_z w32 c.args.offset c.ranges.offset)) c.requires.offset_in) in
    let ss = g.S.SessionSource.ahead c.args.source.now in
    let out : IsPopped c.loop-at.changes.entries c.pop_first.new.self.entries c.in-Some.at c.in-Some.seconds = record { value = c.in-Some.ensures.value; least = c.in-Some.ensures.least; updates = c.in-Some.ensures.updates.0 } in
    let first = first_is clock ss c.loop-at.rows.items _ _ c.in-Some.at c.in-Some.seconds near c.requires.few c.in_ok-changes.ensures.days c.loop-at.invariant out in
    let day = c.in_ok-changes.ensures.days c.in-Some.at (some_if _ (subst (λ z. int_lt (pos 0) z ≡ true) first.kept_amount c.if-seconds-gt0.true)) in
    ahead_less c.loop-at.changes.entries c.pop_first.new.self.entries c.add_change.new.changes.entries c.in-Some.at c.in-Some.seconds _ c.in-Some.ensures.removal day.high (next_day c.in-Some.at.day day) (c.in_ok-add_change.ensures.ahead (λ (k : DayUser). days_from k.day))

pub loop-at-preserved-in-Continue-branch-3 : goal.loop-at-preserved-in-Continue-branch-3
loop-at-preserved-in-Continue-branch-3 g c =
    let clock = local c.args.clock.now (held c.args.offset) in
    let near = near_local c.args.clock.now (held c.args.offset) (subst IsOffset (sym (to_z-of_z w32 c.args.offset c.ranges.offset)) c.requires.offset_in) in
    let ss = g.S.SessionSource.ahead c.args.source.now in
    let at = c.in-Some.at in
    let out : IsPopped c.loop-at.changes.entries c.pop_first.new.self.entries c.in-Some.at c.in-Some.seconds = record { value = c.in-Some.ensures.value; least = c.in-Some.ensures.least; updates = c.in-Some.ensures.updates.0 } in
    let first = first_is clock ss c.loop-at.rows.items _ _ at c.in-Some.seconds near c.requires.few c.in_ok-changes.ensures.days c.loop-at.invariant out in
    let some = some_if _ (subst (λ z. int_lt (pos 0) z ≡ true) first.kept_amount c.if-seconds-gt0.true) in
    let day = c.in_ok-changes.ensures.days at some in
    let on : ℤ → DayUser = λ d. record { day = d; user = at.user } in
    subst (λ rows. IsWalk (all_of clock ss) rows c.add_change.new.changes.entries) (sym c.in_ok-push.ensures.items)
    (subst (λ user. IsWalk (all_of clock ss) (c.loop-at.rows.items ++ (record { day = held at.day; user = user; seconds = unsigned_abs (kept c.in-Some.seconds) } ∷ [])) c.add_change.new.changes.entries) (sym c.name.ensures)
    (walk_on (all_of clock ss) c.loop-at.rows.items c.loop-at.changes.entries c.pop_first.new.self.entries at c.in-Some.seconds c.loop-at.invariant out
    (record { day = held at.day; user = at.user; seconds = unsigned_abs (kept c.in-Some.seconds) }) c.add_change.new.changes.entries (on (held (held at.day +ℤ pos 1))) (kept c.in-Some.seconds)
    c.in_ok-changes.ensures.days (ap on (same_day at.day day)) (ap unsigned_abs first.kept_amount) some (ap on (next_day at.day day)) first.kept_amount
    c.in_ok-add_change.ensures.value c.in_ok-add_change.ensures.others))

pub loop-at-preserved : goal.loop-at-preserved
loop-at-preserved g c =
    let clock = local c.args.clock.now (held c.args.offset) in
    let near = near_local c.args.clock.now (held c.args.offset) (subst IsOffset (sym (to_z-of_z w32 c.args.offset c.ranges.offset)) c.requires.offset_in) in
    let ss = g.S.SessionSource.ahead c.args.source.now in
    let out : IsPopped c.loop-at.changes.entries c.pop_first.new.self.entries c.in-Some.at c.in-Some.seconds = record { value = c.in-Some.ensures.value; least = c.in-Some.ensures.least; updates = c.in-Some.ensures.updates.0 } in
    let first = first_is clock ss c.loop-at.rows.items _ _ c.in-Some.at c.in-Some.seconds near c.requires.few c.in_ok-changes.ensures.days c.loop-at.invariant out in
    walk_past (all_of clock ss) c.loop-at.rows.items _ _ c.in-Some.at c.in-Some.seconds c.loop-at.invariant out
    (first.amount ∙ ap pos (none_if _ (subst (λ z. int_lt (pos 0) z ≡ false) first.kept_amount c.if-seconds-gt0.false)))

no_entries : (es : List (DayUser × ℤ)) → (0 < length es → false ≡ true) → (k : DayUser) → day_change es k ≡ pos 0
no_entries [] none k = refl
no_entries (e ∷ es) none k = absurd (let no = none (omega arith) in cc)

pub returns-clause-rows : goal.returns-clause-rows
returns-clause-rows g c =
    let ss = g.S.SessionSource.ahead c.args.source.now in
    let clock = local c.args.clock.now (held c.args.offset) in
    let near = near_local c.args.clock.now (held c.args.offset) (subst IsOffset (sym (to_z-of_z w32 c.args.offset c.ranges.offset)) c.requires.offset_in) in
    let offset_is : held c.args.offset ≡ c.args.offset = to_z-of_z w32 c.args.offset c.ranges.offset in
    let h = c.loop-at.invariant in
    sym (rows_of_sums c.loop-at.rows.items h.ordered.timed)
    ∙ day_user_rows_are clock ss (sums_of c.loop-at.rows.items) h.ordered.up
    (λ k. spread_end (all_of clock ss) (given_by c.loop-at.rows.items) (day_change c.loop-at.changes.entries) c.in_ok-changes.ensures.days h.spread (no_entries c.loop-at.changes.entries c.in_default.ensures.variant.1) k)
    ∙ ap (λ (z : ℤ). day_user_times (local c.args.clock.now z) ss) offset_is

pub returns-clause-days : goal.returns-clause-days
returns-clause-days g c =
    let clock = local c.args.clock.now (held c.args.offset) in
    let near = near_local c.args.clock.now (held c.args.offset) (subst IsOffset (sym (to_z-of_z w32 c.args.offset c.ranges.offset)) c.requires.offset_in) in
    let ss = g.S.SessionSource.ahead c.args.source.now in
    let h = c.loop-at.invariant in
    subst (All (λ (r : DayUserTime). IsDay r.day)) (rows_of_sums c.loop-at.rows.items h.ordered.timed)
    (day_user_rows_days (sums_of c.loop-at.rows.items) h.ordered.up (λ k lt. c.in_ok-changes.ensures.days k
    (subst (λ n. 0 < n) (spread_end (all_of clock ss) (given_by c.loop-at.rows.items) (day_change c.loop-at.changes.entries) c.in_ok-changes.ensures.days h.spread (no_entries c.loop-at.changes.entries c.in_default.ensures.variant.1) k) lt)))
