use Rattle.std.proofs.Common.{◌≡◌, ◌∙◌, ◌+◌, ◌*◌, ◌<◌, ◌≤◌, ℕ, ℤ, All, List, [], ◌∷◌, ◌++◌, Vec, Global, pos, ◌+ℤ◌, length, get_or, sym, ap, subst, arith, rules, to_z, of_z, w32}
use Rattle.std.proofs.lemmas.Int.{ints, to_z-of_z}
use Rattle.std.proofs.lemmas.List.{get_or_default}
use Rattle.std.specs.Cmp.Lexicographic.{slice_cmp}
use Rattle.std.specs.List.Sorted.{IsStrictlySortedBy}
use Rattle.std.specs.Ordering.{nat_cmp}
use Rattle.tally_sessions.specs.Days.{IsDay}
use Rattle.tally_sessions.specs.declared.connect.keys.DayUser.{DayUser}
use Rattle.tally_sessions.specs.declared.times.DayUserTime.{DayUserTime}
use Rattle.tally_sessions.specs.inside.Tables.{HasSeconds}
use Rattle.tally_sessions.specs.Sums.{seconds_of_day_user}
use Rattle.tally_sessions.proofs.connect.CellRows.{given_all, IsOfCells, IsWritten, written_next, written_on, written_past, written_start}
use Rattle.tally_sessions.proofs.connect.Cells.{suc_times}
use Rattle.tally_sessions.proofs.connect.DayUsers.{day_user_rows_are, day_user_rows_days}
use Rattle.tally_sessions.proofs.connect.RowOrder.{rows_of_sums, sums_of}
use Rattle.tally_sessions.proofs.connect.day_table_rows.rows_of_cells.Goals.{then-seconds-gt0+in_ok-push, else-seconds-gt0, then-rank-users, else-rank-users}
use Rattle.tally_sessions.proofs.connect.day_table_rows.rows_of_cells.Goals as goal

abbrev held : ℤ → ℤ
held z = to_z w32 (of_z w32 z)

held_day : (d : ℤ) → IsDay d → held d ≡ d
held_day d is = let low = is.low in let high = is.high in omega (arith, ints)

at_default : (xs : List (List ℕ)) (i : ℕ) (x : List ℕ) → i < length xs → x ≡ get_or xs i x → x ≡ get_or xs i []
at_default xs i x lt is = is ∙ get_or_default xs i x [] lt

pub loop-seconds-init : goal.loop-seconds-init
loop-seconds-init c = record {
  at = omega arith;
  rank_in = c.requires.some;
  written = λ all of. written_start all (held c.args.first) c.args.users.now c.new-rows.result.items c.new-rows.ensures.items;
}

row_on : (all : DayUser → ℕ) (first : ℤ) (users : List (List ℕ)) (cells : List ℕ) (rows new : List DayUserTime) (place rank i : ℕ) (day : ℤ) (name : List ℕ) → IsStrictlySortedBy (slice_cmp nat_cmp) users → rank < length users
    → IsWritten all first users rows place rank → IsOfCells all first users cells → i ≡ place * length users + rank → day ≡ first +ℤ pos place → name ≡ get_or users rank [] → 0 < get_or cells i 0
    → new ≡ rows ++ record { day = day; user = name; seconds = get_or cells i 0 } ∷ [] → IsWritten all first users new place (rank + 1)
row_on all first users cells rows new place rank i day name up known h of at day-is name-is some is =
    subst (λ rs. IsWritten all first users rs place (rank + 1)) (sym is)
    (written_on all first users rows place rank up known h (record { day = day; user = name; seconds = get_or cells i 0 }) (λ j. record { day = day-is j; user = name-is j }) (ap (λ k. get_or cells k 0) at ∙ of place rank known) some)

row_past : (all : DayUser → ℕ) (first : ℤ) (users : List (List ℕ)) (cells : List ℕ) (rows new : List DayUserTime) (place rank i : ℕ) → IsStrictlySortedBy (slice_cmp nat_cmp) users → rank < length users
    → IsWritten all first users rows place rank → IsOfCells all first users cells → i ≡ place * length users + rank → get_or cells i 0 ≤ 0 → new ≡ rows → IsWritten all first users new place (rank + 1)
row_past all first users cells rows new place rank i up known h of at none is =
    subst (λ rs. IsWritten all first users rs place (rank + 1)) (sym is)
    (written_past all first users rows place rank up known h (sym (of place rank known) ∙ ap (λ k. get_or cells k 0) (sym at) ∙ omega (arith, none)))

next_at : (i place rank width p r : ℕ) → i ≡ place * width + rank → rank + 1 ≡ width → p ≡ place + 1 → r ≡ 0 → i + 1 ≡ p * width + r
next_at i place rank width p r at end p-is r-is = let one = suc_times place width in let row = ap (λ n. n * width) p-is in omega (arith, at, end, one, row, r-is)

same_day_at : (i place rank width p r : ℕ) → i ≡ place * width + rank → p ≡ place → r ≡ rank + 1 → i + 1 ≡ p * width + r
same_day_at i place rank width p r at p-is r-is = let row = ap (λ n. n * width) p-is in omega (arith, at, row, r-is)

written_at : (all : DayUser → ℕ) (first : ℤ) (users : List (List ℕ)) (rows : List DayUserTime) (place rank p r : ℕ) → p ≡ place → r ≡ rank → IsWritten all first users rows place rank → IsWritten all first users rows p r
written_at all first users rows place rank p r e f h = subst (λ m. IsWritten all first users rows p m) (sym f) (subst (λ n. IsWritten all first users rows n rank) (sym e) h)

pub loop-seconds-preserved : goal.loop-seconds-preserved
loop-seconds-preserved c =
    let users = c.args.users.now in
    let first = held c.args.first in
    let place = c.loop-seconds.place in
    let rank = c.loop-seconds.rank in
    let inv = c.loop-seconds.invariant in
    let old = c.loop-seconds.rows.items in
    let new = c.if-seconds-gt0.rows.items in
    let more : (all : DayUser → ℕ) → IsOfCells all first users c.args.cells.now → IsWritten all first users new place (rank + 1) =
    λ all of. elim c.if-seconds-gt0.branch [
      | then-seconds-gt0+in_ok-push w ↦ row_on all first users c.args.cells.now old new place rank c.loop-seconds.seconds-index _ _ c.requires.ascending inv.rank_in (inv.written all of) of inv.at
          (to_z-of_z w32 w.day_at.result (search rules) ∙ w.day_at.ensures) (w.name.ensures ∙ at_default users rank _ inv.rank_in w.index-users-rank.is) w.if-seconds-gt0.true (ap (λ (v : Vec DayUserTime Global). v.items) w.rows-is ∙ w.in_ok-push.ensures.items)
      | else-seconds-gt0 w ↦ row_past all first users c.args.cells.now old new place rank c.loop-seconds.seconds-index c.requires.ascending inv.rank_in (inv.written all of) of inv.at w.if-seconds-gt0.false (ap (λ (v : Vec DayUserTime Global). v.items) w.rows-is)
    ] in
    elim c.if-rank-users.branch [
      | then-rank-users w ↦ record {
        at = next_at c.loop-seconds.seconds-index place rank (length users) _ _ inv.at w.if-rank-users.true w.place-is w.rank-is;
        rank_in = omega (arith, w.rank-is, c.requires.some);
        written = λ all of. written_at all first users new (place + 1) 0 _ _ w.place-is w.rank-is (written_next all first users new place (rank + 1) w.if-rank-users.true (more all of));
      }
      | else-rank-users w ↦ record {
        at = same_day_at c.loop-seconds.seconds-index place rank (length users) _ _ inv.at w.place-is w.rank-is;
        rank_in = omega (arith, w.rank-is, inv.rank_in, w.if-rank-users.false);
        written = λ all of. written_at all first users new place (rank + 1) _ _ w.place-is w.rank-is (more all of);
      }
    ]

pub returns-clause-rows : goal.returns-clause-rows
returns-clause-rows c clock sessions h =
    let all : DayUser → ℕ = λ k. seconds_of_day_user clock k.day k.user sessions in
    let users = c.args.users.now in
    let inv = c.loop-seconds.invariant in
    let has = subst (λ (z : ℤ). HasSeconds clock z users c.args.cells.now sessions) (sym (held_day c.args.first c.requires.first_in)) h in
    let written = inv.written all has.value in
    let rows = c.loop-seconds.rows.items in
    sym (rows_of_sums rows written.ordered.timed)
    ∙ day_user_rows_are clock sessions (sums_of rows) written.ordered.up
    (given_all all (held c.args.first) users c.args.cells.now rows c.loop-seconds.place c.loop-seconds.rank has.value has.covered inv.rank_in (omega (arith, c.loop-seconds-test.false, inv.at)) written)

pub returns-clause-days : goal.returns-clause-days
returns-clause-days c clock sessions h =
    let all : DayUser → ℕ = λ k. seconds_of_day_user clock k.day k.user sessions in
    let users = c.args.users.now in
    let inv = c.loop-seconds.invariant in
    let has = subst (λ (z : ℤ). HasSeconds clock z users c.args.cells.now sessions) (sym (held_day c.args.first c.requires.first_in)) h in
    let written = inv.written all has.value in
    let rows = c.loop-seconds.rows.items in
    subst (All (λ (r : DayUserTime). IsDay r.day)) (rows_of_sums rows written.ordered.timed)
    (day_user_rows_days (sums_of rows) written.ordered.up (λ k lt. has.days k
    (subst (λ n. 0 < n) (given_all all (held c.args.first) users c.args.cells.now rows c.loop-seconds.place c.loop-seconds.rank has.value has.covered inv.rank_in (omega (arith, c.loop-seconds-test.false, inv.at)) written k) lt)))
