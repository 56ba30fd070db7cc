use Rattle.std.proofs.Common.{◌≡◌, ◌∙◌, ℤ, [], refl, get_or, sym, ap, subst, arith, to_z, of_z, w32}
use Rattle.std.proofs.lemmas.Int.{ints, to_z-of_z}
use Rattle.std.proofs.lemmas.Option.{get_or_from_slice_get, slice_get_within}
use Rattle.std.specs.Prelude.{bytes_eq}
use Rattle.tally_sessions.specs.Days.{IsDay, IsOffset, local}
use Rattle.tally_sessions.specs.inside.Tables.{key_at, HasSeconds}
use Rattle.tally_sessions.proofs.connect.CellTable.{cell-le, HasSecondsBut, one_rank, seconds_end, seconds_more, seconds_start}
use Rattle.tally_sessions.proofs.connect.UserChanges.{seconds_of_day_user-le}
use Rattle.tally_sessions.proofs.days.ClockDays.{near_local}
use Rattle.tally_sessions.proofs.connect.day_table_sums.add_all.Goals as goal

abbrev held : ℤ → ℤ
held z = to_z w32 (of_z w32 z)

held_day : (d : ℤ) → IsDay d → held d ≡ d
held_day d is = let low = is.low in let high = is.high in omega (arith, ints)

pub loop-session-init : goal.loop-session-init
loop-session-init g c =
    let all = g.S.SessionSource.ahead c.args.source.now in
    seconds_start (local c.args.clock.now (held c.args.offset)) (held c.args.first) c.args.users.now c.args.cells.now all c.requires.empty

pub add_session-requires-clause-few : goal.add_session-requires-clause-few
add_session-requires-clause-few g c place =
    let users = c.args.users.now in
    let rank = c.in-Some-rank_by.rank in
    let first = held c.args.first in
    let all = g.S.SessionSource.ahead c.args.source.now in
    let clock = local c.args.clock.now (held c.args.offset) in
    let near = near_local c.args.clock.now (held c.args.offset) (subst IsOffset (sym (to_z-of_z w32 c.args.offset c.ranges.offset)) c.requires.offset_in) in
    cell-le clock first users c.loop-session.cells all _ place rank c.loop-session.invariant (slice_get_within users rank _ c.in-Some-rank_by.ensures)
    (seconds_of_day_user-le clock (key_at first users place rank) all near c.requires.few)

pub loop-session-preserved : goal.loop-session-preserved
loop-session-preserved g c =
    let users = c.args.users.now in
    let rank = c.in-Some-rank_by.rank in
    let first = held c.args.first in
    let all = g.S.SessionSource.ahead c.args.source.now in
    let clock = local c.args.clock.now (held c.args.offset) in
    let cells = c.loop-session.cells in
    let s = c.in-Some.session in
    let known = slice_get_within users rank _ c.in-Some-rank_by.ensures in
    let user : get_or users rank [] ≡ s.user = get_or_from_slice_get users rank _ [] c.in-Some-rank_by.ensures ∙ c.of-user.ensures in
    let before = subst (λ ss. HasSecondsBut clock first users cells all ss) c.in-Some.ensures.next c.loop-session.invariant in
    let e = c.if-not-add_session.ensures in
    seconds_more clock first users cells c.add_session.new.cells all _ s rank known user
    (λ q lt. one_rank users rank q c.requires.ascending known lt ∙ ap (λ u. bytes_eq u (get_or users q [])) user)
    before (e.cells refl) (e.from_first refl) e.days

pub returns : goal.returns
returns g c done =
    let all = g.S.SessionSource.ahead c.args.source.now in
    let users = c.args.users.now in
    let cells = c.loop-session.cells in
    let end = subst (λ ss. HasSecondsBut (local c.args.clock.now (held c.args.offset)) (held c.args.first) users cells all ss) c.in_default.ensures.end c.loop-session.invariant in
    subst (λ (z : ℤ). HasSeconds (local c.args.clock.now z) c.args.first users cells all) (to_z-of_z w32 c.args.offset c.ranges.offset)
    (subst (λ (z : ℤ). HasSeconds (local c.args.clock.now (held c.args.offset)) z users cells all) (held_day c.args.first c.requires.first_in) (seconds_end _ (held c.args.first) users cells all end))
