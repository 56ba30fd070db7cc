use Rattle.std.proofs.Common.{◌≡◌, FitsSigned, refl, rules, to_z-of_z, w64}
use Rattle.tally_moments.specs.Seconds.{local}
use Rattle.tally_moments.proofs.Reaching.{ahead_found, first_found, held, kept_is, left_out_fits, shown_found}
use Rattle.tally_moments.proofs.second.shown_at.Goals as goal

pub returns : goal.returns
returns c =
    let m : held c.args.minutes ≡ c.args.minutes = to_z-of_z c.ranges.minutes in
    let wanted = c.ranges.wanted in
    let fits : FitsSigned w64 c.first_at-first.result = search rules in
    let fits_ahead : FitsSigned w64 c.local_at-ahead.result = search rules in
    let fits_before : FitsSigned w64 c.local_at.result = search rules in
    let fits_left_out = left_out_fits c.args.wanted c.local_at.result c.requires c.local_at.ensures.near in
    let fits_found : FitsSigned w64 c.shown_by.result = search rules in
    let first = first_found c.args.clock.now c.args.minutes c.args.wanted c.first_at-first.result m (to_z-of_z c.ranges.wanted) c.first_at-first.ensures.first in
    let own = kept_is c.first_at-first.result c.first_at-first.ensures.near in
    shown_found (local c.args.clock.now c.args.minutes) c.args.wanted c.first_at-first.result c.local_at-ahead.result c.local_at.result c.shown_by.result first c.first_at-first.ensures.near fits_found
    (ahead_found c.args.clock.now c.args.minutes c.first_at-first.result _ c.local_at-ahead.result m own c.local_at-ahead.ensures.value)
    (ahead_found c.args.clock.now c.args.minutes _ _ c.local_at.result m refl c.local_at.ensures.value)
    (simp to_z-of_z at c.shown_by.ensures)
