use Rattle.std.proofs.Common.{◌∙◌, ℕ, ◌+◌, List, Option, Some, cond, ap, sym, arith}
use Rattle.std.proofs.lemmas.Result.{on_ok_weaker}
use Rattle.std.specs.Cmp.Lexicographic.{slice_cmp}
use Rattle.std.specs.Ordering.{nat_cmp}
use Rattle.tally_records.specs.Choice.{is_name}
use Rattle.tally_sessions.specs.Lent.{entries_in}
use Rattle.tally_sessions.specs.Totals.{stays_of}
use Rattle.tally_sessions.specs.inside.Sums.{sum_at}
use Rattle.tally_sessions.specs.inside.Totals.{seconds_of}
use Rattle.tally_sessions.proofs.sums.NamedUsers.{added_for}
use Rattle.tally_sessions.proofs.track.StayCounts.{length-of_host}
use Rattle.tally_sessions.proofs.track.Track.add_named.Goals as goal

pub add_for-requires : goal.add_for-requires
add_for-requires c =
    omega (arith, c.requires.room c.in-Some.name, c.seconds-seconds.ensures.fits, length-of_host c.args.host (entries_in c.args.entries), c.requires.few)

pub returns-clause-value : goal.returns-clause-value
returns-clause-value c =
    let stays = stays_of c.args.host (entries_in c.args.entries) c.args.until in
    let name = c.in-Some.name in
    let value = c.seconds-seconds.ensures.value ∙ ap (λ (who : List ℕ). seconds_of (Some who) stays) c.of.ensures in
    on_ok_weaker c.add_for.result
    (λ more user.
    more user
    ∙ ap (λ n. sum_at (slice_cmp nat_cmp) c.args.sums.now.entries user + n) (added_for name user c.seconds-seconds.result stays value)
    ∙ ap (λ (n : Option (List ℕ)). sum_at (slice_cmp nat_cmp) c.args.sums.now.entries user + cond (is_name user n) (seconds_of (Some user) stays) 0) (sym c.in-Some.is))
    c.add_for.ensures
