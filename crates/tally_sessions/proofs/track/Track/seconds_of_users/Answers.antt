use Rattle.std.proofs.Common.{◌∙◌, ◌+◌, ◌*◌, length, take, ap, arith}
use Rattle.std.proofs.lemmas.List.{take_all}
use Rattle.tally_sessions.specs.Hosts.{of_host}
use Rattle.tally_sessions.specs.Lent.{entries_in}
use Rattle.tally_sessions.specs.Totals.{stays_of}
use Rattle.tally_sessions.specs.inside.NamedUsers.{seconds_of_names}
use Rattle.tally_sessions.proofs.sums.NamedUsers.{name_added, named_fit, none_named}
use Rattle.tally_sessions.proofs.sums.NewNames.{new_name_adds}
use Rattle.tally_sessions.proofs.track.StayCounts.{length-of_host}
use Rattle.tally_sessions.proofs.track.Track.seconds_of_users.Goals as goal

pub loop-place-init : goal.loop-place-init
loop-place-init c = record {
  told = none_named (stays_of c.args.host (entries_in c.args.entries) c.args.until);
  fits = omega arith;
}

pub overflow_add-total : goal.overflow_add-total
overflow_add-total c =
    let es = entries_in c.args.entries in
    let stays = stays_of c.args.host es c.args.until in
    let some = take c.loop-place.place c.args.users.now in
    let all = take (c.loop-place.place + 1) c.args.users.now in
    let name = c.new_name-name.result in
    let adds = new_name_adds c.args.users.now c.loop-place.place name (omega (arith, c.told-users, c.loop-place-test.true)) c.new_name-name.ensures in
    omega (
      arith,
      c.loop-place.invariant.told,
      c.seconds_named-total.ensures.value,
      name_added some all name adds stays,
      named_fit some all name adds stays (4294967295 * length (of_host c.args.host es)) (omega (arith, c.loop-place.invariant.told, c.loop-place.invariant.fits)) c.seconds_named-total.ensures.fits,
      length-of_host c.args.host es,
      c.requires.few,
    )

pub loop-place-preserved : goal.loop-place-preserved
loop-place-preserved c =
    let es = entries_in c.args.entries in
    let stays = stays_of c.args.host es c.args.until in
    let some = take c.loop-place.place c.args.users.now in
    let all = take (c.loop-place.place + 1) c.args.users.now in
    let name = c.new_name-name.result in
    let adds = new_name_adds c.args.users.now c.loop-place.place name (omega (arith, c.told-users, c.loop-place-test.true)) c.new_name-name.ensures in
    let told = name_added some all name adds stays in
    let fits = named_fit some all name adds stays (4294967295 * length (of_host c.args.host es)) (omega (arith, c.loop-place.invariant.told, c.loop-place.invariant.fits)) c.seconds_named-total.ensures.fits in
    record {
      told = omega (arith, told, c.loop-place.invariant.told, c.seconds_named-total.ensures.value);
      fits = omega (arith, told, fits, c.loop-place.invariant.told, c.seconds_named-total.ensures.value);
    }

pub returns-clause-value : goal.returns-clause-value
returns-clause-value c =
    c.loop-place.invariant.told
    ∙ ap (λ names. seconds_of_names names (stays_of c.args.host (entries_in c.args.entries) c.args.until)) (take_all c.loop-place.place c.args.users.now (omega (arith, c.told-users, c.loop-place-test.false)))
