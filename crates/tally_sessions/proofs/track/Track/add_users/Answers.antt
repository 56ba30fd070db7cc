use Rattle.std.proofs.Common.{◌+◌, ◌*◌, length, take, ap, arith}
use Rattle.std.proofs.lemmas.List.{take_all}
use Rattle.tally_sessions.specs.Hosts.{of_host}
use Rattle.tally_sessions.specs.Lent.{entries_in}
use Rattle.tally_sessions.specs.Totals.{stays_of}
use Rattle.tally_sessions.specs.inside.NamedUsers.{own_seconds, seconds_of_names}
use Rattle.tally_sessions.proofs.sums.NamedUsers.{named_fit, none_named, own_added, own_fit}
use Rattle.tally_sessions.proofs.sums.NewNames.{new_name_adds}
use Rattle.tally_sessions.proofs.track.StayCounts.{length-of_host}
use Rattle.tally_sessions.proofs.track.Track.add_users.Goals as goal

pub loop-place-init : goal.loop-place-init
loop-place-init c = record {
  told = λ user. omega arith;
  fits = λ user. omega arith;
  all = omega (arith, none_named (stays_of c.args.host (entries_in c.args.entries) c.args.until));
}

pub add_named-requires-clause-room : goal.add_named-requires-clause-room
add_named-requires-clause-room c user =
    omega (arith, c.loop-place.invariant.told user, c.loop-place.invariant.fits user, c.requires.room user, length-of_host c.args.host (entries_in c.args.entries), c.requires.few)

pub loop-place-preserved : goal.loop-place-preserved
loop-place-preserved c =
    let stays = stays_of c.args.host (entries_in c.args.entries) c.args.until in
    let some = take c.loop-place.place c.args.users.now in
    let all = take (c.loop-place.place + 1) c.args.users.now in
    let name = c.new_name-name.result in
    let adds = new_name_adds c.args.users.now c.loop-place.place name (omega (arith, c.told-users, c.loop-place-test.true)) c.new_name-name.ensures in
    record {
      told = λ user. omega (arith, c.in_ok-add_named.ensures.value user, c.loop-place.invariant.told user, own_added some all name adds user stays);
      fits = λ user. own_fit some all name adds user stays (4294967295 * length (of_host c.args.host (entries_in c.args.entries))) (c.loop-place.invariant.fits user) (c.in_ok-add_named.ensures.fits user);
      all = named_fit some all name adds stays (4294967295 * length (of_host c.args.host (entries_in c.args.entries))) c.loop-place.invariant.all c.in_ok-add_named.ensures.all;
    }

pub returns-clause-value : goal.returns-clause-value
returns-clause-value c user =
    let stays = stays_of c.args.host (entries_in c.args.entries) c.args.until in
    omega (arith, c.loop-place.invariant.told user, ap (λ names. own_seconds user names stays) (take_all c.loop-place.place c.args.users.now (omega (arith, c.told-users, c.loop-place-test.false))))

pub returns-clause-fits : goal.returns-clause-fits
returns-clause-fits c user =
    let stays = stays_of c.args.host (entries_in c.args.entries) c.args.until in
    omega (arith, c.loop-place.invariant.fits user, ap (λ names. own_seconds user names stays) (take_all c.loop-place.place c.args.users.now (omega (arith, c.told-users, c.loop-place-test.false))))

pub returns-clause-all : goal.returns-clause-all
returns-clause-all c =
    let stays = stays_of c.args.host (entries_in c.args.entries) c.args.until in
    omega (arith, c.loop-place.invariant.all, ap (λ names. seconds_of_names names stays) (take_all c.loop-place.place c.args.users.now (omega (arith, c.told-users, c.loop-place-test.false))))
