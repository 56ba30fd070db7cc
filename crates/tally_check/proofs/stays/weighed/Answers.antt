use Rattle.std.proofs.Common.{None, arith}
use Rattle.tally_check.proofs.StayLemmas.{as-many, few-stays, light-within, weighed-next, within-next}
use Rattle.tally_check.specs.Stays.{stays_among}
use Rattle.tally_check.proofs.stays.weighed.Goals as goal

pub with_stay-sessions-requires-clause-light : goal.with_stay-sessions-requires-clause-light
with_stay-sessions-requires-clause-light c =
    light-within c.loop-place.sessions c.loop-place.place (omega (arith, c.loop-place-test.true, c.stay_count-place-end.ensures None, few-stays c.args.kept.now.entries, c.requires.few)) c.loop-place.invariant.within

pub loop-place-preserved : goal.loop-place-preserved
loop-place-preserved c = record {
  value = weighed-next (stays_among c.args.kept.now.entries) c.loop-place.place c.put_latest_stay.new.stay c.loop-place.sessions c.with_stay-sessions.result
      (omega (arith, c.loop-place-test.true, c.stay_count-place-end.ensures None, as-many c.args.kept.now.entries)) c.put_latest_stay.ensures.value c.loop-place.invariant.value c.with_stay-sessions.ensures;
  within = within-next c.loop-place.sessions c.with_stay-sessions.result c.put_latest_stay.new.stay c.loop-place.place c.put_latest_stay.ensures.fits c.loop-place.invariant.within c.with_stay-sessions.ensures;
}
