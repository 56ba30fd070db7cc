use Rattle.jiff_tz.specs.Zone.{offset_at}
use Rattle.tally_clock.proofs.rule.clock_of.Goals as goal

pub returns-clause-shows : goal.returns-clause-shows
unfolding offset_at
returns-clause-shows c = c.of_zone.ensures.shows

pub returns-clause-err : goal.returns-clause-err
unfolding offset_at
returns-clause-err c = c.of_zone.ensures.err
