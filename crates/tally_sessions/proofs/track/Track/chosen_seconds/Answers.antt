use Rattle.std.proofs.Common.{◌∙◌}
use Rattle.tally_sessions.specs.Lent.{entries_in}
use Rattle.tally_sessions.specs.Totals.{stays_of}
use Rattle.tally_sessions.proofs.sums.EverySession.{lengths}
use Rattle.tally_sessions.proofs.sums.NamedUsers.{all_named}
use Rattle.tally_sessions.proofs.track.Track.chosen_seconds.Goals as goal

pub returns-then-has_sums_of-clause-value : goal.returns-then-has_sums_of-clause-value
returns-then-has_sums_of-clause-value c =
    let es = entries_in c.args.entries in
    c.seconds_of_users.ensures.value
    ∙ all_named c.args.choice.now (c.has_sums_of.ensures c.if-has_sums_of.true) (stays_of c.args.host es c.args.until) (lengths c.args.host es c.args.until)
