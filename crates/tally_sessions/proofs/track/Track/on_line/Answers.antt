use Rattle.std.proofs.Common.{length, arith}
use Rattle.std.proofs.lemmas.Option.{slice_get-get_or}
use Rattle.tally_sessions.specs.Lent.{entries_in}
use Rattle.tally_sessions.specs.inside.Track.{no_line}
use Rattle.tally_sessions.proofs.track.PendingSums.{line_within}
use Rattle.tally_sessions.proofs.track.Track.on_line.Goals as goal

pub returns-clause-value : goal.returns-clause-value
returns-clause-value c = c.number_at.ensures.value _ (slice_get-get_or c.args.self.now.lines.entries c.args.k no_line c.requires.k_in)

pub returns-clause-within : goal.returns-clause-within
returns-clause-within c =
    let a = c.args.self.now in
    let es = entries_in c.args.entries in
    omega (arith, a.stays.ok.0, line_within es (length es) a.lines.entries a.swept a.stays.items c.args.k _ c.requires.track.tracked c.requires.k_in c.number_at.ensures.found)
