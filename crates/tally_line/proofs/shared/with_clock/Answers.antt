use Rattle.tally_line.proofs.shared.with_clock.Goals as goal

pub returns : goal.returns
returns c = λ app is.
    let east = c.with-command.ensures _ _ is c.minutes.ensures.rule c.minutes.ensures.local in
    let west = c.with-command-2.ensures _ _ east c.minutes-2.ensures.rule c.minutes-2.ensures.local in
    c.with.ensures _ _ west c.zone.ensures.rule c.zone.ensures.local
