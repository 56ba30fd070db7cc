use Rattle.tally_line.proofs.shared.with_options.Goals as goal

pub returns : goal.returns
returns c = λ app rule is files local.
    let feeders = c.with-command.ensures _ _ is c.feeders.ensures.rule c.feeders.ensures.local in
    let clock = c.with_clock-command.ensures _ feeders in
    c.with.ensures _ _ clock files local
