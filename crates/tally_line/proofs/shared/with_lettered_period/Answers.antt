use Rattle.tally_line.proofs.shared.with_lettered_period.Goals as goal

pub returns : goal.returns
returns c = λ app is.
    let from = c.with-command.ensures _ _ is c.lettered.ensures.rule c.lettered.ensures.local in
    let to = c.with-command-2.ensures _ _ from c.lettered-2.ensures.rule c.lettered-2.ensures.local in
    c.with.ensures _ _ to c.word.ensures.rule c.word.ensures.local
