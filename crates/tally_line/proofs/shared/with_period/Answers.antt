use Rattle.tally_line.proofs.shared.with_period.Goals as goal

pub returns : goal.returns
returns c = λ app is.
    let from = c.with-command.ensures _ _ is c.word.ensures.rule c.word.ensures.local in
    let to = c.with-command-2.ensures _ _ from c.word-2.ensures.rule c.word-2.ensures.local in
    c.with.ensures _ _ to c.word-3.ensures.rule c.word-3.ensures.local
