use Rattle.tally_line.proofs.shared.with_names.Goals as goal

pub returns : goal.returns
returns c = λ app is.
    let user = c.with-command.ensures _ _ is c.repeated.ensures.rule c.repeated.ensures.local in
    c.with.ensures _ _ user c.repeated-2.ensures.rule c.repeated-2.ensures.local
