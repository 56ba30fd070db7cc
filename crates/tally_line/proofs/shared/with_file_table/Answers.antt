use Rattle.tally_line.proofs.shared.with_file_table.Goals as goal

pub returns : goal.returns
returns c = λ app is.
    let by_file = c.with-command.ensures _ _ is c.by_file.ensures.rule c.by_file.ensures.local in
    c.with_table.ensures _ by_file
