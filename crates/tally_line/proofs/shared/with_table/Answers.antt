use Rattle.tally_line.proofs.shared.with_table.Goals as goal

pub returns : goal.returns
returns c = λ app is.
    let csv = c.with-command.ensures _ _ is c.csv.ensures.rule c.csv.ensures.local in
    c.with.ensures _ _ csv c.paths.ensures.rule c.paths.ensures.local
