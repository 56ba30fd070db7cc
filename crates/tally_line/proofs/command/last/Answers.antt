use Rattle.tally_line.proofs.command.last.Goals as goal

pub returns : goal.returns
returns c =
    let limit = c.with-command.ensures _ _ c.named.ensures c.limit.ensures.rule c.limit.ensures.local in
    let names = c.with_names-command.ensures _ limit in
    let period = c.with_lettered_period-command.ensures _ names in
    let at = c.with-command-2.ensures _ _ period c.lettered.ensures.rule c.lettered.ensures.local in
    let until = c.with-command-3.ensures _ _ at c.until.ensures.rule c.until.ensures.local in
    let own = c.with_table-command.ensures _ until in
    c.with_more_files.ensures _ own
