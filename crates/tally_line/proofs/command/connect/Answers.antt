use Rattle.tally_line.proofs.command.connect.Goals as goal

pub returns : goal.returns
returns c =
    let by_day = c.with-command.ensures _ _ c.named.ensures c.flag.ensures.rule c.flag.ensures.local in
    let by_user = c.with-command-2.ensures _ _ by_day c.flag-2.ensures.rule c.flag-2.ensures.local in
    let names = c.with_names-command.ensures _ by_user in
    let period = c.with_period-command.ensures _ names in
    let until = c.with-command-3.ensures _ _ period c.until.ensures.rule c.until.ensures.local in
    let own = c.with_file_table-command.ensures _ until in
    c.with_more_files.ensures _ own
