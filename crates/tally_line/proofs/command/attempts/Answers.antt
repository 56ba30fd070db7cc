use Rattle.tally_line.proofs.command.attempts.Goals as goal

pub returns : goal.returns
returns c =
    let limit = c.with-command.ensures _ _ c.named.ensures c.limit.ensures.rule c.limit.ensures.local in
    let sum = c.with-command-2.ensures _ _ limit c.sum.ensures.rule c.sum.ensures.local in
    let names = c.with_names-command.ensures _ sum in
    let period = c.with_lettered_period-command.ensures _ names in
    let own = c.with_table-command.ensures _ period in
    c.with_more_files.ensures _ own
