use Rattle.tally_line.proofs.command.usage.Goals as goal

pub returns : goal.returns
returns c =
    let flags = c.with_usage_flags-command.ensures _ c.named.ensures in
    let uid = c.with-command.ensures _ _ flags c.repeated.ensures.rule c.repeated.ensures.local in
    let period = c.with_period-command.ensures _ uid in
    let names = c.with-command-2.ensures _ _ period c.word.ensures.rule c.word.ensures.local in
    let own = c.with_file_table-command.ensures _ names in
    c.with_options.ensures _ _ own c.file.ensures.rule c.file.ensures.local
