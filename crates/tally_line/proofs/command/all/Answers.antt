use Rattle.tally_line.proofs.command.all.Goals as goal

pub returns : goal.returns
returns c =
    let askers = c.with-command.ensures _ _ c.named.ensures c.askers.ensures.rule c.askers.ensures.local in
    let until = c.with-command-2.ensures _ _ askers c.until.ensures.rule c.until.ensures.local in
    let own = c.with-command-3.ensures _ _ until c.millions.ensures.rule c.millions.ensures.local in
    c.with_options.ensures _ _ own c.some_file.ensures.rule c.some_file.ensures.local
