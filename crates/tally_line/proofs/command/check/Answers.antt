use Rattle.tally_line.proofs.command.check.Goals as goal

pub returns : goal.returns
returns c =
    let table = c.with_table-command.ensures _ c.named.ensures in
    let clock = c.with_clock-command.ensures _ table in
    c.with.ensures _ _ clock c.some_file.ensures.rule c.some_file.ensures.local
