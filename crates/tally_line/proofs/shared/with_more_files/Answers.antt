use Rattle.tally_line.proofs.shared.with_more_files.Goals as goal

pub returns : goal.returns
returns c = λ app is.
    let more = c.with-command.ensures _ _ is c.more_files.ensures.rule c.more_files.ensures.local in
    let millions = c.with-command-2.ensures _ _ more c.millions.ensures.rule c.millions.ensures.local in
    c.with_options.ensures _ _ millions c.file.ensures.rule c.file.ensures.local
