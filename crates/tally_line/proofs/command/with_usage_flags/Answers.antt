use Rattle.tally_line.proofs.command.with_usage_flags.Goals as goal

pub returns : goal.returns
returns c = λ app is.
    let keep_all = c.with-command.ensures _ _ is c.flag.ensures.rule c.flag.ensures.local in
    let by_user = c.with-command-2.ensures _ _ keep_all c.flag-2.ensures.rule c.flag-2.ensures.local in
    let by_calls = c.with-command-3.ensures _ _ by_user c.flag-3.ensures.rule c.flag-3.ensures.local in
    c.with.ensures _ _ by_calls c.flag-4.ensures.rule c.flag-4.ensures.local
