use Rattle.tally_line.specs.CommandLine.{tally_app}
use Rattle.tally_line.proofs.command.tally.Goals as goal

pub returns : goal.returns
unfolding tally_app
returns c =
    let with_last = c.with_under-command.ensures _ _ c.top.ensures c.last.ensures in
    let with_attempts = c.with_under-command-2.ensures _ _ with_last c.attempts.ensures in
    let with_connect = c.with_under-command-3.ensures _ _ with_attempts c.connect.ensures in
    let with_usage = c.with_under-command-4.ensures _ _ with_connect c.usage.ensures in
    let with_all = c.with_under-command-5.ensures _ _ with_usage c.all.ensures in
    c.with_under.ensures _ _ with_all c.check.ensures
