-- Which files a hint is given on, and what it is about.
use Rattle.std.specs.Prelude.{Option, Some, None, option_map}
use Rattle.tally_cli.specs.declared.fault.RunFault.{RunFault}
use Rattle.tally_cli.specs.declared.fault.RunFault.TheVariants as run
use Rattle.tally_cli.specs.declared.fault.UsageFault.{UsageFault}
use Rattle.tally_cli.specs.declared.fault.UsageFault.TheVariants as usage
use Rattle.tally_desk.specs.declared.fault.CountFault.{CountFault}
use Rattle.tally_desk.specs.declared.fault.CountFault.TheVariants as count
use Rattle.tally_desk.specs.declared.fault.FeedFault.{FeedFault}
use Rattle.tally_desk.specs.declared.fault.FeedFault.TheVariants as feed
use Rattle.tally.specs.declared.subject.Cause.{Cause}
use Rattle.tally.specs.declared.subject.Cause.TheVariants.{Content, Reading, Room}
use Rattle.tally.specs.declared.subject.Subject.{Subject}

-- why a file was not read to its end, where a hint helps
abbrev pub feed_cause : FeedFault → Option Cause
feed_cause (feed.Torn records rest) = Some Content
feed_cause (feed.Bad at fault) = Some Content
feed_cause feed.Read = Some Reading
feed_cause (feed.TooLong limit) = Some Room
feed_cause (feed.LoginsFull stored) = Some Room
feed_cause (feed.ProcsFull stored) = Some Room
feed_cause fault = None

-- the same of a file that was counted
abbrev pub count_cause : CountFault → Option Cause
count_cause (count.Torn records rest) = Some Content
count_cause (count.Bad at fault) = Some Content
count_cause count.Read = Some Reading
count_cause fault = None

-- the file that a hint is on where a run over files has this fault
abbrev pub run_subject : RunFault → Option Subject
run_subject (run.File host fault) = option_map (λ cause. record { host = host; cause = cause }) (feed_cause fault)
run_subject fault = None

-- the same of a run that counts
abbrev pub usage_subject : UsageFault → Option Subject
usage_subject (usage.File host fault) = option_map (λ cause. record { host = host; cause = cause }) (count_cause fault)
usage_subject fault = None
