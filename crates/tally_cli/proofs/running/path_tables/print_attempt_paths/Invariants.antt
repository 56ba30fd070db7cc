use Rattle.std.proofs.Common.{Ok, take}
use Rattle.std.specs.List.{flat_map, range_with_len}
use Rattle.tally_print.specs.Output.{Prints}
use Rattle.tally_print.specs.declared.output.PrintFault.{PrintFault}
use Rattle.tally_sessions.specs.Days.{local}
use Rattle.tally_sessions.specs.Lent.{entries_in}
use Rattle.tally_cli.specs.Apart.{apart_of}
use Rattle.tally_cli.proofs.PathTables.{host_text}
use Rattle.tally_cli.proofs.running.path_tables.print_attempt_paths.Given as goal

-- the hosts before this one were printed
abbrev pub invariant-loop-host : goal.invariant-loop-host
invariant-loop-host g l =
    Prints {E = PrintFault} (g.O.Output.state l.initial.out) (g.O.Output.state l.out) (Ok tt) 0
    (flat_map (host_text (local l.clock l.job.offset) (apart_of l.apart).files l.limit l.choice (entries_in l.entries)) (take l.host (range_with_len 0 l.hosts)))
