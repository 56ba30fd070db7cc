-- What sums are seen as.
use Rattle.tally_usage.specs.declared.sums.Sums.TheInside.{Inside}
use Rattle.tally_usage.specs.Sums.{Counted}

abbrev pub counted_in : Inside → Counted
counted_in s = record { commands = s.commands.entries; users = s.users.entries; total = s.total }
