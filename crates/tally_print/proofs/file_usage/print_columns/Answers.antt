use Rattle.std.proofs.Common.{rules}
use Rattle.tally_print.proofs.PageLemmas.{prints_stop, prints_then}
use Rattle.tally_print.proofs.file_usage.print_columns.Goals as goal

pub returns-in_err-put_all : goal.returns-in_err-put_all
returns-in_err-put_all g c =
    record { writes = prints_stop c.in_err-put_all.field-0.0 (search rules) c.args.others.now c.in_err-put_all.ensures.writes }

pub returns : goal.returns
returns g c = record { writes = prints_then c.in_ok-put_all.ensures.writes c.put_all-2.ensures.writes }
