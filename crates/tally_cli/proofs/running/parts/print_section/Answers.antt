use Rattle.std.proofs.Common.{◌≡◌, ◌∷◌, [], Err, rules}
use Rattle.tally_print.proofs.PageLemmas.{prints_stop, prints_then}
use Rattle.tally_cli.proofs.running.parts.print_section.Goals as goal

pub returns-in_err-print_usage : goal.returns-in_err-print_usage
returns-in_err-print_usage g c =
    let fault = c.in_err-print_usage.field-0.0 in
    let told : c.from_residual-in_err-print_usage.result ≡ Err fault = search rules in
    record { writes = prints_then c.in_ok-print_path_line.ensures.writes (prints_stop fault told (10 ∷ []) c.in_err-print_usage.ensures.writes) }

pub returns : goal.returns
returns g c = record { writes = prints_then c.in_ok-print_path_line.ensures.writes (prints_then c.in_ok-print_usage.ensures.writes c.print_empty_line.ensures.writes) }
