use Rattle.std.proofs.Common.{◌≡◌, ◌∙◌, ◌<◌, ℕ, ℤ, FitsSigned, List, ap, arith, refl, rules, subst, sym, take, to_z-of_z, w32}
use Rattle.std.proofs.Math.Seq.{take-length}
use Rattle.std.proofs.lemmas.List.FromFn.{length-range_with_len}
use Rattle.std.specs.List.{flat_map, range_with_len}
use Rattle.tally_print.proofs.PageLemmas.{each_next, each_stop, prints_then}
use Rattle.tally_print.specs.AttemptSections.{attempt_answer}
use Rattle.tally_print.specs.Output.{Prints}
use Rattle.tally_print.specs.PathTable.{path_rows}
use Rattle.tally_print.specs.Tables.{csv_text}
use Rattle.tally_print.specs.declared.report_table.Table.TheVariants as tables
use Rattle.tally_sessions.specs.Days.{local}
use Rattle.tally_sessions.specs.Lent.{entries_in}
use Rattle.tally_cli.specs.Apart.{apart_of}
use Rattle.tally_cli.proofs.PathTables.{attempt_pieces, host_at, host_text}
use Rattle.tally_cli.proofs.running.path_tables.print_attempt_paths.Goals as goal

pub loop-host-preserved : goal.loop-host-preserved
loop-host-preserved g c =
    let clock = local c.args.clock.now c.args.job.now.offset in
    let entries = entries_in c.args.entries in
    let hosts = c.args.hosts in
    let host = c.loop-host.host in
    let near : c.loop-host.host < c.args.hosts = search rules in
    let text = host_text clock (apart_of c.args.apart).files c.args.limit c.args.choice.now entries in
    let minutes : FitsSigned w32 c.args.job.now.offset = search rules in
    let answer = attempt_answer c.args.limit c.args.choice.now entries host in
    let same = ap (λ (x : ℤ). csv_text (path_rows tables.Attempts (local c.args.clock.now x) c.path-path.result.now answer)) (to_z-of_z minutes)
    ∙ ap (λ (path : List ℕ). csv_text (path_rows tables.Attempts clock path answer)) c.path-path.ensures in
    let next = subst (Prints _ _ _ _) same c.in_ok-print_path_attempts.ensures.writes in
    each_next text (range_with_len 0 hosts) host host (omega (arith, near, length-range_with_len 0 hosts)) (host_at hosts host near) c.loop-host.invariant next

pub returns-in_err-print_path_attempts : goal.returns-in_err-print_path_attempts
returns-in_err-print_path_attempts g c =
    let clock = local c.args.clock.now c.args.job.now.offset in
    let files = (apart_of c.args.apart).files in
    let entries = entries_in c.args.entries in
    let hosts = c.args.hosts in
    let host = c.loop-host.host in
    let near : c.loop-host.host < c.args.hosts = search rules in
    let text = host_text clock files c.args.limit c.args.choice.now entries in
    let minutes : FitsSigned w32 c.args.job.now.offset = search rules in
    let answer = attempt_answer c.args.limit c.args.choice.now entries host in
    let same = ap (λ (x : ℤ). csv_text (path_rows tables.Attempts (local c.args.clock.now x) c.path-path.result.now answer)) (to_z-of_z minutes)
    ∙ ap (λ (path : List ℕ). csv_text (path_rows tables.Attempts clock path answer)) c.path-path.ensures in
    let next = subst (Prints _ _ _ _) same c.in_err-print_path_attempts.ensures.writes in
    let stopped = each_stop text (range_with_len 0 hosts) host host (omega (arith, near, length-range_with_len 0 hosts)) (host_at hosts host near) c.loop-host.invariant next
    {r' = c.from_residual-in_err-print_path_attempts.result} c.in_err-print_path_attempts.field-0.0 (search rules) refl in
    record { writes = subst (Prints _ _ _ _) (attempt_pieces clock files hosts c.args.limit c.args.choice.now entries) (prints_then c.in_ok-print_path_header.ensures.writes stopped) }

pub returns : goal.returns
returns g c =
    let clock = local c.args.clock.now c.args.job.now.offset in
    let files = (apart_of c.args.apart).files in
    let entries = entries_in c.args.entries in
    let hosts = c.args.hosts in
    let text = host_text clock files c.args.limit c.args.choice.now entries in
    let all : c.loop-host.host ≡ c.args.hosts = search rules in
    let whole = ap (λ n. take n (range_with_len 0 hosts)) (all ∙ sym (length-range_with_len 0 hosts)) ∙ take-length (range_with_len 0 hosts) in
    record { writes = subst (Prints _ _ _ _) (attempt_pieces clock files hosts c.args.limit c.args.choice.now entries) (prints_then c.in_ok-print_path_header.ensures.writes (subst (Prints _ _ _ _) (ap (flat_map text) whole) c.loop-host.invariant)) }
