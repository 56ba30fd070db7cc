use Rattle.std.proofs.Common.{◌≡◌, ◌∙◌, ◌<◌, ℕ, ℤ, FitsSigned, List, ap, arith, length, refl, rules, subst, sym, take, to_z-of_z, w32}
use Rattle.std.proofs.Math.Seq.{take-length}
use Rattle.std.proofs.lemmas.List.FromFn.{length-enumerate_from}
use Rattle.std.specs.List.{enumerate_from, flat_map}
use Rattle.tally_print.proofs.PageLemmas.{each_next, each_stop}
use Rattle.tally_print.specs.Output.{Prints}
use Rattle.tally_print.specs.PathTable.{path_rows}
use Rattle.tally_print.specs.Section.{answer_in}
use Rattle.tally_print.specs.Tables.{csv_text}
use Rattle.tally_sessions.specs.Days.{local}
use Rattle.tally_cli.specs.Apart.{apart_of}
use Rattle.tally_cli.specs.inside.Paths.{section_text}
use Rattle.tally_cli.proofs.PathTables.{numbered_at}
use Rattle.tally_cli.proofs.running.path_tables.print_rows.Goals as goal

pub loop-file-preserved : goal.loop-file-preserved
loop-file-preserved g c =
    let clock = local c.args.clock.now c.args.job.now.offset in
    let entries = c.args.sessions.now.entries in
    let sections = c.args.sections.now in
    let file = c.loop-file.file in
    let section = c.index-sections-file.result in
    let near : c.loop-file.file < length c.args.sections.now = search rules in
    let text = section_text c.args.table clock (apart_of c.args.apart).files entries in
    let minutes : FitsSigned w32 c.args.job.now.offset = search rules in
    let answer = answer_in entries section in
    let same = ap (λ (x : ℤ). csv_text (path_rows c.args.table (local c.args.clock.now x) c.path-path.result.now answer)) (to_z-of_z minutes)
    ∙ ap (λ (path : List ℕ). csv_text (path_rows c.args.table clock path answer)) c.path-path.ensures in
    let next = subst (Prints _ _ _ _) same c.in_ok-print_path_section.ensures.writes in
    each_next text (enumerate_from 0 sections) file (file, section) (omega (arith, near, length-enumerate_from 0 sections)) (numbered_at sections file section near (search rules)) c.loop-file.invariant next

pub returns-in_err-print_path_section : goal.returns-in_err-print_path_section
returns-in_err-print_path_section g c =
    let clock = local c.args.clock.now c.args.job.now.offset in
    let entries = c.args.sessions.now.entries in
    let sections = c.args.sections.now in
    let file = c.loop-file.file in
    let section = c.index-sections-file.result in
    let near : c.loop-file.file < length c.args.sections.now = search rules in
    let text = section_text c.args.table clock (apart_of c.args.apart).files entries in
    let minutes : FitsSigned w32 c.args.job.now.offset = search rules in
    let answer = answer_in entries section in
    let same = ap (λ (x : ℤ). csv_text (path_rows c.args.table (local c.args.clock.now x) c.path-path.result.now answer)) (to_z-of_z minutes)
    ∙ ap (λ (path : List ℕ). csv_text (path_rows c.args.table clock path answer)) c.path-path.ensures in
    let next = subst (Prints _ _ _ _) same c.in_err-print_path_section.ensures.writes in
    record {
      writes = each_stop text (enumerate_from 0 sections) file (file, section) (omega (arith, near, length-enumerate_from 0 sections)) (numbered_at sections file section near (search rules)) c.loop-file.invariant next
          {r' = c.from_residual.result} c.in_err-print_path_section.field-0.0 (search rules) refl;
    }

pub returns : goal.returns
returns g c =
    let sections = c.args.sections.now in
    let text = section_text c.args.table (local c.args.clock.now c.args.job.now.offset) (apart_of c.args.apart).files c.args.sessions.now.entries in
    let all : c.loop-file.file ≡ length c.args.sections.now = search rules in
    let whole = ap (λ n. take n (enumerate_from 0 sections)) (all ∙ sym (length-enumerate_from 0 sections)) ∙ take-length (enumerate_from 0 sections) in
    record { writes = subst (Prints _ _ _ _) (ap (flat_map text) whole) c.loop-file.invariant }
