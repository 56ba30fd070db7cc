use Rattle.std.proofs.Common.{refl, rules}
use Rattle.tally_print.proofs.PageLemmas.{each_next, each_stop}
use Rattle.tally_cli.specs.Apart.{apart_of, names_given}
use Rattle.tally_cli.specs.inside.Parts.{part_text}
use Rattle.tally_cli.proofs.running.parts.print_parts.Goals as goal

pub loop-part-preserved : goal.loop-part-preserved
loop-part-preserved g c =
    each_next (part_text c.args.clock.now c.args.job.now (names_given c.args.names) (apart_of c.args.apart)) c.args.parts.now c.loop-part.part-index c.part-item.result c.loop-part-test.true (search rules) c.loop-part.invariant c.in_ok-print_part.ensures.writes

pub returns-in_err-print_part : goal.returns-in_err-print_part
returns-in_err-print_part g c = record {
  writes = each_stop (part_text c.args.clock.now c.args.job.now (names_given c.args.names) (apart_of c.args.apart)) c.args.parts.now c.loop-part.part-index c.part-item.result c.loop-part-test.true (search rules) c.loop-part.invariant c.in_err-print_part.ensures.writes
      {r' = c.from_residual.result} c.in_err-print_part.field-0.0 (search rules) refl;
}
