use Rattle.std.proofs.Common.{◌∙◌}
use Rattle.clap.specs.Words.{found_of}
use Rattle.tally_line.proofs.ZoneLemmas.{source-rows}
use Rattle.tally_line.proofs.zones.source_of.Goals as goal

pub returns : goal.returns
returns c = c.value_source.ensures ∙ source-rows (found_of c.args.matches.now) c.args.id.now
