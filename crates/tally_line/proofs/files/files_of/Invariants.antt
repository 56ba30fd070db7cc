use Rattle.std.proofs.Common.{take}
use Rattle.clap.specs.Walk.{texts}
use Rattle.tally_line.specs.FileWords.{NamesFiles}
use Rattle.tally_line.proofs.files.files_of.Given as goal

abbrev pub invariant-loop-index : goal.invariant-loop-index
invariant-loop-index l = NamesFiles l.report (texts (take l.index l.words)) l.files.items
