use Rattle.std.proofs.Common.{arith}
use Rattle.tally_desk.proofs.Fills.{grown_front}
use Rattle.tally_desk.proofs.feeding.filling.make_ready.Goals as goal

pub returns-clause-kept : goal.returns-clause-kept
returns-clause-kept c =
    let block = c.args.block.now in
    grown_front c.resize.result c.args.filled c.args.size block.items c.resize.new.self.items _ c.resize.ensures.items
    (omega (arith, block.ok.0, c.requires.filled)) (omega (arith, block.ok.0, c.requires.ready))
