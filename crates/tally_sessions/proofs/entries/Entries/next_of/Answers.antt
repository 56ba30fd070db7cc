use Rattle.std.proofs.Common.{◌∙◌, arith}
use Rattle.tally_sessions.specs.inside.Entries.{entry_at}
use Rattle.tally_sessions.proofs.entries.HostPlaces.{others_passed}
use Rattle.tally_sessions.proofs.entries.Lending.{within_list}
use Rattle.tally_sessions.proofs.entries.Entries.next_of.Goals as goal

pub batch_end-at-requires : goal.batch_end-at-requires
batch_end-at-requires c = within_list c.args.self c.loop-at.at (omega (arith, c.len.ensures, c.loop-at-test.true))

pub loop-at-preserved : goal.loop-at-preserved
loop-at-preserved c =
    let further = c.batch_end-at.ensures.further in record {
      later = omega (arith, c.loop-at.invariant.later, further);
      first = others_passed c.args.self c.args.host (entry_at c.args.self.list.now c.loop-at.at).host (c.is_of.ensures.other c.if-is_of.false) c.loop-at.at c.batch_end-at.result (omega (arith, further)) c.batch_end-at.ensures.same ∙ c.loop-at.invariant.first;
    }
