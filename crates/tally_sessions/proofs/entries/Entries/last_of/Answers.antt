use Rattle.std.proofs.Common.{◌≡◌, ◌∙◌, ◌+◌, ◌-◌, subst, arith}
use Rattle.tally_sessions.specs.inside.Entries.{AreOf, entry_at}
use Rattle.tally_sessions.proofs.entries.HostPlaces.{others_left_out}
use Rattle.tally_sessions.proofs.entries.Lending.{within_list}
use Rattle.tally_sessions.proofs.entries.Entries.last_of.Goals as goal

pub batch_start-end-requires : goal.batch_start-end-requires
batch_start-end-requires c = within_list c.args.self (c.loop-end.end - 1) (omega (arith, c.loop-end.invariant.within, c.loop-end-test.true))

pub loop-end-preserved : goal.loop-end-preserved
loop-end-preserved c =
    let es = c.args.self.list.now in
    let other = (entry_at es (c.loop-end.end - 1)).host in
    let before = c.batch_start-end.ensures.before in
    let last : c.loop-end.end - 1 + 1 ≡ c.loop-end.end = omega (arith, c.loop-end-test.true) in
    let of = subst (λ n. AreOf other es c.batch_start-end.result n) last c.batch_start-end.ensures.same in record {
      earlier = omega (arith, before, c.loop-end.invariant.earlier);
      within = omega (arith, before, c.loop-end.invariant.within);
      last = others_left_out c.args.self c.args.host other (c.is_of.ensures.other c.if-is_of.false) c.batch_start-end.result c.loop-end.end (omega (arith, before)) c.loop-end.invariant.within of ∙ c.loop-end.invariant.last;
    }
