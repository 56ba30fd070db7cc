use Rattle.std.proofs.Common.{◌-◌, ◌^◌, ◌<◌, ◌++◌, ◌∷◌, [], ap, arith, inr, length, ◌∙◌}
use Rattle.std.proofs.lemmas.List.{length_push}
use Rattle.std.proofs.lemmas.List.Elements.{All-push, All-same}
use Rattle.std.proofs.lemmas.Result.{err_from_is_err_and}
use Rattle.tally_cli.specs.Runs.{IsReadable}
use Rattle.tally.proofs.PlaceLemmas.{one_more, stops_next}
use Rattle.tally.specs.Opened.{IsRefusedAt, IsSourceAt}
use Rattle.tally.proofs.opening.open_all.Goals as goal

pub returns-in_err-source-clause-refused : goal.returns-in_err-source-clause-refused
returns-in_err-source-clause-refused g c =
    let p = err_from_is_err_and c.from_residual.result c.from_residual.ensures.1 in
    rw (p.1, p.2) (inr (
      c.loop-at.sources.items,
      stops_next (IsSourceAt (g.O.Opens.opens c.args.opener.now) c.args.files.now) (IsRefusedAt (g.O.Opens.refuses c.args.opener.now) c.args.files.now) (length c.args.files.now)
          c.loop-at.sources.items c.loop-at.at _ c.loop-at.invariant.count (omega arith) c.loop-at.invariant.each c.in_err-source.ensures.refused,
    ))

pub loop-at-preserved : goal.loop-at-preserved
loop-at-preserved g c =
    let fresh : c.in_ok-source.source.input.failures < 2 ^ 64 - 1 = omega (arith, c.in_ok-source.ensures.unfailed) in record {
      count = omega (arith, c.loop-at.invariant.count, ap length c.in_ok-push.ensures.items ∙ length_push c.loop-at.sources.items _);
      each = one_more (IsSourceAt (g.O.Opens.opens c.args.opener.now) c.args.files.now) c.loop-at.sources.items c.push.new.self.items c.in_ok-source.source c.loop-at.at
          c.in_ok-push.ensures.items c.loop-at.invariant.count c.loop-at.invariant.each c.in_ok-source.ensures.opened;
      readable = All-same (IsReadable (λ input. input.failures)) c.push.new.self.items (c.loop-at.sources.items ++ _ ∷ []) c.in_ok-push.ensures.items
          (All-push (IsReadable (λ input. input.failures)) c.loop-at.sources.items _ c.loop-at.invariant.readable fresh);
    }
