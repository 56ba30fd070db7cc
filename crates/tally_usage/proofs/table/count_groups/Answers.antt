use Rattle.std.proofs.Common.{◌∙◌, ap, arith, length, subst, sym}
use Rattle.std.proofs.lemmas.Map.Keys.{IsDistinct-tail}
use Rattle.std.specs.List.{IsDistinct}
use Rattle.std.specs.Map.{keys_of}
use Rattle.tally_usage.specs.Totals.{usage_at}
use Rattle.tally_usage.specs.Usage.{plus}
use Rattle.tally_usage.proofs.SumsLemmas.{group-Fits, group-counted}
use Rattle.tally_usage.proofs.TotalsLemmas.{plus-none}
use Rattle.tally_usage.proofs.table.count_groups.Goals as goal

pub loop-key-init : goal.loop-key-init
loop-key-init g c =
    let all = c.into_iter-key-iterator.ensures.into_iter_gives.0 in
    record {
      sums = λ k. ap (λ es. plus (usage_at g.K.PartialEq.eq c.args.table.now.entries k) (usage_at g.K.PartialEq.eq es k)) all;
      apart = subst (λ es. IsDistinct g.K.PartialEq.eq (keys_of es)) (sym all) c.requires.apart;
      room = omega (arith, ap length all, c.requires.room);
    }

pub count_unguessed-requires-clause-room : goal.count_unguessed-requires-clause-room
count_unguessed-requires-clause-room g c = omega (arith, ap length c.in-Some.ensures.steps, c.loop-key.invariant.room)

pub count_unguessed-requires-clause-fits : goal.count_unguessed-requires-clause-fits
count_unguessed-requires-clause-fits g c =
    group-Fits g.met.K.Eq.laws g.met.K.GroupKey.exact c.in-Some.key.now c.in-Some.usage.now c.next.new.self c.loop-key.table.entries c.args.table.now.entries c.args.other.now.entries
    (λ q. ap (λ es. plus (usage_at g.K.PartialEq.eq c.loop-key.table.entries q) (usage_at g.K.PartialEq.eq es q)) (sym c.in-Some.ensures.steps) ∙ c.loop-key.invariant.sums q) c.requires.fits

pub loop-key-preserved : goal.loop-key-preserved
loop-key-preserved g c =
    let steps = c.in-Some.ensures.steps in
    let apart = subst (λ es. IsDistinct g.K.PartialEq.eq (keys_of es)) steps c.loop-key.invariant.apart in
    record {
      sums = λ q.
          group-counted g.met.K.Eq.laws g.met.K.GroupKey.exact c.in-Some.key.now c.in-Some.usage.now c.next.new.self c.loop-key.table.entries c.count_unguessed.new.table.entries apart c.count_unguessed.ensures.counted q
          ∙ ap (λ es. plus (usage_at g.K.PartialEq.eq c.loop-key.table.entries q) (usage_at g.K.PartialEq.eq es q)) (sym steps) ∙ c.loop-key.invariant.sums q;
      apart = IsDistinct-tail g.K.PartialEq.eq c.in-Some.key.now (keys_of c.next.new.self) apart;
      room = omega (arith, ap length steps, c.loop-key.invariant.room, c.count_unguessed.ensures.room);
    }

pub returns : goal.returns
returns g c = λ k.
    sym (plus-none (usage_at g.K.PartialEq.eq c.loop-key.table.entries k))
    ∙ ap (λ es. plus (usage_at g.K.PartialEq.eq c.loop-key.table.entries k) (usage_at g.K.PartialEq.eq es k)) (sym c.in-None.ensures.steps.0) ∙ c.loop-key.invariant.sums k
