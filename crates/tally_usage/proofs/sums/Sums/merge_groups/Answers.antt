use Rattle.std.proofs.Common.{◌∙◌, ◌++◌, ap, arith, subst, sym}
use Rattle.std.specs.Prelude.{nat_eq}
use Rattle.tally_records.specs.declared.process.ProcRecord.{ProcRecord}
use Rattle.tally_usage.specs.Command.{command_of, is_same_command}
use Rattle.tally_usage.specs.Sums.{AreSumsOf}
use Rattle.tally_usage.specs.Totals.{HasTotals, usage_at}
use Rattle.tally_usage.specs.Usage.{plus}
use Rattle.tally_usage.specs.inside.Counted.{counted_in}
use Rattle.tally_usage.proofs.SumsLemmas.{all-bounded, both-Fits, both-counted, count_is, few-both, total-both-Fits}
use Rattle.tally_usage.proofs.sums.Sums.merge_groups.Goals as goal

pub overflow_add-self-inside : goal.overflow_add-self-inside
overflow_add-self-inside c =
    let known = c.self.invariant in
    let too = c.other.invariant in
    omega (arith, count_is _ known.0 known.1, known.1.few, count_is _ too.0 too.1, too.1.few)

pub count_groups-requires-clause-fits : goal.count_groups-requires-clause-fits
count_groups-requires-clause-fits c =
    let known = c.self.invariant in
    let too = c.other.invariant in
    let has = subst (λ es. HasTotals is_same_command command_of es known.0) (sym c.reserve.ensures.entries) known.1.commands in
    both-Fits is_same_command command_of _ _ known.0 too.0 has too.1.commands (all-bounded _ _ known.0 too.0 known.1 too.1 (omega arith)) (few-both _ _ known.0 too.0 known.1 too.1 (omega arith))

pub count_groups-requires-2-clause-fits : goal.count_groups-requires-2-clause-fits
count_groups-requires-2-clause-fits c =
    let known = c.self.invariant in
    let too = c.other.invariant in
    let has = subst (λ es. HasTotals nat_eq (λ (r : ProcRecord). r.uid) es known.0) (sym c.reserve-2.ensures.entries) known.1.users in
    both-Fits nat_eq (λ (r : ProcRecord). r.uid) _ _ known.0 too.0 has too.1.users (all-bounded _ _ known.0 too.0 known.1 too.1 (omega arith)) (few-both _ _ known.0 too.0 known.1 too.1 (omega arith))

pub add-requires : goal.add-requires
add-requires c =
    let known = c.self.invariant in
    let too = c.other.invariant in
    total-both-Fits _ _ known.0 too.0 known.1 too.1 (omega arith)

pub invariant_of-self-2 : goal.invariant_of-self-2
invariant_of-self-2 c =
    let known = c.self.invariant in
    let too = c.other.invariant in (
      known.0 ++ too.0,
      both-counted _ _ known.0 too.0 known.1 too.1 (omega arith) _
          (λ k. c.count_groups.ensures k ∙ ap (λ es. plus (usage_at is_same_command es k) (usage_at is_same_command c.other.inside.commands.entries k)) c.reserve.ensures.entries)
          (λ k. c.count_groups-2.ensures k ∙ ap (λ es. plus (usage_at nat_eq es k) (usage_at nat_eq c.other.inside.users.entries k)) c.reserve-2.ensures.entries) c.add.ensures,
    )

pub returns-clause-merged : goal.returns-clause-merged
returns-clause-merged c = λ rs ss sums too.
    let here : AreSumsOf (counted_in c.self.inside) rs = subst (λ s. AreSumsOf s rs) (sym c.self.view_is) sums in
    let there : AreSumsOf (counted_in c.other.inside) ss = subst (λ s. AreSumsOf s ss) (sym c.other.view_is) too in
    both-counted _ _ rs ss here there (omega arith) _
    (λ k. c.count_groups.ensures k ∙ ap (λ es. plus (usage_at is_same_command es k) (usage_at is_same_command c.other.inside.commands.entries k)) c.reserve.ensures.entries)
    (λ k. c.count_groups-2.ensures k ∙ ap (λ es. plus (usage_at nat_eq es k) (usage_at nat_eq c.other.inside.users.entries k)) c.reserve-2.ensures.entries) c.add.ensures
