use Rattle.std.proofs.Common.{◌≡◌, ◌+◌, cond, None, is_eq, subst, sym}
use Rattle.std.specs.Map.{lookup}
use Rattle.tally_sessions.specs.inside.Sums.{sum_at}
use Rattle.tally_sessions.proofs.sums.SumSteps.{sum_at-new}
use Rattle.tally_sessions.proofs.sums.add.Goals as goal

pub returns-in_ok-insert-in-None : goal.returns-in_ok-insert-in-None
returns-in_ok-insert-in-None g c =
    let cmp = g.K.Ord.cmp in
    let same = c.get_mut.follows.holds-at-none in
    let absent = subst (λ m. lookup (λ j. is_eq (cmp c.args.key j)) m.entries ≡ None) (sym same) (sym c.in-None.ensures.value) in
    subst (λ m. (k : _) → sum_at cmp c.insert.new.self.entries k ≡ sum_at cmp m.entries k + cond (is_eq (cmp c.args.key k)) c.args.seconds 0) same
    (sum_at-new cmp g.met.K.Ord.total c.args.key c.args.seconds c.get_mut.follows.lender-at-none.entries c.insert.new.self.entries c.in_ok-insert-in-None.ensures.updates.0 absent)
