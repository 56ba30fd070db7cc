use Rattle.std.proofs.Common.{◌∙◌, ◌++◌, ap, arith, subst, sym}
use Rattle.std.proofs.lemmas.List.{length-append}
use Rattle.tally_check.specs.declared.tally.Tally.{Tally}
use Rattle.tally_check.specs.inside.Tallies.{AreLoginsIn, AreProcsIn}
use Rattle.tally_check.proofs.tally.add.Goals as goal

pub returns-clause-counted : goal.returns-clause-counted
returns-clause-counted c before was =
    let first = c.count_procs.ensures.same in
    let second = c.in_ok-count_logins.ensures.same in
    let block = c.args.block.now in
    record {
      size = omega (arith, ap (λ (t : Tally). t.size) first, ap (λ (t : Tally). t.size) second, was.size, length-append before block);
      sessions = c.in_ok-count_logins.ensures.kept;
      logins = c.in_ok-count_logins.ensures.counted before (ap (λ (t : Tally). t.size) first ∙ was.size)
          (subst (λ (t : Tally). AreLoginsIn before t c.args.sessions.now) (sym first) was.logins);
      procs = subst (λ (t : Tally). AreProcsIn (before ++ block) t) (sym second) (c.count_procs.ensures.counted before was.size was.procs);
    }
