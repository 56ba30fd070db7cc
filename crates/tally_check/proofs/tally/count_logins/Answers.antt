use Rattle.std.proofs.Common.{◌∙◌, ◌++◌, ◌≤◌, arith, length, subst, sym, List, ℕ}
use Rattle.std.proofs.lemmas.List.{length-append}
use Rattle.tally_check.proofs.TallyLemmas.{kept-few, login-count, login-room, logins-join, on_ok}
use Rattle.tally_check.specs.inside.Tallies.{AreLoginsOf}
use Rattle.tally_kinds.specs.Records.{records}
use Rattle.tally_check.proofs.tally.count_logins.Goals as goal

pub add_logins-requires-clause-before : goal.add_logins-requires-clause-before
add_logins-requires-clause-before c =
    let b = c.requires.before in
    let has = sym c.has_logins.ensures ∙ c.if-not-has_logins.false in
    (records 384 b.0, b.2 has, omega (arith, login-count b.0, login-count c.args.block.now, b.3, login-room c.args.tally.now.guess has))

pub returns-clause-counted : goal.returns-clause-counted
returns-clause-counted c =
    on_ok c.add_logins.result (λ more before size was has.
    subst (λ (rs : List (List ℕ)). AreLoginsOf rs c.add_logins.new.notes c.add_logins.new.sessions)
    (sym (logins-join before c.args.block.now (omega (arith, size, c.requires.full)))) (more (records 384 before) (was has))) c.add_logins.ensures

pub returns-clause-kept : goal.returns-clause-kept
returns-clause-kept c =
    let b = c.requires.before in
    let has = sym c.has_logins.ensures ∙ c.if-not-has_logins.false in
    let joined = length-append (records 384 b.0) (records 384 c.args.block.now) in
    let few : length (records 384 b.0 ++ records 384 c.args.block.now) ≤ 1048576 =
    omega (arith, joined, login-count b.0, login-count c.args.block.now, b.3, login-room c.args.tally.now.guess has) in
    on_ok c.add_logins.result (λ more. kept-few _ _ _ few (more (records 384 b.0) (b.2 has))) c.add_logins.ensures
