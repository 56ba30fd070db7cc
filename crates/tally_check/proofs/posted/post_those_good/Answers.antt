use Rattle.std.proofs.Common.{◌∙◌, ◌++◌, List, None, ap, arith}
use Rattle.tally_check.proofs.BatchLemmas.{good-few, good-logins, good-only}
use Rattle.tally_check.proofs.TallyLemmas.{on_ok}
use Rattle.tally_records.specs.declared.login.LoginRecord.{LoginRecord}
use Rattle.tally_sessions.specs.Hosts.{posted_by}
use Rattle.tally_check.proofs.posted.post_those_good.Goals as goal

pub post_good-requires-clause-good : goal.post_good-requires-clause-good
post_good-requires-clause-good c = good-only c.args.records.now _ (c.as_slice.ensures.value ∙ c.in_ok-good.ensures)

pub post_good-requires-clause-few : goal.post_good-requires-clause-few
post_good-requires-clause-few c = (let few = good-few c.args.records.now c.as_slice.result.now (c.as_slice.ensures.value ∙ c.in_ok-good.ensures) in omega (arith, few, c.requires.few))

pub post_good-requires-clause-room : goal.post_good-requires-clause-room
post_good-requires-clause-room c = (let few = good-few c.args.records.now c.as_slice.result.now (c.as_slice.ensures.value ∙ c.in_ok-good.ensures) in omega (arith, few, c.requires.room))

pub returns : goal.returns
returns c =
    let same = good-logins c.args.records.now c.as_slice.result.now (c.as_slice.ensures.value ∙ c.in_ok-good.ensures) in
    on_ok c.post_good.result (λ is. is ∙ ap (λ (rs : List LoginRecord). record c.args.sessions.now { entries = c.args.sessions.now.entries ++ posted_by 0 rs; ready = None }) same) c.post_good.ensures
