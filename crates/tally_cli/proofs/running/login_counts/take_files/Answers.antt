use Rattle.std.proofs.Common.{rules, ap, arith, map, refl, subst, sym, ◌∙◌, ◌⊎◌, ◌+◌, ◌≤◌}
use Rattle.std.specs.Prelude.{sum_by}
use Rattle.tally_sessions.specs.ConnectSums.{Counted}
use Rattle.tally_cli.specs.inside.Files.{HasSums, IsFault, count_in}
use Rattle.tally_cli.specs.inside.LoginCounts.{AreTaken}
use Rattle.tally_cli.proofs.LoginCounts.{all_taken, counted_more, counted_none, sum_more, take_fault, taken_more, tried}
use Rattle.tally_cli.proofs.Reported.{at_fault}
use Rattle.tally_cli.proofs.running.login_counts.take_files.Goals as goal

pub loop-host-init : goal.loop-host-init
loop-host-init g c =
    let at = count_in c.args.feeders (map (λ v. v.items) c.args.lists.items) in
    record {
      width = c.requires.all;
      placed = c.requires.placed;
      left = λ k l. refl;
      taken = record { length_is = search rules; each = λ k d l. absurd (omega (arith, l)) };
      sum = search rules;
      counted = sym (counted_none at);
      few = omega arith;
      capacity = search rules;
    }

pub take_logins-requires-clause-tried : goal.take_logins-requires-clause-tried
take_logins-requires-clause-tried g c =
    let before = c.loop-host.invariant in
    let host = c.loop-host.host in
    let at = count_in c.args.feeders (map (λ v. v.items) c.args.lists.items) in
    let is = c.take_count-count.ensures.value ∙ before.left host (omega arith) in
    subst (λ x. HasSums x ⊎ IsFault x) (sym is)
    (tried c.args.room c.args.feeders c.args.files at host c.requires.some c.requires.explained c.loop-host-test.true (all_taken host at c.loop-host.counts.items before.taken) (subst (λ n. n ≤ c.args.room) before.counted before.few))

pub returns-in_err-sums-clause-fault : goal.returns-in_err-sums-clause-fault
returns-in_err-sums-clause-fault g c =
    let before = c.loop-host.invariant in
    let host = c.loop-host.host in
    let at = count_in c.args.feeders (map (λ v. v.items) c.args.lists.items) in
    let is = c.take_count-count.ensures.value ∙ before.left host (omega arith) in
    at_fault _ c.from_residual-in_err-sums.result c.in_err-sums.field-0.0 (search rules)
    (take_fault c.args.room c.args.files at host c.loop-host-test.true c.take_count-count.result is c.loop-host.counts.items before.taken c.loop-host.counted before.counted before.few c.in_err-sums.field-0.0 c.in_err-sums.ensures.fault)

pub loop-host-preserved : goal.loop-host-preserved
loop-host-preserved g c =
    let before = c.loop-host.invariant in
    let host = c.loop-host.host in
    let at = count_in c.args.feeders (map (λ v. v.items) c.args.lists.items) in
    let is = c.take_count-count.ensures.value ∙ before.left host (omega arith) in
    let own = c.in_ok-sums.ensures.taken in
    record {
      width = c.take_count-count.ensures.all;
      placed = λ k l. c.take_count-count.ensures.placed k (before.placed k l);
      left = λ k l. c.take_count-count.ensures.others k (λ same. omega (arith, same, l)) ∙ before.left k (omega (arith, l));
      taken = subst (AreTaken (host + 1) at) (sym c.push_reserved.ensures.items)
          (taken_more c.args.room c.args.files at host c.loop-host-test.true c.take_count-count.result is c.loop-host.counts.items before.taken c.in_ok-sums.sums own);
      sum = ap (sum_by (λ (s : Counted). s.count)) c.push_reserved.ensures.items ∙ sum_more c.loop-host.counts.items c.in_ok-sums.sums c.loop-host.counted _ before.sum c.len.ensures.count;
      counted = counted_more c.args.room c.args.files at host c.loop-host-test.true c.take_count-count.result is c.loop-host.counts.items before.taken c.in_ok-sums.sums c.loop-host.counted _ own before.counted (omega (arith, c.len.ensures));
      few = omega (arith, c.in_ok-sums.ensures.few, c.len.ensures);
      capacity = search rules;
    }
