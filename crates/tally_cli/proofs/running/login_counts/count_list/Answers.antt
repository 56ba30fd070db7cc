use Rattle.std.proofs.Common.{rules, ◌≡◌, ◌<◌, inl, inr, arith, get_or, length, refl, sym}
use Rattle.std.proofs.lemmas.List.{get_or_default}
use Rattle.tally_cli.specs.inside.Files.{counts_of}
use Rattle.tally_cli.specs.inside.LoginCounts.{CameOf, LoginFile, StopsAt}
use Rattle.tally_cli.proofs.Counted.{counted_all, counted_more, counted_part, stops_at_fault, sums_more}
use Rattle.tally_cli.proofs.LoginCounts.{counted_none, list_counted, never_untried}
use Rattle.tally_cli.proofs.running.login_counts.count_list.Goals as goal

pub loop-at-init : goal.loop-at-init
loop-at-init g c = record {
  to = record { length_is = refl; came = λ k d l. absurd (omega (arith, l)); left = λ k d l. refl };
  sums = λ k d l. absurd (omega (arith, l));
  counted = sym (counted_none (counts_of c.args.files.now));
  few = omega arith;
}

pub loop-at-preserved : goal.loop-at-preserved
loop-at-preserved g c =
    let before = c.loop-at.invariant in
    let ts = c.args.files.now in
    let us = c.loop-at.files in
    let at = c.loop-at.at in
    let came = CameOf g.I.Input.to_come g.I.Input.can_fail c.args.room c.args.keeps_sessions in
    let x : LoginFile g.row.I.Denot = get_or us at c.index-files-at.result in
    let near : at < length ts = search rules in
    let is : x ≡ get_or us at x = get_or_default us at c.index-files-at.result x (omega (arith, near, before.to.length_is)) in
    let done = c.if-not-count_file.ensures.done in
    record {
      to = counted_more came ts us at x c.count_file.new.file near is before.to c.count_file.ensures.came;
      sums = sums_more came ts us at x c.count_file.new.file near is before.to c.count_file.ensures.came before.sums done.0;
      counted = omega (arith, c.count_file.ensures.counted, before.counted, list_counted us at c.count_file.new.file (omega (arith, near, before.to.length_is)));
      few = done.1;
    }

pub returns-after-loop-at : goal.returns-after-loop-at
returns-after-loop-at g c =
    let came = CameOf g.I.Input.to_come g.I.Input.can_fail c.args.room c.args.keeps_sessions in
    let before = c.loop-at.invariant in
    counted_all came (StopsAt c.args.room) (λ s. tt) g.I.Input.failures c.args.files.now c.loop-at.at c.requires c.loop-at.files before.to (search rules) before.sums

pub returns-then-not-count_file : goal.returns-then-not-count_file
returns-then-not-count_file g c =
    let before = c.loop-at.invariant in
    let ts = c.args.files.now in
    let us = c.loop-at.files in
    let at = c.loop-at.at in
    let came = CameOf g.I.Input.to_come g.I.Input.can_fail c.args.room c.args.keeps_sessions in
    let x : LoginFile g.row.I.Denot = get_or us at c.index-files-at.result in
    let u = c.count_file.new.file in
    let near : at < length ts = search rules in
    let there : at < length us = omega (arith, near, before.to.length_is) in
    let is : x ≡ get_or us at x = get_or_default us at c.index-files-at.result x there in
    let more = list_counted us at u there in
    counted_part came (StopsAt c.args.room) (λ s. tt) g.I.Input.failures ts at c.requires us u near before.to.length_is
    (counted_more came ts us at x u near is before.to c.count_file.ensures.came) before.sums (never_untried u.count c.count_file.ensures.tried)
    (elim c.if-not-count_file.ensures.done [
      | inl fault ↦ inl (stops_at_fault us at u there fault)
      | inr over ↦ inr (omega (arith, over, c.count_file.ensures.counted, before.counted, more))
    ])
