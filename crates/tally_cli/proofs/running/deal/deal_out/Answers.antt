use Rattle.std.proofs.Common.{◌≡◌, ◌+◌, ◌<◌, ◌≤◌, List, [], ◌∷◌, ◌++◌, length, map, set, get_or, drop, sym, refl, ap, ◌∙◌, subst, arith, ⊎_elim}
use Rattle.std.proofs.lemmas.Bool.{cases_lt}
use Rattle.std.proofs.lemmas.List.{length-map, length-set, get_or-drop, get_or_default, drop-drop}
use Rattle.std.proofs.lemmas.List.Elements.{All-get_or, All-nil, All-push, All-set, All-weaker}
use Rattle.std.specs.Prelude.{slice_get}
use Rattle.std.specs.List.{All, sum_by, remove}
use Rattle.tally_desk.specs.Passes.{PassState}
use Rattle.tally_cli.specs.declared.running.task.Task.{Task}
use Rattle.tally_cli.specs.declared.running.task.Outcome.TheVariants.{Untried}
use Rattle.tally_cli.specs.inside.Deals.{IsIn, IsTaskOf, task_of, work_of}
use Rattle.tally_cli.specs.inside.Tasks.{AreReady, IsNew}
use Rattle.tally_cli.proofs.Dealt.{AreBelow, all_empty, below_more, below_push, first_left, in_new, in_old, none_yet, pushed, readable_at, ready_push, removed, sum_new}
use Rattle.tally_cli.proofs.running.deal.deal_out.Goals as goal

pub loop-number-init : goal.loop-number-init
loop-number-init g c =
    let none' = c.in_ok-lists.ensures in
    record {
      passes = refl;
      sources = refl;
      width = omega (arith, none'.0, c.len-callers.ensures, c.len-count.ensures, c.args.passes.ok.0, c.args.sources.ok.0);
      dealt = λ k p l. absurd (omega (arith, l));
      only = all_empty (All (IsTaskOf c.args.asking c.args.sources.items c.args.passes.items)) (λ v. v.items) c.in_ok-lists.lists.items (All-nil (IsTaskOf c.args.asking c.args.sources.items c.args.passes.items)) none'.1;
      all = none_yet (λ v. v.items) c.in_ok-lists.lists.items none'.1;
      ready = all_empty (AreReady g.I.Input.failures c.args.desk.now) (λ v. v.items) c.in_ok-lists.lists.items (record { new = All-nil (IsNew g.I.Input.failures c.args.desk.now); rising = λ j k d l m. absurd (omega (arith, m)) }) none'.1;
      less = all_empty (AreBelow 0) (λ v. v.items) c.in_ok-lists.lists.items (All-nil (λ (x : Task g.row.I.Denot). x.pass.number < 0)) none'.1;
    }

pub loop-number-preserved : goal.loop-number-preserved
loop-number-preserved g c =
    let n = c.loop-number.number in
    let inv = c.loop-number.invariant in
    let lists = c.loop-number.lists.items in
    let w = c.worker_of.result in
    let passes = c.args.passes.items in
    let sources = c.args.sources.items in
    let pass = c.remove-pass.result in
    let all = map (λ v. v.items) lists in
    let t : Task g.row.I.Denot = record { pass = pass; work = c.next_work.result; outcome = Untried } in
    let inside : n < length passes = omega (arith, c.loop-number-test.true, c.len-callers.ensures, c.args.passes.ok.0) in
    let enough : length sources ≤ length passes = c.requires.sources in
    let count : c.len-count.result ≡ length sources = omega (arith, c.len-count.ensures, c.args.sources.ok.0) in
    let near : w < length lists = ⊎_elim
    (λ (l : n < c.len-count.result). let i = c.worker_of.ensures.inside l in omega (arith, i, inv.width))
    (λ (l : c.len-count.result ≤ n). let i = c.worker_of.ensures.asker l in omega (arith, i, inv.width, inside, enough, count, l))
    (cases_lt n c.len-count.result) in
    let near_all : w < length all = omega (arith, near, length-map lists (λ v. v.items)) in
    let failures = g.I.Input.failures in
    let desk = c.args.desk.now in
    let ready : List (Task g.row.I.Denot) → Type 0 = AreReady failures desk in
    let e = pushed (λ v. v.items) lists w c.index_mut.result.now c.push.new.self t near c.index_mut.ensures.value c.in_ok-push.ensures.items in
    let same_place : n + 0 ≡ n = omega arith in
    let pass_is : (p : PassState) → pass ≡ get_or passes n p =
    λ p. c.remove-pass.ensures.value ∙ (ap (λ l. get_or l 0 pass) inv.passes ∙ (get_or-drop n passes 0 pass ∙ (ap (λ k. get_or passes k pass) same_place ∙ get_or_default passes n pass p inside))) in
    let own : t.pass.number ≡ n = ap (λ (p : PassState). p.number) (pass_is pass) ∙ c.requires.numbers n pass inside in
    let work_is = c.next_work.ensures.work ∙ (ap (λ l. work_of c.args.asking (slice_get l 0)) inv.sources ∙ ap (work_of c.args.asking) (first_left sources n)) in
    let here : (p : PassState) → t ≡ task_of c.args.asking sources n (get_or passes n p) = λ p i. record { pass = pass_is p i; work = work_is i; outcome = Untried } in
    let new : IsNew failures desk t = record {
      desk_is = ap (λ (p : PassState). p.desk) (pass_is pass) ∙ All-get_or (λ (p : PassState). p.desk ≡ desk.id) passes n pass inside c.requires.desk;
      untried = refl;
      readable = λ source is. readable_at failures c.args.asking sources n source c.requires.readable (sym work_is ∙ is);
    } in
    record {
      passes = c.remove-pass.ensures.items ∙ (ap (λ l. remove l 0) inv.passes ∙ removed passes n);
      sources = c.next_work.ensures.rest ∙ (ap (drop 1) inv.sources ∙ drop-drop 1 n sources);
      width = length-set lists w c.push.new.self ∙ inv.width;
      dealt = λ k p l. subst (λ xss. IsIn xss (task_of c.args.asking sources k (get_or passes k p))) (sym e) (⊎_elim
          (λ (less : k < n). in_old all w t (task_of c.args.asking sources k (get_or passes k p)) near_all (inv.dealt k p less))
          (λ (not_less : n ≤ k).
          let same : k ≡ n = omega (arith, l, not_less) in
          let is : t ≡ task_of c.args.asking sources k (get_or passes k p) = here p ∙ ap (λ m. task_of c.args.asking sources m (get_or passes m p)) (sym same) in
          subst (λ x. IsIn (set all w (get_or all w [] ++ t ∷ [])) x) is (in_new all w t near_all))
          (cases_lt k n));
      only = subst (λ xss. All (All (IsTaskOf c.args.asking sources passes)) xss) (sym e)
          (All-set (All (IsTaskOf c.args.asking sources passes)) all w (get_or all w [] ++ t ∷ []) (All-push (IsTaskOf c.args.asking sources passes) (get_or all w []) t (All-get_or (All (IsTaskOf c.args.asking sources passes)) all w [] near_all inv.only) (n, pass, inside, here pass)) inv.only);
      all = ap (sum_by length) e ∙ (sum_new all w t near_all ∙ omega (arith, inv.all));
      ready = subst (λ xss. All ready xss) (sym e)
          (All-set ready all w (get_or all w [] ++ t ∷ []) (ready_push failures desk (get_or all w []) t (All-get_or ready all w [] near_all inv.ready) (subst (λ k. AreBelow k (get_or all w [])) (sym own) (All-get_or (AreBelow n) all w [] near_all inv.less)) new) inv.ready);
      less = subst (λ xss. All (AreBelow (n + 1)) xss) (sym e)
          (All-set (AreBelow (n + 1)) all w (get_or all w [] ++ t ∷ []) (below_push n (get_or all w []) t own (All-get_or (AreBelow n) all w [] near_all inv.less)) (All-weaker (AreBelow n) (AreBelow (n + 1)) (λ ts h. below_more n ts h) all inv.less));
    }

pub returns-clause-dealt : goal.returns-clause-dealt
returns-clause-dealt g c = record {
  each = λ k p l. c.loop-number.invariant.dealt k p (omega (arith, l, c.loop-number-test.false, c.len-callers.ensures, c.args.passes.ok.0));
  only = c.loop-number.invariant.only;
}
