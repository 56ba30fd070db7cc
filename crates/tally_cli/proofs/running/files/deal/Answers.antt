use Rattle.std.proofs.Common.{◌≡◌, [], ◌∷◌, ◌++◌, ◌+◌, ◌<◌, ◌≤◌, Some, length, map, set, get_or, sym, refl, ap, ◌∙◌, subst, arith, ◌%◌, ⊎_elim}
use Rattle.std.proofs.Math.Nat.{mod-lt}
use Rattle.std.proofs.lemmas.Bool.{cases_lt}
use Rattle.std.proofs.lemmas.List.{get_or-drop, get_or_default, length-map, length-set}
use Rattle.std.proofs.lemmas.List.Elements.{All-get_or, All-nil, All-push, All-set, All-weaker}
use Rattle.std.specs.List.{All, remove}
use Rattle.tally_cli.specs.Runs.{IsReadable}
use Rattle.tally_cli.specs.declared.running.files.Count.TheVariants as count
use Rattle.tally_cli.specs.declared.running.files.FileCount.{FileCount}
use Rattle.tally_cli.specs.declared.running.source.Source.{Source}
use Rattle.tally_cli.specs.inside.Files.{IsUncounted, file_in, untried}
use Rattle.tally_cli.proofs.Dealt.{pushed, removed}
use Rattle.tally_cli.proofs.Turns.{AreLong, dealt, long_dealt, next_dealt, none_long, still_dealt}
use Rattle.tally_cli.proofs.running.files.deal.Goals as goal

pub loop-host-init : goal.loop-host-init
loop-host-init g c =
    let none' = c.in_ok-lists.ensures in
    record {
      sources = refl;
      width = none'.0;
      long = none_long (λ v. v.items) c.in_ok-lists.lists.items c.args.feeders c.requires.feeders.0 none'.0 none'.1;
      dealt = λ k s l. absurd (omega (arith, l));
      uncounted = All-weaker (λ v. v.items ≡ []) (λ v. All (IsUncounted g.I.Input.failures) v.items) (λ v e. subst (All (IsUncounted g.I.Input.failures)) (sym e) (All-nil (IsUncounted g.I.Input.failures))) c.in_ok-lists.lists.items none'.1;
    }

pub loop-host-preserved : goal.loop-host-preserved
loop-host-preserved g c =
    let n = c.args.feeders in
    let some = c.requires.feeders.0 in
    let host = c.loop-host.host in
    let inv = c.loop-host.invariant in
    let lists = c.loop-host.lists.items in
    let sources = c.args.sources.items in
    let all = map (λ v. v.items) lists in
    let failures = g.I.Input.failures in
    let source : Source g.row.I.Denot = c.remove.result in
    let file : FileCount g.row.I.Denot g.row.S.Denot g.row.F.Denot = record { source = source; count = count.Untried } in
    let inside : host < length sources = omega (arith, c.loop-host-test.true, c.len-files.ensures, c.args.sources.ok.0) in
    let at = c.feeder_of.result in
    let at_is : at ≡ host % n = c.feeder_of.ensures in
    let near : at < length lists = omega (arith, mod-lt host {m = n} some, inv.width, at_is) in
    let width : length all ≡ n = length-map lists (λ v. v.items) ∙ inv.width in
    let e = pushed (λ v. v.items) lists at c.index_mut.result.now c.push.new.self file near c.index_mut.ensures.value c.in_ok-push.ensures.items
    ∙ ap (λ w. set all w (get_or all w [] ++ file ∷ [])) at_is in
    let same_place : host + 0 ≡ host = omega arith in
    let source_is : (s : Source g.row.I.Denot) → source ≡ get_or sources host s =
    λ s. c.remove.ensures.value ∙ (ap (λ l. get_or l 0 source) inv.sources ∙ (get_or-drop host sources 0 source ∙ (ap (λ k. get_or sources k source) same_place ∙ get_or_default sources host source s inside))) in
    let file_is : (s : Source g.row.I.Denot) → file ≡ untried (get_or sources host s) = λ s. ap untried (source_is s) in
    let new : IsUncounted failures file = record {
      readable = subst (IsReadable failures) (sym (source_is source)) (All-get_or (IsReadable failures) sources host source inside c.requires.readable);
      untried = refl;
    } in
    let own = subst (λ v. All (IsUncounted failures) v.items) (sym c.index_mut.ensures.value) (All-get_or (λ v. All (IsUncounted failures) v.items) lists at c.index_mut.result.now near inv.uncounted) in
    record {
      sources = c.remove.ensures.items ∙ (ap (λ l. remove l 0) inv.sources ∙ removed sources host);
      width = length-set lists at c.push.new.self ∙ inv.width;
      long = subst (AreLong n (host + 1)) (sym e) (long_dealt n some all host file width inv.long);
      dealt = λ k s l. subst (λ xss. file_in n xss k ≡ Some (untried (get_or sources k s))) (sym e) (⊎_elim
          (λ (less : k < host). still_dealt n some all host file width inv.long k (untried (get_or sources k s)) (inv.dealt k s less))
          (λ (not_less : host ≤ k).
          let same : k ≡ host = omega (arith, l, not_less) in
          subst (λ m. file_in n (dealt n some all host file width inv.long) m ≡ Some (untried (get_or sources m s))) (sym same) (next_dealt n some all host file width inv.long ∙ ap Some (file_is s)))
          (cases_lt k host));
      uncounted = All-set (λ v. All (IsUncounted failures) v.items) lists at c.push.new.self
          (subst (All (IsUncounted failures)) (sym c.in_ok-push.ensures.items) (All-push (IsUncounted failures) c.index_mut.result.now.items file own new)) inv.uncounted;
    }
