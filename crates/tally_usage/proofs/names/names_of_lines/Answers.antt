use Rattle.std.proofs.Common.{◌∙◌, ◌∷◌, ◌==◌, [], List, ℕ, Bor, ap, map, rules, sym, tests}
use Rattle.std.proofs.lemmas.Iterator.Consumers.{YieldsList-end}
use Rattle.std.proofs.lemmas.Iterator.Splits.{YieldsList-from_slice_split}
use Rattle.std.proofs.lemmas.List.{map-append}
use Rattle.std.specs.Option.{option_or}
use Rattle.tally_usage.specs.Names.{name_among}
use Rattle.tally_usage.proofs.NameLemmas.{name_among-append}
use Rattle.tally_usage.proofs.names.names_of_lines.Goals as goal

pub loop-line-preserved : goal.loop-line-preserved
loop-line-preserved c uid =
    let so_far = map (λ (x : Bor (List ℕ)). x.now) c.loop-line.yielded in
    c.in_ok-read_line.ensures uid ∙ ap (λ o. option_or o (name_among (c.in-Some.line.now ∷ []) uid)) (c.loop-line.invariant uid)
    ∙ sym (name_among-append so_far (c.in-Some.line.now ∷ []) uid)
    ∙ ap (λ l. name_among l uid) (sym (map-append (λ (x : Bor (List ℕ)). x.now) c.loop-line.yielded (c.in-Some.line ∷ [])))

pub returns : goal.returns
returns c uid =
    let all = YieldsList-end (YieldsList-from_slice_split _ (λ byte. byte == 10) c.args.bytes.now (cc) (cc) (cc) (λ x b q k. search (rules, tests))) c.loop-line.yielded _ c.loop-line.yielded_by _ _ c.in-None.is c.next.ensures.steps in
    c.loop-line.invariant uid ∙ ap (λ l. name_among l uid) all.0
