use Rattle.std.proofs.Common.{◌∙◌, arith, refl, sym}
use Rattle.clap.specs.Words.{found_of}
use Rattle.tally_line.proofs.OptionLemmas.{optional_is}
use Rattle.tally_line.proofs.options.optional.Goals as goal

pub returns-in_default-clause-value : goal.returns-in_default-clause-value
returns-in_default-clause-value c =
    optional_is (found_of c.args.matches.now) _ _ _ c.get_one.result _ c.ranges.most.fits c.get_one.ensures.none c.get_one.ensures.value
    (λ none. refl) (λ n is low high. grind (arith, is, c.in_default))

pub returns-then-number-least-clause-value : goal.returns-then-number-least-clause-value
returns-then-number-least-clause-value c =
    optional_is (found_of c.args.matches.now) _ _ _ c.get_one.result _ c.ranges.most.fits c.get_one.ensures.none c.get_one.ensures.value
    (λ none. refl) (λ n is low high. grind (arith, is, low, high, c.in-Some.is, c.then-number-least.either))

pub returns-clause-value : goal.returns-clause-value
returns-clause-value c =
    optional_is (found_of c.args.matches.now) _ _ _ c.get_one.result _ c.ranges.most.fits c.get_one.ensures.none c.get_one.ensures.value
    (λ none. grind (arith, none, c.in-Some.is)) (λ n is low high. sym c.in-Some.is ∙ is)
