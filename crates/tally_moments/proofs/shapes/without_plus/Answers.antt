use Rattle.std.proofs.Common.{◌∙◌, List, ℕ, ap, lit<}
use Rattle.std.specs.Borrow.{Bor}
use Rattle.std.proofs.lemmas.Str.Pattern.{strip_prefix_char}
use Rattle.tally_moments.proofs.ShapeLemmas.{without_plus_is}
use Rattle.tally_moments.proofs.shapes.without_plus.Goals as goal

pub returns : goal.returns
returns c =
    ap (λ (s : Bor (List ℕ)). s.now) c.unwrap_or.ensures
    ∙ without_plus_is c.args.text _ (strip_prefix_char 43 c.args.text.now _ c.strip_prefix.ensures.cases (lit< tt))
