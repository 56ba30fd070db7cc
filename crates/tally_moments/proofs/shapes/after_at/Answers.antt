use Rattle.std.proofs.Common.{lit<}
use Rattle.std.proofs.lemmas.Str.Pattern.{strip_prefix_char}
use Rattle.tally_moments.proofs.ShapeLemmas.{after_is}
use Rattle.tally_moments.proofs.shapes.after_at.Goals as goal

pub returns : goal.returns
returns c = after_is 64 c.args.text.now _ (strip_prefix_char 64 c.args.text.now _ c.strip_prefix.ensures.cases (lit< tt))
