use Rattle.std.proofs.Common.{◌≡◌, ◌∙◌, true, ap, sym}
use Rattle.tally_moments.proofs.ShapeLemmas.{number_is}
use Rattle.tally_moments.specs.Shapes.{is_digits}
use Rattle.tally_moments.proofs.shapes.number_of.Goals as goal

pub returns : goal.returns
returns c =
    let digits : is_digits c.args.text.now ≡ true = ap is_digits (sym c.as_bytes.ensures.value) ∙ sym c.are_digits.ensures ∙ c.if-not-are_digits.false in
    c.ok.ensures.value ∙ number_is c.args.text.now _ c.parse.ensures.value.0 digits
