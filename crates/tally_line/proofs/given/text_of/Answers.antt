use Rattle.std.proofs.Common.{◌∙◌, Some, ap}
use Rattle.tally_line.proofs.given.text_of.Goals as goal

pub returns-in_ok-from_str-in-Some : goal.returns-in_ok-from_str-in-Some
returns-in_ok-from_str-in-Some c = ap Some c.in_ok-from_str-in-Some.ensures.ok ∙ c.in-Some.ensures
