use Rattle.std.proofs.Common.{sym, ap, ◌∙◌}
use Rattle.tally_records.specs.inside.Compact.Keys.{words_back}
use Rattle.tally_records.specs.Text.{field_words}
use Rattle.tally_records.proofs.login.key.Key.words.Goals as goal

pub returns : goal.returns
returns c = sym (words_back c.self.inside.words c.self.invariant.fits) ∙ ap field_words c.self.view_is
