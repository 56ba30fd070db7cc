use Rattle.std.proofs.Common.{◌∙◌, ℕ, List, get_or, ap}
use Rattle.tally_records.specs.inside.Compact.Layout.{field_of, record_at}
use Rattle.tally_records.proofs.login.events.user_byte.Goals as goal

pub returns : goal.returns
unfolding record_at
returns c = c.first_byte.ensures ∙ ap (λ (words : List ℕ). get_or (field_of 32 words) 0 0) c.user_words.ensures
