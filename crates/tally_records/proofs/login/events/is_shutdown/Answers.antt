use Rattle.std.proofs.Common.{◌≡◌, ◌∙◌, ◌∷◌, [], ap, bytes_eq, codes, refl}
use Rattle.tally_records.specs.Text.{padded}
use Rattle.tally_records.specs.inside.Compact.Layout.{field_of, record_at, word_bytes}
use Rattle.tally_records.proofs.login.events.is_shutdown.Goals as goal

shutdown_word : field_of 32 (0x6e77_6f64_7475_6873 ∷ []) ≡ padded 32 (codes "shutdown")
unfolding field_of word_bytes
shutdown_word = refl

pub returns : goal.returns
unfolding record_at
returns c = c.eq.ensures ∙ (λ i. bytes_eq ((c.of_words.ensures ∙ ap (field_of 32) c.user_words.ensures) i) ((c.of_words-2.ensures ∙ shutdown_word) i))
