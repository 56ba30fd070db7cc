use Rattle.tally_records.proofs.Compact.TextWords.{field_words-few, text_words_whole}
use Rattle.tally_records.proofs.login.words.push_text.Goals as goal

pub returns-clause-few : goal.returns-clause-few
returns-clause-few c = field_words-few c.args.field.now

pub returns-clause-text : goal.returns-clause-text
returns-clause-text c = text_words_whole c.args.field.now c.requires.whole (λ i. (c.type_inv.field i).fits)
