use Rattle.std.proofs.Common.{◌∙◌, ap}
use Rattle.tally_records.specs.inside.Compact.Layout.{field_of, record_at}
use Rattle.tally_records.proofs.login.texts.put_texts.Goals as goal

pub returns-clause-line : goal.returns-clause-line
unfolding record_at
returns-clause-line c = c.unpack_over.ensures ∙ ap (field_of 32) c.line_words.ensures

pub returns-clause-user : goal.returns-clause-user
unfolding record_at
returns-clause-user c = c.unpack_over-2.ensures ∙ ap (field_of 32) c.user_words.ensures

pub returns-clause-remote : goal.returns-clause-remote
unfolding record_at
returns-clause-remote c = c.unpack_over-3.ensures ∙ ap (field_of 256) c.remote_words.ensures
