use Rattle.std.proofs.Common.{◌∙◌, sym}
use Rattle.tally_usage.proofs.NameLemmas.{name_is_put, name_stays}
use Rattle.tally_usage.proofs.names.keep_first.Goals as goal

pub returns-in_ok-insert : goal.returns-in_ok-insert
returns-in_ok-insert c q =
    name_is_put _ _ c.args.uid q c.in_ok-from_slice.field-0 c.args.name.now c.in_ok-from_slice.ensures.items (sym c.contains_key.ensures ∙ c.if-not-contains_key.true) (c.in_ok-insert.ensures.updates.0 q)

pub returns-else-not-contains_key : goal.returns-else-not-contains_key
returns-else-not-contains_key c q = name_stays _ c.args.uid q c.args.name.now (sym c.contains_key.ensures ∙ c.if-not-contains_key.false)
