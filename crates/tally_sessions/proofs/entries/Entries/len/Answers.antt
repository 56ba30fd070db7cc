use Rattle.std.proofs.Common.{sym, ap, min, ◌∙◌}
use Rattle.std.proofs.lemmas.List.{length-take}
use Rattle.tally_sessions.specs.Lent.{entries_in}
use Rattle.tally_sessions.proofs.entries.Entries.len.Goals as goal

pub returns : goal.returns
unfolding entries_in
returns c = c.min.ensures ∙ ap (min c.args.self.count) c.len.ensures ∙ sym (length-take c.args.self.count c.args.self.list.now)
