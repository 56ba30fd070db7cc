use Rattle.std.proofs.Common.{◌≡◌, ◌∙◌, Some, slice_get, ap, subst, sym}
use Rattle.std.specs.Map.{keys_of}
use Rattle.tally_sessions.specs.inside.Numbers.{Numbers}
use Rattle.tally_sessions.proofs.track.Names.{own_key}
use Rattle.tally_sessions.proofs.track.name_table.NameTable.is_at.Goals as goal

pub returns-in-Some : goal.returns-in-Some
returns-in-Some c is =
    subst (λ es. slice_get (keys_of es) c.args.place ≡ Some c.args.name.now) (ap (λ (t : Numbers). t.entries) c.self.view_is)
    (own_key c.self.inside.numbers.entries c.args.place c.in-Some.own.now c.args.name.now c.in-Some.field-0-1.now (sym c.in-Some.ensures.entry) (sym c.eq.ensures ∙ is))
