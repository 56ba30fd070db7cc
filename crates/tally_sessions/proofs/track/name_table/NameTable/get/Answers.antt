use Rattle.std.proofs.Common.{◌≡◌, Some, bytes_eq, slice_get, ap, subst, sym, ◌∙◌}
use Rattle.std.specs.Map.{keys_of, lookup}
use Rattle.tally_sessions.specs.inside.Numbers.{Numbers}
use Rattle.tally_sessions.proofs.track.Names.{lookup_at}
use Rattle.tally_sessions.proofs.track.name_table.NameTable.get.Goals as goal

pub returns : goal.returns
returns c =
    let is = ap (λ (t : Numbers). t.entries) c.self.view_is in
    let place = subst (λ es. slice_get (keys_of es) c.in_ok-place.place ≡ Some c.args.name.now) (sym is) c.in_ok-place.ensures.found in
    sym (lookup_at c.self.inside.numbers c.in_ok-place.place c.args.name.now _ c.in_ok-number.number.now c.as_slice.ensures.unique place
    (subst (λ es. slice_get es c.in_ok-place.place ≡ Some (c.in_ok-number.field-0-0.now, c.in_ok-number.number.now)) c.as_slice.ensures.entries (sym c.in_ok-number.ensures.entry)))
    ∙ ap (λ es. lookup (bytes_eq c.args.name.now) es) is
