use Rattle.std.proofs.Common.{◌≡◌, ℕ, List, Some, bytes_eq, cond, slice_get, ap, subst, sym, ◌∙◌}
use Rattle.std.specs.Map.{keys_of, lookup}
use Rattle.tally_sessions.specs.inside.Numbers.{Numbers}
use Rattle.tally_sessions.proofs.track.Names.{lookup_at, lookup_set}
use Rattle.tally_sessions.proofs.track.name_table.NameTable.replace.Goals as goal

pub returns-in-Some-clause-had : goal.returns-in-Some-clause-had
returns-in-Some-clause-had c =
    let same = c.find.ensures.same in
    let is = ap (λ (t : Numbers). t.entries) c.self.view_is in
    let place = subst (λ es. slice_get (keys_of es) c.in-Some.place ≡ Some c.args.name) (ap (λ (t : Numbers). t.entries) (sym same) ∙ sym is) c.in-Some.ensures.found in
    ap Some c.replace.ensures.value
    ∙ sym (lookup_at c.self.inside.numbers c.in-Some.place c.args.name _ _ c.pair_mut-held.ensures.unique place c.pair_mut-held.ensures.value)
    ∙ ap (λ es. lookup (bytes_eq c.args.name) es) (is ∙ ap (λ (t : Numbers). t.entries) same)

pub returns-in-Some-clause-set : goal.returns-in-Some-clause-set
returns-in-Some-clause-set c other =
    let same = c.find.ensures.same in
    let is = ap (λ (t : Numbers). t.entries) c.self.view_is in
    let place = subst (λ es. slice_get (keys_of es) c.in-Some.place ≡ Some c.args.name) (ap (λ (t : Numbers). t.entries) (sym same) ∙ sym is) c.in-Some.ensures.found in
    lookup_set c.self.inside.numbers c.in-Some.place c.args.name _ _ c.pair_mut-held.ensures.unique place c.pair_mut-held.ensures.value _ other
    ∙ ap (λ n. cond (bytes_eq c.args.name other) (Some n) (lookup (bytes_eq other) c.self.inside.numbers.entries)) c.replace.ensures.after
    ∙ ap (λ (es : List (List ℕ × ℕ)). cond (bytes_eq c.args.name other) (Some c.args.number) (lookup (bytes_eq other) es)) (is ∙ ap (λ (t : Numbers). t.entries) same)
