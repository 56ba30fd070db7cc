use Rattle.std.proofs.Common.{◌≡◌, ◌<◌, ◌+◌, ◌^◌, ℕ, List, Some, bytes_eq, cond, slice_get, unwrap_or, ap, subst, sym, ◌∙◌, arith}
use Rattle.std.specs.Map.{keys_of, lookup}
use Rattle.indexmap.proofs.CallerLemmas.{keys-with_value_at}
use Rattle.tally_sessions.specs.inside.Numbers.{Numbers}
use Rattle.tally_sessions.proofs.track.Names.{lookup_at, lookup_set, own_name}
use Rattle.tally_sessions.proofs.track.name_table.NameTable.add_at.Goals as goal

pub overflow_add-held : goal.overflow_add-held
overflow_add-held c =
    let is = ap (λ (t : Numbers). t.entries) c.self.view_is in
    let m = c.self.inside.numbers in
    let place = own_name m.entries c.args.place _ _ c.pair_mut-held.ensures.value in
    let held = lookup_at m c.args.place _ _ _ c.pair_mut-held.ensures.unique place c.pair_mut-held.ensures.value in
    let fits = subst (λ es. slice_get (keys_of es) c.args.place ≡ Some c.pair_mut-held.result.0.now → unwrap_or (lookup (bytes_eq c.pair_mut-held.result.0.now) es) 0 + c.args.more < 2 ^ 64) (sym is) (c.requires.fits c.pair_mut-held.result.0.now) place in
    omega (arith, fits, ap (λ o. unwrap_or o 0) held)

pub returns-clause-set : goal.returns-clause-set
returns-clause-set c name there other =
    let is = ap (λ (t : Numbers). t.entries) c.self.view_is in
    let m = c.self.inside.numbers in
    let place = subst (λ es. slice_get (keys_of es) c.args.place ≡ Some name) (sym is) there in
    let held = lookup_at m c.args.place name _ _ c.pair_mut-held.ensures.unique place c.pair_mut-held.ensures.value in
    lookup_set m c.args.place name _ _ c.pair_mut-held.ensures.unique place c.pair_mut-held.ensures.value _ other
    ∙ ap (λ o. cond (bytes_eq name other) (Some (unwrap_or o 0 + c.args.more)) (lookup (bytes_eq other) m.entries)) (sym held)
    ∙ ap (λ (es : List (List ℕ × ℕ)). cond (bytes_eq name other) (Some (unwrap_or (lookup (bytes_eq name) es) 0 + c.args.more)) (lookup (bytes_eq other) es)) is

pub returns-clause-kept : goal.returns-clause-kept
returns-clause-kept c = keys-with_value_at c.self.inside.numbers c.args.place _ ∙ ap (λ (t : Numbers). keys_of t.entries) c.self.view_is
