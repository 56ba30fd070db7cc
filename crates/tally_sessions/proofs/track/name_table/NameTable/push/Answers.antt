use Rattle.std.proofs.Common.{◌≡◌, ◌<◌, ℕ, List, [], ◌∷◌, ◌++◌, None, bytes_eq, ap, subst, sym, ◌∙◌}
use Rattle.std.specs.Map.{lookup}
use Rattle.indexmap.proofs.CallerLemmas.{insert_entry-new}
use Rattle.indexmap.specs.IndexMap.{spare}
use Rattle.tally_sessions.specs.inside.Numbers.{Numbers}
use Rattle.tally_sessions.proofs.track.Names.{on_ok}
use Rattle.tally_sessions.proofs.track.name_table.NameTable.push.Goals as goal

pub returns-clause-entries : goal.returns-clause-entries
returns-clause-entries c =
    let is = ap (λ (t : Numbers). t.entries) c.self.view_is in
    let absent = subst (λ es. lookup (bytes_eq c.args.name) es ≡ None) (sym is) c.requires.new in
    let room : 0 < spare c.self.inside.numbers = subst (λ k. 0 < k) (sym (ap (λ (t : Numbers). t.spare) c.self.view_is)) c.requires.room in
    on_ok c.insert.result _ (c.insert.ensures.succeeds room) c.insert.ensures.entries ∙ insert_entry-new bytes_eq c.self.inside.numbers c.args.name c.args.number absent
    ∙ ap (λ (es : List (List ℕ × ℕ)). es ++ (c.args.name, c.args.number) ∷ []) is
