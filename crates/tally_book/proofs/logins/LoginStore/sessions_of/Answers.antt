use Rattle.std.proofs.Common.{◌≡◌, ◌<◌, ◌==◌, ap, subst, sym, ◌∙◌}
use Rattle.std.proofs.lemmas.List.Elements.{All-filter}
use Rattle.std.specs.List.{All}
use Rattle.tally_book.specs.inside.LoginStates.{LoginState}
use Rattle.tally_book.specs.inside.LoginStores.{entries_of}
use Rattle.tally_sessions.specs.declared.entry.Entry.{Entry}
use Rattle.tally_sessions.specs.Hosts.{entries_of_host}
use Rattle.tally_book.proofs.logins.LoginStore.sessions_of.Goals as goal

pub of_entries-requires-clause-within : goal.of_entries-requires-clause-within
of_entries-requires-clause-within c =
    let a = c.self.inside in
    let is : c.in_ok-entries.entries ≡ entries_of_host c.args.host (entries_of a.kept) =
    c.in_ok-entries.ensures.value ∙ ap (entries_of_host c.args.host) (c.entries.ensures ∙ sym (ap (λ (s : LoginState). s.entries) c.self.view_is)) in
    subst (All (λ (e : Entry). e.host < a.hosts)) (sym is) (All-filter (λ (e : Entry). e.host == c.args.host) (λ (e : Entry). e.host < a.hosts) (entries_of a.kept) c.self.invariant.within)
