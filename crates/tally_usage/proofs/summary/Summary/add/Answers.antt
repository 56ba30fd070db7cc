use Rattle.std.proofs.Common.{◌∙◌, ◌++◌, None, ap, refl, subst, sym}
use Rattle.tally_usage.specs.Summary.{entries_of}
use Rattle.tally_usage.specs.declared.summary.Summary.TheInside.{Inside}
use Rattle.tally_usage.specs.inside.Sound.{CanCount}
use Rattle.tally_usage.proofs.SummaryLemmas.{can_count, counted-IsSound, entries-counted}
use Rattle.tally_usage.proofs.summary.Summary.add.Goals as goal

pub invariant_of-self : goal.invariant_of-self
invariant_of-self c =
    let s = c.self.inside in
    let can = can_count s _ c.self.invariant (ap (λ v. v.ready) c.self.view_is ∙ c.requires.ready) in
    counted-IsSound s _ c.args.host c.packed_procs.result.now c.count_records.ensures.kept c.self.invariant (subst (CanCount s) (sym c.packed_procs.ensures) can) refl
    c.count_records.ensures.numbered c.count_records.ensures.groups c.count_records.ensures.total c.count_records.ensures.commands c.count_records.ensures.users

pub returns-clause-entries : goal.returns-clause-entries
returns-clause-entries c =
    let new = c.count_records.new in
    let t : Inside = record { kept = new.kept; waiting = None; commands = new.commands; users = new.users; total = new.total; command_guesses = new.command_guesses; user_guesses = new.user_guesses } in
    entries-counted c.self.inside t c.args.host c.packed_procs.result.now c.count_records.ensures.kept
    ∙ (λ i. ap (λ v. v.entries) c.self.view_is i ++ entries_of c.args.host (c.packed_procs.ensures i))
