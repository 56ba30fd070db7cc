use Rattle.std.proofs.Common.{◌≡◌, ℕ, sym, ap, ◌∙◌, subst, List, filter, take, reverse, IfOk, arith}
use Rattle.tally_sessions.specs.declared.entry.Entry.{Entry}
use Rattle.tally_sessions.specs.declared.entry.Stay.{Stay}
use Rattle.tally_sessions.specs.Choice.{is_shown}
use Rattle.tally_sessions.specs.Lent.{entries_in}
use Rattle.tally_sessions.specs.State.{State}
use Rattle.tally_sessions.specs.Totals.{latest_stays, limited, stays_of}
use Rattle.tally_sessions.proofs.track.StayCounts.{stays_of-all}
use Rattle.tally_sessions.proofs.sessions.Staging.{track_of}
use Rattle.tally_sessions.proofs.sessions.Sessions.stays.Goals as goal

pub latest-requires-clause-track : goal.latest-requires-clause-track
latest-requires-clause-track c =
    let hosts = ap (λ (s : State). s.hosts) c.self.view_is in
    track_of c.self.inside c.args.self.now (entries_in c.entries-entries.result) c.args.host c.index-track.result.now c.self.invariant c.self.view_is c.entries-entries.ensures.value
    (omega (arith, hosts, c.requires, c.self.invariant.few_hosts)) c.index-track.ensures

pub latest-requires-in-None-clause-track : goal.latest-requires-in-None-clause-track
latest-requires-in-None-clause-track c =
    let hosts = ap (λ (s : State). s.hosts) c.self.view_is in
    track_of c.self.inside c.args.self.now (entries_in c.entries-entries.result) c.args.host c.index-track.result.now c.self.invariant c.self.view_is c.entries-entries.ensures.value
    (omega (arith, hosts, c.requires, c.self.invariant.few_hosts)) c.index-track.ensures

pub returns-in-None-clause-value : goal.returns-in-None-clause-value
returns-in-None-clause-value c =
    let es : List Entry = (entries_in c.entries-entries.result) in
    let p = is_shown c.args.choice.now c.args.until in
    let all : take c.len.result (reverse (filter p (stays_of c.args.host es c.args.until))) ≡ latest_stays c.args.host c.args.limit c.args.choice.now c.args.self.now.entries c.args.until =
    ap (λ (n : ℕ). take n (reverse (filter p (stays_of c.args.host es c.args.until)))) c.len.ensures
    ∙ stays_of-all p c.args.host es c.args.until
    ∙ ap (λ (xs : List Entry). reverse (filter p (stays_of c.args.host xs c.args.until))) c.entries-entries.ensures.value
    ∙ sym (ap (λ o. limited o (reverse (filter p (stays_of c.args.host c.args.self.now.entries c.args.until)))) c.in-None.is) in
    subst (λ (xs : List Stay). IfOk c.latest-in-None.result (λ found. found ≡ xs)) all c.latest-in-None.ensures.value
