use Rattle.std.proofs.Common.{◌≡◌, Some, None, refl, sym, ap, ◌∙◌}
use Rattle.std.proofs.lemmas.Int.{to_z-of_z}
use Rattle.std.specs.Int.{w64}
use Rattle.std.specs.Map.{lookup}
use Rattle.std.specs.Prelude.{bytes_eq}
use Rattle.tally_records.specs.declared.login.Event.TheVariants.{Login, Logout, Boot, Down}
use Rattle.tally_sessions.specs.inside.Entries.{entry_at}
use Rattle.tally_sessions.specs.inside.Track as spec
use Rattle.tally_sessions.specs.inside.Track.{ends_every_stay, ends_line_stay}
use Rattle.tally_sessions.proofs.track.Places.{map-at, map-same}
use Rattle.tally_sessions.proofs.track.TrackSteps.{after-nothing, ends_on_line, line_event, not_by_test, some_inj, some≢none, after-line_event}
use Rattle.tally_sessions.proofs.track.ending.end_pending.Goals as goal

pub end_login-requires-clause-i_in : goal.end_login-requires-clause-i_in
end_login-requires-clause-i_in c =
    let lines = c.requires.tracked.0 in
    let leads : lookup (bytes_eq (entry_at c.args.entries.now c.args.stored.at).item.line) lines ≡ Some c.in-Some.i = sym (c.requires.tracked.2 (sym c.ends_line.ensures ∙ c.if-ends_line.true)) ∙ c.in-Some.is in
    (c.requires.tracked.1.on _ _ leads).within

pub end_login-requires-clause-ends : goal.end_login-requires-clause-ends
end_login-requires-clause-ends c =
    let lines = c.requires.tracked.0 in
    let leads : lookup (bytes_eq (entry_at c.args.entries.now c.args.stored.at).item.line) lines ≡ Some c.in-Some.i = sym (c.requires.tracked.2 (sym c.ends_line.ensures ∙ c.if-ends_line.true)) ∙ c.in-Some.is in
    let on = c.requires.tracked.1.on _ _ leads in
    ends_on_line _ _ c.args.event on.login (sym c.requires.told) (line_event c.args.event (sym c.ends_line.ensures ∙ c.if-ends_line.true)) on.same

pub end_login-requires-clause-login : goal.end_login-requires-clause-login
end_login-requires-clause-login c =
    let lines = c.requires.tracked.0 in
    let leads : lookup (bytes_eq (entry_at c.args.entries.now c.args.stored.at).item.line) lines ≡ Some c.in-Some.i = sym (c.requires.tracked.2 (sym c.ends_line.ensures ∙ c.if-ends_line.true)) ∙ c.in-Some.is in
    (c.requires.tracked.1.on _ _ leads).login

pub end_login-requires-clause-started : goal.end_login-requires-clause-started
end_login-requires-clause-started c =
    let lines = c.requires.tracked.0 in
    let leads : lookup (bytes_eq (entry_at c.args.entries.now c.args.stored.at).item.line) lines ≡ Some c.in-Some.i = sym (c.requires.tracked.2 (sym c.ends_line.ensures ∙ c.if-ends_line.true)) ∙ c.in-Some.is in
    (c.requires.tracked.1.at c.in-Some.i (c.requires.tracked.1.on _ _ leads).within).time

pub returns-in-Some-clause-stays : goal.returns-in-Some-clause-stays
returns-in-Some-clause-stays c =
    let es = c.args.entries.now in
    let x = (entry_at es c.args.stored.at).item in
    let same = to_z-of_z w64 c.args.clock c.ranges.clock in
    let lines = c.requires.tracked.0 in
    let leads : lookup (bytes_eq x.line) lines ≡ Some c.in-Some.i = sym (c.requires.tracked.2 (sym c.ends_line.ensures ∙ c.if-ends_line.true)) ∙ c.in-Some.is in
    let i = c.in-Some.i in
    c.end_login.ensures.stays
    ∙ map-at (spec.after es c.args.clock x) spec.no_stay c.args.stays.now i _ (c.requires.tracked.1.on _ _ leads).within (ap (λ z. spec.after es z x (spec.stay_at c.args.stays.now i)) same)
    (λ k lt other. after-line_event es c.args.stored.at lines c.args.swept c.args.stays.now c.args.clock x c.args.event c.requires.tracked.1 (sym c.requires.told) (line_event c.args.event (sym c.ends_line.ensures ∙ c.if-ends_line.true))
    k lt (λ at. other (some_inj k i (sym at ∙ leads))))

pub returns-in_default-clause-stays : goal.returns-in_default-clause-stays
returns-in_default-clause-stays c =
    let es = c.args.entries.now in
    let x = (entry_at es c.args.stored.at).item in
    let lines = c.requires.tracked.0 in
    let nowhere : lookup (bytes_eq x.line) lines ≡ None = sym (c.requires.tracked.2 (sym c.ends_line.ensures ∙ c.if-ends_line.true)) ∙ c.in_default.is in
    sym (map-same (spec.after es c.args.clock x) spec.no_stay c.args.stays.now
    (λ k lt. after-line_event es c.args.stored.at lines c.args.swept c.args.stays.now c.args.clock x c.args.event c.requires.tracked.1 (sym c.requires.told) (line_event c.args.event (sym c.ends_line.ensures ∙ c.if-ends_line.true))
    k lt (λ at. some≢none k (sym at ∙ nowhere))))

pub returns-else-ends_line-clause-stays : goal.returns-else-ends_line-clause-stays
returns-else-ends_line-clause-stays c =
    let es = c.args.entries.now in
    let x = (entry_at es c.args.stored.at).item in
    let every = sym c.ends_every.ensures ∙ c.if-ends_every.false in
    let line = sym c.ends_line.ensures ∙ c.if-ends_line.false in
    let ev = c.requires.told in
    sym (map-same (spec.after es c.args.clock x) spec.no_stay c.args.stays.now
    (after-nothing es c.args.stored.at c.requires.tracked.0 c.args.swept c.args.stays.now c.args.clock x c.requires.tracked.1
    (λ e. not_by_test ends_line_stay c.args.event Login line refl (ev ∙ e)) (λ e. not_by_test ends_line_stay c.args.event Logout line refl (ev ∙ e))
    (λ e. not_by_test ends_every_stay c.args.event Boot every refl (ev ∙ e)) (λ e. not_by_test ends_every_stay c.args.event Down every refl (ev ∙ e))))
