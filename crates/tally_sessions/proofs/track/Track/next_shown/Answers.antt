use Rattle.std.proofs.Common.{◌≡◌, ◌∙◌, ◌-◌, ℕ, ap, sym, length, unwrap_or, arith}
use Rattle.tally_sessions.specs.Choice.{is_shown}
use Rattle.tally_sessions.specs.Lent.{entries_in}
use Rattle.tally_sessions.specs.inside.Track.{stay_at, stay_now}
use Rattle.tally_sessions.proofs.track.ShownSteps.{none_left, passed_over, shown_here}
use Rattle.tally_sessions.proofs.track.Track.next_shown.Goals as goal

pub returns-then-is_shown_at-clause-next : goal.returns-then-is_shown_at-clause-next
returns-then-is_shown_at-clause-next c stay =
    let a = c.args.self.now in
    let es = entries_in c.args.entries in
    let place = c.loop-place.place in
    let p = is_shown c.args.choice.now c.args.until in
    let count : length a.stays.items ≡ c.len-count.result = omega (arith, c.len-count.ensures, a.stays.ok.0) in
    let shown = ap (λ (n : ℕ). p (stay_now c.args.host es a.clock (unwrap_or c.args.until a.last) (stay_at a.stays.items (n - place - 1)))) count ∙ sym c.is_shown_at.ensures ∙ c.if-is_shown_at.true in
    c.loop-place.invariant ∙ shown_here p c.args.host es a c.args.until place c.requires.track stay (omega (arith, count, c.loop-place-test.true)) shown

pub loop-place-preserved : goal.loop-place-preserved
loop-place-preserved c =
    let a = c.args.self.now in
    let es = entries_in c.args.entries in
    let place = c.loop-place.place in
    let p = is_shown c.args.choice.now c.args.until in
    let count : length a.stays.items ≡ c.len-count.result = omega (arith, c.len-count.ensures, a.stays.ok.0) in
    let hidden = ap (λ (n : ℕ). p (stay_now c.args.host es a.clock (unwrap_or c.args.until a.last) (stay_at a.stays.items (n - place - 1)))) count ∙ sym c.is_shown_at.ensures ∙ c.if-is_shown_at.false in
    c.loop-place.invariant ∙ passed_over p c.args.host es a c.args.until place c.requires.track (omega (arith, count, c.loop-place-test.true)) hidden

pub returns-clause-end : goal.returns-clause-end
returns-clause-end c =
    let a = c.args.self.now in
    let count : length a.stays.items ≡ c.len-count.result = omega (arith, c.len-count.ensures, a.stays.ok.0) in
    c.loop-place.invariant
    ∙ none_left (is_shown c.args.choice.now c.args.until) c.args.host (entries_in c.args.entries) a c.args.until c.loop-place.place c.requires.track (omega (arith, count, c.loop-place-test.false))
