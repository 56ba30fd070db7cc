use Rattle.std.proofs.Common.{◌≡◌, ◌∙◌, ◌<◌, true, false, ap, sym, length, unwrap_or, arith, rules, to_z, of_z}
use Rattle.std.proofs.lemmas.Int.{to_z-of_z}
use Rattle.std.proofs.lemmas.List.{get_or_default}
use Rattle.std.specs.Int.{w32}
use Rattle.std.specs.Prelude.{◌&&◌}
use Rattle.tally_sessions.specs.Lent.{entries_in}
use Rattle.tally_sessions.specs.declared.track.ending.TrackedStay.{TrackedStay}
use Rattle.tally_sessions.specs.inside.Chosen.{has_part_of, is_shown_by}
use Rattle.tally_sessions.specs.inside.Track.{ending_now, no_stay, start_of, stay_at}
use Rattle.tally_sessions.proofs.track.ShownSteps.{shown_is}
use Rattle.tally_sessions.proofs.track.Track.is_shown_at.Goals as goal

pub returns-then-is_named : goal.returns-then-is_named
returns-then-is_named c =
    let es = entries_in c.args.entries in
    let a = c.args.self.now in
    let choice = c.args.choice.now in
    let within : c.args.i < length a.stays.items = omega (arith, c.requires.i_in, a.stays.ok.0) in
    let t = stay_at a.stays.items c.args.i in
    let stay : c.index-stay.result.now ≡ t = c.index-stay.ensures ∙ get_or_default a.stays.items c.args.i c.index-stay.result.now no_stay within in
    let e = ending_now es a.clock (unwrap_or c.args.until a.last) t in
    let time : to_z w32 (of_z w32 c.time_now.result) ≡ unwrap_or c.args.until a.last = to_z-of_z w32 c.time_now.result (search rules) ∙ c.time_now.ensures in
    let named : is_shown_by choice (start_of es t) ≡ true = ap (λ (u : TrackedStay). is_shown_by choice (start_of es u)) (sym stay) ∙ sym c.is_named.ensures ∙ c.if-is_named.true in
    c.has_part_of.ensures
    ∙ ap (has_part_of choice c.args.until) (c.ending.ensures.value ∙ (λ i. ending_now es a.clock (time i) (stay i)))
    ∙ sym (λ i. named i && has_part_of choice c.args.until e)
    ∙ sym (shown_is choice c.args.until c.args.host (start_of es t) e)

pub returns-else-is_named : goal.returns-else-is_named
returns-else-is_named c =
    let es = entries_in c.args.entries in
    let a = c.args.self.now in
    let choice = c.args.choice.now in
    let within : c.args.i < length a.stays.items = omega (arith, c.requires.i_in, a.stays.ok.0) in
    let t = stay_at a.stays.items c.args.i in
    let stay : c.index-stay.result.now ≡ t = c.index-stay.ensures ∙ get_or_default a.stays.items c.args.i c.index-stay.result.now no_stay within in
    let e = ending_now es a.clock (unwrap_or c.args.until a.last) t in
    let unnamed : is_shown_by choice (start_of es t) ≡ false = ap (λ (u : TrackedStay). is_shown_by choice (start_of es u)) (sym stay) ∙ sym c.is_named.ensures ∙ c.if-is_named.false in
    c.if-is_named.false
    ∙ sym (λ i. unnamed i && has_part_of choice c.args.until e)
    ∙ sym (shown_is choice c.args.until c.args.host (start_of es t) e)
