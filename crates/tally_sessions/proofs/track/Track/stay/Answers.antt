use Rattle.std.proofs.Common.{◌<◌, ◌∙◌, arith, length, subst, sym}
use Rattle.std.proofs.lemmas.List.{get_or_default}
use Rattle.tally_sessions.specs.declared.track.ending.TrackedStay.{TrackedStay}
use Rattle.tally_sessions.specs.inside.Track.{IsWithin, no_stay}
use Rattle.tally_sessions.proofs.track.TrackedAdvance.{IsWithin-all}
use Rattle.tally_sessions.proofs.track.Track.stay.Goals as goal

pub ending-ending-requires-clause-before : goal.ending-ending-requires-clause-before
ending-ending-requires-clause-before c =
    let stays = c.args.self.now.stays.items in
    let within : c.args.i < length stays = omega (arith, c.requires.i_in, c.args.self.now.stays.ok.0) in
    let is = get_or_default stays c.args.i no_stay c.index-stay.result.now within ∙ sym c.index-stay.ensures in
    subst (λ (s : TrackedStay). IsWithin 16777216 s.clock_at) is (IsWithin-all _ 16777216 _ c.requires.few (c.requires.track.tracked.at c.args.i within).moved)
