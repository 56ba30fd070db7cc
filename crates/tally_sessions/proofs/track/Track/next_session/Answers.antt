use Rattle.std.proofs.Common.{◌∙◌, ◌<◌, ◌≤◌, ◌∷◌, [], ap, length, arith}
use Rattle.std.proofs.lemmas.List.{drop_all}
use Rattle.tally_sessions.specs.Lent.{entries_in}
use Rattle.tally_sessions.specs.Sums.{sessions_among}
use Rattle.tally_sessions.specs.Totals.{stays_of}
use Rattle.tally_sessions.proofs.track.SessionParts.{sessions_from}
use Rattle.tally_sessions.proofs.track.StaysNow.{same_count}
use Rattle.tally_sessions.proofs.track.Track.next_session.Goals as goal

pub returns-in-Some-clause-next : goal.returns-in-Some-clause-next
returns-in-Some-clause-next c =
    let a = c.args.self.now in
    let within : c.loop-stay.stay < length a.stays.items = omega (arith, c.loop-stay-test.true, c.len.ensures, a.stays.ok.0) in
    c.loop-stay.invariant
    ∙ sessions_from c.args.choice.now c.args.host (entries_in c.args.entries) a c.args.until c.loop-stay.stay c.requires.track within (c.in-Some.session ∷ []) c.in-Some.ensures.session

pub loop-stay-preserved : goal.loop-stay-preserved
loop-stay-preserved c =
    let a = c.args.self.now in
    let within : c.loop-stay.stay < length a.stays.items = omega (arith, c.loop-stay-test.true, c.len.ensures, a.stays.ok.0) in
    c.loop-stay.invariant
    ∙ sessions_from c.args.choice.now c.args.host (entries_in c.args.entries) a c.args.until c.loop-stay.stay c.requires.track within [] c.in_default.ensures.none

pub returns-clause-end : goal.returns-clause-end
returns-clause-end c =
    let es = entries_in c.args.entries in
    let a = c.args.self.now in
    let stays = stays_of c.args.host es c.args.until in
    let all : length stays ≤ c.loop-stay.stay = omega (arith, same_count c.args.host es a c.args.until c.requires.track, c.len.ensures, c.loop-stay-test.false, a.stays.ok.0) in
    c.loop-stay.invariant ∙ ap (sessions_among c.args.choice.now) (drop_all c.loop-stay.stay stays all)
