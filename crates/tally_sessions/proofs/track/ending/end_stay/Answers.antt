use Rattle.std.proofs.Common.{◌≡◌, ◌∙◌, ◌+◌, ◌-ℤ◌, set, cond, ℕ, List, get_or, sym, ap, arith, subst, rules, is_some}
use Rattle.std.proofs.lemmas.Int.{ints, to_z-of_z}
use Rattle.std.proofs.lemmas.List.{get_or_default}
use Rattle.std.specs.Int.{w32}
use Rattle.std.specs.Prelude.{Option, FitsSigned}
use Rattle.tally_records.specs.declared.login.LoginRecord.{LoginRecord}
use Rattle.tally_records.specs.Event.{event_of}
use Rattle.tally_sessions.specs.declared.track.ending.Ending.{Ending}
use Rattle.tally_sessions.specs.declared.track.ending.TrackedStay.{TrackedStay}
use Rattle.tally_sessions.specs.inside.Entries.{entry_at, record_in}
use Rattle.tally_sessions.specs.inside.Numbers.{StandsAt}
use Rattle.tally_sessions.specs.inside.Track as spec
use Rattle.tally_sessions.specs.inside.Track.{counts, stay_at, no_stay, start_of, length_of, sum_of, HasSums}
use Rattle.tally_sessions.proofs.track.EndedSteps.{HasSums-close, ended_sum-le}
use Rattle.tally_sessions.proofs.track.Lengths.{held}
use Rattle.tally_sessions.proofs.track.TrackSteps.{after-closes, none_from}
use Rattle.tally_sessions.proofs.track.ending.end_stay.Goals as goal

pub count-requires-clause-entered : goal.count-requires-clause-entered
count-requires-clause-entered c login =
    let es = c.args.entries.now in
    let t = stay_at c.args.stays.now c.args.i in
    let here = get_or_default c.args.stays.now c.args.i no_stay c.index-stays-i.result c.requires.i_in in
    let first : record_in c.record-start.result ≡ start_of es t = c.record-start.ensures.is ∙ ap (λ (u : TrackedStay). start_of es u) (sym here) in
    let there = (c.requires.sums.entered c.args.i c.requires.i_in).login (ap event_of (sym first) ∙ login) in
    subst (λ (r : LoginRecord). StandsAt c.args.sums.now.users (get_or c.args.stays.now c.args.i c.index-stays-i.result).user r.user) (sym first)
    (subst (λ (u : TrackedStay). StandsAt c.args.sums.now.users u.user (start_of es t).user) here there)

pub count-requires-clause-room : goal.count-requires-clause-room
count-requires-clause-room c who =
    let few = ended_sum-le who c.args.entries.now c.args.stays.now c.requires.sums.fits in
    omega (arith, c.requires.sums.at who, few, c.requires.few)

pub returns-clause-stays : goal.returns-clause-stays
returns-clause-stays c =
    let es = c.args.entries.now in
    let stays = c.args.stays.now in
    let i = c.args.i in
    let t = stay_at stays i in
    let read = get_or stays i c.index-stays-i.result in
    let here : t ≡ read = get_or_default stays i no_stay c.index-stays-i.result c.requires.i_in in
    let again : t ≡ get_or stays i c.index-stays-i-2.result = get_or_default stays i no_stay c.index-stays-i-2.result c.requires.i_in in
    let pending = none_from t.ended (ap (λ (u : TrackedStay). is_some u.ended) here ∙ sym c.is_some.ensures ∙ c.if-is_some.false) in
    let first : record_in c.record-start.result ≡ start_of es t = c.record-start.ensures.is ∙ ap (λ (u : TrackedStay). start_of es u) (sym here) in
    let fits : FitsSigned w32 c.time.result = search rules in
    let by_fits : FitsSigned w32 c.time-2.result = search rules in
    let start = to_z-of_z w32 c.time.result fits ∙ c.time.ensures ∙ ap (λ (r : LoginRecord). r.time) first in
    let time = to_z-of_z w32 c.time-2.result by_fits ∙ c.time-2.ensures ∙ ap (λ (r : LoginRecord). r.time) c.requires.of.is in
    let at = ap (λ (u : TrackedStay). u.clock_at) here in
    let gap : held (held c.args.clock -ℤ held read.clock_at) ≡ c.args.clock -ℤ t.clock_at = omega (arith, ints, c.requires.before.low, c.requires.before.high, c.requires.now.low, c.requires.now.high, at) in
    let is = c.ending_at-ending.ensures.value ∙ (λ j. spec.ending_at (start j) (gap j) (time j) (c.requires.told j)) in
    ap (λ (u : TrackedStay). set stays i (record u { ended = c.of.result })) (sym again)
    ∙ ap (λ (o : Option Ending). set stays i (record t { ended = o })) c.of.ensures
    ∙ ap (set stays i) (after-closes (start_of es t) c.args.clock (entry_at es c.args.stored.at).item t c.ending_at-ending.result pending c.requires.ends is)

pub returns-clause-sums : goal.returns-clause-sums
returns-clause-sums c =
    let es = c.args.entries.now in
    let stays = c.args.stays.now in
    let i = c.args.i in
    let t = stay_at stays i in
    let ending = c.ending_at-ending.result in
    let here : t ≡ get_or stays i c.index-stays-i.result = get_or_default stays i no_stay c.index-stays-i.result c.requires.i_in in
    let again : t ≡ get_or stays i c.index-stays-i-2.result = get_or_default stays i no_stay c.index-stays-i-2.result c.requires.i_in in
    let pending = none_from t.ended (ap (λ (u : TrackedStay). is_some u.ended) here ∙ sym c.is_some.ensures ∙ c.if-is_some.false) in
    let first : record_in c.record-start.result ≡ start_of es t = c.record-start.ensures.is ∙ ap (λ (u : TrackedStay). start_of es u) (sym here) in
    let more = λ (who : Option (List ℕ)). c.count.ensures.sums who
    ∙ ap (λ n. sum_of c.args.sums.now who + cond (counts who (record_in c.record-start.result)) n 0) c.length.ensures
    ∙ ap (λ (r : LoginRecord). sum_of c.args.sums.now who + cond (counts who r) (length_of ending) 0) first in
    subst (λ (u : TrackedStay). HasSums es c.count.new.sums (set stays i (record u { ended = c.of.result }))) again
    (subst (λ (o : Option Ending). HasSums es c.count.new.sums (set stays i (record t { ended = o }))) (sym c.of.ensures)
    (HasSums-close es c.args.sums.now c.count.new.sums stays i ending c.requires.sums c.requires.i_in pending more c.count.ensures.kept c.ending_at-ending.ensures.fits))
