use Rattle.std.proofs.Common.{◌≡◌, ◌∙◌, ◌+◌, ◌-ℤ◌, set, cond, ℕ, List, get_or, sym, ap, arith, subst, rules, is_some}
use Rattle.std.proofs.lemmas.Int.{ints, to_z-of_z}
use Rattle.std.proofs.lemmas.List.{get_or_default}
use Rattle.std.proofs.lemmas.Map.Entries.{length-keys_of}
use Rattle.std.proofs.lemmas.Option.{slice_get_within}
use Rattle.std.specs.Int.{w32}
use Rattle.std.specs.Map.{keys_of}
use Rattle.std.specs.Prelude.{Option, FitsSigned}
use Rattle.tally_sessions.specs.declared.track.ending.Ending.{Ending}
use Rattle.tally_sessions.specs.declared.track.ending.TrackedStay.{TrackedStay}
use Rattle.tally_sessions.specs.inside.Entries.{entry_at}
use Rattle.tally_sessions.specs.inside.Numbers.{StandsAt}
use Rattle.tally_sessions.specs.inside.Track as spec
use Rattle.tally_sessions.specs.inside.Track.{stay_at, no_stay, start_of, length_of, sum_of, HasSums}
use Rattle.tally_sessions.proofs.track.EndedSteps.{HasSums-close, counts_alike, ended_sum-le}
use Rattle.tally_sessions.proofs.track.Lengths.{held}
use Rattle.tally_sessions.proofs.track.TrackSteps.{after-closes, none_from}
use Rattle.tally_sessions.proofs.track.ending.end_login.Goals as goal

pub add-requires-clause-entered : goal.add-requires-clause-entered
add-requires-clause-entered c =
    let here = get_or_default c.args.stays.now c.args.i no_stay c.index-stays-i.result c.requires.i_in in
    let there = (c.requires.sums.entered c.args.i c.requires.i_in).login c.requires.login in
    let within = slice_get_within (keys_of c.args.sums.now.users.entries) _ _ there in
    omega (arith, within, length-keys_of c.args.sums.now.users.entries, ap (λ (t : TrackedStay). t.user) here)

pub add-requires-clause-fits : goal.add-requires-clause-fits
add-requires-clause-fits c who =
    let few = ended_sum-le who c.args.entries.now c.args.stays.now c.requires.sums.fits in
    omega (arith, c.requires.sums.at who, few, c.requires.few)

pub returns-clause-stays : goal.returns-clause-stays
returns-clause-stays c =
    let es = c.args.entries.now in
    let stays = c.args.stays.now in
    let i = c.args.i in
    let t = stay_at stays i in
    let read = get_or stays i c.index-stays-i.result in
    let here : t ≡ read = get_or_default stays i no_stay c.index-stays-i.result c.requires.i_in in
    let again : t ≡ get_or stays i c.index-stays-i-2.result = get_or_default stays i no_stay c.index-stays-i-2.result c.requires.i_in in
    let pending = none_from t.ended (ap (λ (u : TrackedStay). is_some u.ended) here ∙ sym c.is_some.ensures ∙ c.if-is_some.false) in
    let fits : FitsSigned w32 read.start = search rules in
    let start = to_z-of_z w32 read.start fits ∙ ap (λ (u : TrackedStay). u.start) (sym here) ∙ c.requires.started in
    let time = to_z-of_z w32 c.args.time c.ranges.time ∙ c.requires.timed in
    let at = ap (λ (u : TrackedStay). u.clock_at) here in
    let gap : held (held c.args.clock -ℤ held read.clock_at) ≡ c.args.clock -ℤ t.clock_at = omega (arith, ints, c.requires.before.low, c.requires.before.high, c.requires.now.low, c.requires.now.high, at) in
    let is = c.ending_at-ending.ensures.value ∙ (λ j. spec.ending_at (start j) (gap j) (time j) (c.requires.told j)) in
    ap (λ (u : TrackedStay). set stays i (record u { ended = c.of.result })) (sym again)
    ∙ ap (λ (o : Option Ending). set stays i (record t { ended = o })) c.of.ensures
    ∙ ap (set stays i) (after-closes (start_of es t) c.args.clock (entry_at es c.args.stored.at).item t c.ending_at-ending.result pending c.requires.ends is)

pub returns-clause-sums : goal.returns-clause-sums
returns-clause-sums c =
    let es = c.args.entries.now in
    let stays = c.args.stays.now in
    let i = c.args.i in
    let t = stay_at stays i in
    let read = get_or stays i c.index-stays-i.result in
    let ending = c.ending_at-ending.result in
    let here : t ≡ read = get_or_default stays i no_stay c.index-stays-i.result c.requires.i_in in
    let again : t ≡ get_or stays i c.index-stays-i-2.result = get_or_default stays i no_stay c.index-stays-i-2.result c.requires.i_in in
    let pending = none_from t.ended (ap (λ (u : TrackedStay). is_some u.ended) here ∙ sym c.is_some.ensures ∙ c.if-is_some.false) in
    let there = subst (λ (u : TrackedStay). StandsAt c.args.sums.now.users u.user (start_of es t).user) here ((c.requires.sums.entered i c.requires.i_in).login c.requires.login) in
    let more = λ (who : Option (List ℕ)). c.add.ensures.sums (start_of es t).user there who
    ∙ ap (λ n. sum_of c.args.sums.now who + cond (spec.covers who (start_of es t).user) n 0) c.length.ensures
    ∙ ap (λ b. sum_of c.args.sums.now who + cond b (length_of ending) 0) (sym (counts_alike (start_of es t) c.requires.login who)) in
    subst (λ (u : TrackedStay). HasSums es c.add.new.self (set stays i (record u { ended = c.of.result }))) again
    (subst (λ (o : Option Ending). HasSums es c.add.new.self (set stays i (record t { ended = o }))) (sym c.of.ensures)
    (HasSums-close es c.args.sums.now c.add.new.self stays i ending c.requires.sums c.requires.i_in pending more c.add.ensures.kept c.ending_at-ending.ensures.fits))
