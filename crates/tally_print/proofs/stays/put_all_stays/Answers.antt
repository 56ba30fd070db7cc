use Rattle.std.proofs.Common.{◌≡◌, ◌+◌, ◌<◌, ◌∙◌, arith, drop, flat_map, get_or, length, reverse, rules, subst, sym}
use Rattle.std.proofs.lemmas.List.{length-reverse}
use Rattle.tally_sessions.specs.Totals.{limited, stays_of}
use Rattle.tally_print.specs.declared.output.PrintFault.TheVariants.{Memory}
use Rattle.tally_print.specs.inside.Pages.{Fills}
use Rattle.tally_print.proofs.LimitLemmas.{limited_at, limited_in}
use Rattle.tally_print.proofs.PageLemmas.{fills_push, fills_stop, fills_turn, flat_next, flat_rest}
use Rattle.tally_print.proofs.stays.put_all_stays.Goals as goal

pub put_latest_stay-requires-clause-place : goal.put_latest_stay-requires-clause-place
put_latest_stay-requires-clause-place g c =
    let stays = stays_of c.args.host c.args.sessions.now.entries c.args.until in
    let all = reverse stays in
    let end = c.count_within-place-end.ensures all (c.stay_count.ensures c.args.until ∙ sym (length-reverse stays)) in
    let within = limited_in c.args.limit all c.loop-place.place (omega (arith, end, c.loop-place-test.true)) in
    omega (arith, length-reverse stays, within)

pub loop-place-preserved : goal.loop-place-preserved
loop-place-preserved g c =
    let text = g.L.Line.text c.args.line.now in
    let k = c.loop-place.place in
    let stays = stays_of c.args.host c.args.sessions.now.entries c.args.until in
    let all = reverse stays in
    let wanted = limited c.args.limit all in
    let end = c.count_within-place-end.ensures all (c.stay_count.ensures c.args.until ∙ sym (length-reverse stays)) in
    let within : k < length wanted = omega (arith, end, c.loop-place-test.true) in
    let stay = c.put_latest_stay.new.stay in
    let is : stay ≡ get_or wanted k stay = c.put_latest_stay.ensures.value ∙ sym (limited_at c.args.limit all k stay within) in
    subst (Fills _ _ _ _ _) (flat_next c.args.page.now.items text wanted k stay within is)
    (fills_turn (fills_push _ c.loop-place.invariant c.in_ok-push.ensures) c.in_ok-turn_page.ensures.fills)

pub returns-in_err-push : goal.returns-in_err-push
returns-in_err-push g c =
    let text = g.L.Line.text c.args.line.now in
    let k = c.loop-place.place in
    let wanted = limited c.args.limit (reverse (stays_of c.args.host c.args.sessions.now.entries c.args.until)) in
    record { fills = subst (Fills _ _ _ _ _) (flat_rest c.args.page.now.items text wanted k) (fills_stop Memory (search rules) (flat_map text (drop k wanted)) c.loop-place.invariant) }

pub returns-in_err-turn_page : goal.returns-in_err-turn_page
returns-in_err-turn_page g c =
    let text = g.L.Line.text c.args.line.now in
    let k = c.loop-place.place in
    let head = c.args.page.now.items in
    let stays = stays_of c.args.host c.args.sessions.now.entries c.args.until in
    let all = reverse stays in
    let wanted = limited c.args.limit all in
    let end = c.count_within-place-end.ensures all (c.stay_count.ensures c.args.until ∙ sym (length-reverse stays)) in
    let within : k < length wanted = omega (arith, end, c.loop-place-test.true) in
    let stay = c.put_latest_stay.new.stay in
    let is : stay ≡ get_or wanted k stay = c.put_latest_stay.ensures.value ∙ sym (limited_at c.args.limit all k stay within) in
    let turned = subst (Fills _ _ _ _ _) (flat_next head text wanted k stay within is) (fills_turn (fills_push _ c.loop-place.invariant c.in_ok-push.ensures) c.in_err-turn_page.ensures.fills) in
    record { fills = subst (Fills _ _ _ _ _) (flat_rest head text wanted (k + 1)) (fills_stop c.in_err-turn_page.field-0.0 (search rules) (flat_map text (drop (k + 1) wanted)) turned) }
