use Rattle.std.proofs.Common.{◌≡◌, ◌+◌, ◌<◌, ◌≤◌, ◌++◌, ◌∷◌, ◌∙◌, ap, arith, drop, filter, flat_map, get_or, length, reverse, rules, subst, sym}
use Rattle.std.proofs.lemmas.List.{length-reverse, take_all}
use Rattle.tally_sessions.specs.Choice.{is_shown}
use Rattle.tally_sessions.specs.Totals.{limited, stays_of}
use Rattle.tally_print.specs.declared.output.PrintFault.TheVariants.{Memory}
use Rattle.tally_print.specs.inside.Pages.{Fills}
use Rattle.tally_print.proofs.LimitLemmas.{limited_at, limited_fewer, limited_more, limited_of_few, next_at, next_rest, next_within, no_more}
use Rattle.tally_print.proofs.PageLemmas.{fills_push, fills_stop, fills_turn, flat_next, flat_rest}
use Rattle.tally_print.proofs.StayLemmas.{chosen_fewer, chosen_latest}
use Rattle.tally_print.proofs.stays.put_chosen_stays.Goals as goal

pub loop-shown-preserved : goal.loop-shown-preserved
loop-shown-preserved g c =
    let text = g.L.Line.text c.args.line.now in
    let k = c.loop-shown._shown in
    let p = is_shown c.args.choice.now c.args.until in
    let stays = stays_of c.args.host c.args.sessions.now.entries c.args.until in
    let all = reverse stays in
    let chosen = filter p all in
    let wanted = limited c.args.limit chosen in
    let end = c.count_within-shown-end.ensures all (c.stay_count.ensures c.args.until ∙ sym (length-reverse stays)) in
    let below : k < length (limited c.args.limit all) = omega (arith, end, c.loop-shown-test.true) in
    let stay = c.put_latest_stay.new.stay in
    let next : drop k chosen ≡ get_or all c.in-Some.place stay ∷ filter p (drop (c.in-Some.place + 1) all) = c.loop-shown.invariant.1 ∙ c.in-Some.ensures.next stay in
    let within : k < length wanted = limited_more c.args.limit all chosen k below (next_within chosen k _ _ next) in
    let is : stay ≡ get_or wanted k stay = c.put_latest_stay.ensures.value ∙ sym (next_at chosen k _ _ next stay) ∙ sym (limited_at c.args.limit chosen k stay within) in (
      subst (Fills _ _ _ _ _) (flat_next c.args.page.now.items text wanted k stay within is)
          (fills_turn (fills_push _ c.loop-shown.invariant.0 c.in_ok-push.ensures) c.in_ok-turn_page.ensures.fills),
      next_rest chosen k _ _ next,
    )

pub returns-in_default : goal.returns-in_default
returns-in_default g c =
    let text = g.L.Line.text c.args.line.now in
    let head = c.args.page.now.items in
    let k = c.loop-shown._shown in
    let p = is_shown c.args.choice.now c.args.until in
    let stays = stays_of c.args.host c.args.sessions.now.entries c.args.until in
    let chosen = filter p (reverse stays) in
    let wanted = limited c.args.limit chosen in
    let few : length wanted ≤ k = limited_of_few c.args.limit chosen k (no_more chosen k (c.loop-shown.invariant.1 ∙ c.in_default.ensures.end)) in
    record { fills = subst (Fills _ _ _ _ _) (ap (λ rows. head ++ flat_map text rows) (take_all k wanted few) ∙ ap (λ rows. head ++ flat_map text (limited c.args.limit rows)) (chosen_latest p stays)) c.loop-shown.invariant.0 }

pub returns-in_err-push : goal.returns-in_err-push
returns-in_err-push g c =
    let text = g.L.Line.text c.args.line.now in
    let head = c.args.page.now.items in
    let k = c.loop-shown._shown in
    let p = is_shown c.args.choice.now c.args.until in
    let stays = stays_of c.args.host c.args.sessions.now.entries c.args.until in
    let wanted = limited c.args.limit (filter p (reverse stays)) in
    record { fills = subst (Fills _ _ _ _ _) (flat_rest head text wanted k ∙ ap (λ rows. head ++ flat_map text (limited c.args.limit rows)) (chosen_latest p stays)) (fills_stop Memory (search rules) (flat_map text (drop k wanted)) c.loop-shown.invariant.0) }

pub returns-in_err-turn_page : goal.returns-in_err-turn_page
returns-in_err-turn_page g c =
    let text = g.L.Line.text c.args.line.now in
    let head = c.args.page.now.items in
    let k = c.loop-shown._shown in
    let p = is_shown c.args.choice.now c.args.until in
    let stays = stays_of c.args.host c.args.sessions.now.entries c.args.until in
    let all = reverse stays in
    let chosen = filter p all in
    let wanted = limited c.args.limit chosen in
    let end = c.count_within-shown-end.ensures all (c.stay_count.ensures c.args.until ∙ sym (length-reverse stays)) in
    let below : k < length (limited c.args.limit all) = omega (arith, end, c.loop-shown-test.true) in
    let stay = c.put_latest_stay.new.stay in
    let next : drop k chosen ≡ get_or all c.in-Some.place stay ∷ filter p (drop (c.in-Some.place + 1) all) = c.loop-shown.invariant.1 ∙ c.in-Some.ensures.next stay in
    let within : k < length wanted = limited_more c.args.limit all chosen k below (next_within chosen k _ _ next) in
    let is : stay ≡ get_or wanted k stay = c.put_latest_stay.ensures.value ∙ sym (next_at chosen k _ _ next stay) ∙ sym (limited_at c.args.limit chosen k stay within) in
    let turned = subst (Fills _ _ _ _ _) (flat_next head text wanted k stay within is) (fills_turn (fills_push _ c.loop-shown.invariant.0 c.in_ok-push.ensures) c.in_err-turn_page.ensures.fills) in
    record { fills = subst (Fills _ _ _ _ _) (flat_rest head text wanted (k + 1) ∙ ap (λ rows. head ++ flat_map text (limited c.args.limit rows)) (chosen_latest p stays)) (fills_stop c.in_err-turn_page.field-0.0 (search rules) (flat_map text (drop (k + 1) wanted)) turned) }

pub returns : goal.returns
returns g c =
    let text = g.L.Line.text c.args.line.now in
    let head = c.args.page.now.items in
    let k = c.loop-shown._shown in
    let p = is_shown c.args.choice.now c.args.until in
    let stays = stays_of c.args.host c.args.sessions.now.entries c.args.until in
    let all = reverse stays in
    let chosen = filter p all in
    let wanted = limited c.args.limit chosen in
    let end = c.count_within-shown-end.ensures all (c.stay_count.ensures c.args.until ∙ sym (length-reverse stays)) in
    let few : length wanted ≤ k = omega (arith, end, c.loop-shown-test.false, limited_fewer c.args.limit all chosen (chosen_fewer p all)) in
    record { fills = subst (Fills _ _ _ _ _) (ap (λ rows. head ++ flat_map text rows) (take_all k wanted few) ∙ ap (λ rows. head ++ flat_map text (limited c.args.limit rows)) (chosen_latest p stays)) c.loop-shown.invariant.0 }
