use Rattle.std.proofs.Common.{◌≡◌, ◌+◌, ◌<◌, ◌≤◌, ◌++◌, ◌∷◌, ◌∙◌, ap, arith, drop, flat_map, get_or, length, rules, subst, sym}
use Rattle.std.proofs.lemmas.List.{take_all}
use Rattle.tally_attempts.specs.Attempts.{attempts_before, attempts_of, latest_attempts}
use Rattle.tally_sessions.specs.Lent.{entries_in}
use Rattle.tally_sessions.specs.Totals.{limited}
use Rattle.tally_print.specs.declared.output.PrintFault.TheVariants.{Memory}
use Rattle.tally_print.specs.inside.Pages.{Fills}
use Rattle.tally_print.proofs.AttemptLemmas.{attempts_fewer}
use Rattle.tally_print.proofs.LimitLemmas.{limited_at, limited_fewer, limited_more, limited_of_few, next_at, next_rest, next_within, no_more}
use Rattle.tally_print.proofs.PageLemmas.{fills_push, fills_stop, fills_turn, flat_next, flat_rest}
use Rattle.tally_print.proofs.all_attempts.put_attempts.Goals as goal

pub loop-shown-preserved : goal.loop-shown-preserved
loop-shown-preserved g c =
    let text = g.L.Line.text c.args.line.now in
    let k = c.loop-shown._shown in
    let stored = entries_in c.args.entries in
    let all = attempts_of c.args.host c.args.choice.now stored in
    let wanted = limited c.args.limit all in
    let below : k < length (limited c.args.limit stored) = omega (arith, c.most_shown-shown-end.ensures, c.loop-shown-test.true) in
    let attempt = c.put_latest_before.new.row in
    let next : drop k all ≡ attempt ∷ attempts_before c.args.host c.args.choice.now c.in-Some.place stored = c.loop-shown.invariant.1 ∙ c.in-Some.ensures.some in
    let within : k < length wanted = limited_more c.args.limit stored all k below (next_within all k _ _ next) in
    let is : attempt ≡ get_or wanted k attempt = sym (next_at all k _ _ next attempt) ∙ sym (limited_at c.args.limit all k attempt within) in (
      subst (Fills _ _ _ _ _) (flat_next c.args.page.now.items text wanted k attempt within is)
          (fills_turn (fills_push _ c.loop-shown.invariant.0 c.in_ok-push.ensures) c.in_ok-turn_page.ensures.fills),
      next_rest all k _ _ next,
    )

pub returns-in_default : goal.returns-in_default
returns-in_default g c =
    let text = g.L.Line.text c.args.line.now in
    let head = c.args.page.now.items in
    let k = c.loop-shown._shown in
    let stored = entries_in c.args.entries in
    let all = attempts_of c.args.host c.args.choice.now stored in
    let wanted = limited c.args.limit all in
    let few : length wanted ≤ k = limited_of_few c.args.limit all k (no_more all k (c.loop-shown.invariant.1 ∙ c.in_default.ensures.none)) in
    record { fills = subst (Fills _ _ _ _ _) (ap (λ rows. head ++ flat_map text rows) (take_all k wanted few)) c.loop-shown.invariant.0 }

pub returns-in_err-push : goal.returns-in_err-push
returns-in_err-push g c =
    let text = g.L.Line.text c.args.line.now in
    let k = c.loop-shown._shown in
    let wanted = latest_attempts c.args.host c.args.limit c.args.choice.now (entries_in c.args.entries) in
    record { fills = subst (Fills _ _ _ _ _) (flat_rest c.args.page.now.items text wanted k) (fills_stop Memory (search rules) (flat_map text (drop k wanted)) c.loop-shown.invariant.0) }

pub returns-in_err-turn_page : goal.returns-in_err-turn_page
returns-in_err-turn_page g c =
    let text = g.L.Line.text c.args.line.now in
    let head = c.args.page.now.items in
    let k = c.loop-shown._shown in
    let stored = entries_in c.args.entries in
    let all = attempts_of c.args.host c.args.choice.now stored in
    let wanted = limited c.args.limit all in
    let below : k < length (limited c.args.limit stored) = omega (arith, c.most_shown-shown-end.ensures, c.loop-shown-test.true) in
    let attempt = c.put_latest_before.new.row in
    let next : drop k all ≡ attempt ∷ attempts_before c.args.host c.args.choice.now c.in-Some.place stored = c.loop-shown.invariant.1 ∙ c.in-Some.ensures.some in
    let within : k < length wanted = limited_more c.args.limit stored all k below (next_within all k _ _ next) in
    let is : attempt ≡ get_or wanted k attempt = sym (next_at all k _ _ next attempt) ∙ sym (limited_at c.args.limit all k attempt within) in
    let turned = subst (Fills _ _ _ _ _) (flat_next head text wanted k attempt within is) (fills_turn (fills_push _ c.loop-shown.invariant.0 c.in_ok-push.ensures) c.in_err-turn_page.ensures.fills) in
    record { fills = subst (Fills _ _ _ _ _) (flat_rest head text wanted (k + 1)) (fills_stop c.in_err-turn_page.field-0.0 (search rules) (flat_map text (drop (k + 1) wanted)) turned) }

pub returns : goal.returns
returns g c =
    let text = g.L.Line.text c.args.line.now in
    let head = c.args.page.now.items in
    let k = c.loop-shown._shown in
    let stored = entries_in c.args.entries in
    let all = attempts_of c.args.host c.args.choice.now stored in
    let wanted = limited c.args.limit all in
    let few : length wanted ≤ k = omega (arith, c.most_shown-shown-end.ensures, c.loop-shown-test.false, limited_fewer c.args.limit stored all (attempts_fewer c.args.host c.args.choice.now stored)) in
    record { fills = subst (Fills _ _ _ _ _) (ap (λ rows. head ++ flat_map text rows) (take_all k wanted few)) c.loop-shown.invariant.0 }
