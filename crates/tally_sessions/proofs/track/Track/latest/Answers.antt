use Rattle.std.proofs.Common.{filter, ◌≡◌, ◌<◌, All, subst, ℤ, ◌+◌, ◌-◌, ◌++◌, List, map, take, drop, reverse, length, unwrap_or, sym, ap, ◌∙◌, arith, length-append, rules}
use Rattle.std.proofs.lemmas.Int.{to_z-of_z}
use Rattle.std.specs.Int.{w32}
use Rattle.std.specs.Result.{IfOk}
use Rattle.tally_sessions.specs.Choice.{is_shown}
use Rattle.tally_sessions.specs.declared.entry.Stay.{Stay}
use Rattle.tally_sessions.specs.Lent.{entries_in}
use Rattle.tally_sessions.specs.Totals.{stays_of}
use Rattle.tally_sessions.specs.inside.Track.{no_stay, stay_at, stay_now}
use Rattle.tally_sessions.proofs.track.StaysNow.{stays_now, latest_more, latest_all, latest_limit, one_if, one_at_most, All-one_if}
use Rattle.tally_sessions.proofs.track.Track.latest.Goals as goal
use Rattle.tally_sessions.proofs.track.Track.latest.Goals.{then-loop-i-test+else-len-limit, else-loop-i-test}

pub loop-i-preserved : goal.loop-i-preserved
loop-i-preserved c =
    let es = (entries_in c.args.entries) in
    let a = c.args.self.now in
    let f = stay_now c.args.host es a.clock (unwrap_or c.args.until a.last) in
    let all : List Stay = map f a.stays.items in
    let i = c.loop-i.i in
    let place : i - 1 + 1 ≡ i = omega (arith, c.loop-i-test.true) in
    let p = is_shown c.args.choice.now c.args.until in
    let found = c.loop-i.found.items in
    let pushed = c.in_ok-push_shown.ensures in
    let stay = c.stay-stay.ensures.value ∙ ap (λ (z : ℤ). stay_now c.args.host es a.clock z (stay_at a.stays.items (i - 1))) (to_z-of_z w32 c.time_now-time.result (search rules) ∙ c.time_now-time.ensures) in
    let more = latest_more p f a.stays.items (i - 1) no_stay c.stay-stay.result (omega (arith, c.loop-i-test.true, c.loop-i.invariant.within, a.stays.ok.0)) in record {
      within = omega (arith, c.loop-i.invariant.within);
      told = pushed ∙ ap (λ (ss : List Stay). ss ++ one_if p c.stay-stay.result) (c.loop-i.invariant.told ∙ ap (λ k. reverse (filter p (drop k all))) (sym place))
          ∙ ap (λ (s : Stay). reverse (filter p (drop (i - 1 + 1) all)) ++ one_if p s) stay ∙ sym more;
      few = omega (arith, c.push_shown.new.found.ok.0, c.loop-i.found.ok.0, ap length pushed, length-append found (one_if p c.stay-stay.result), one_at_most p c.stay-stay.result, c.if-len-limit.true, c.len.ensures);
      lengths = subst (All (λ (s : Stay). s.length < 4294967296)) (sym pushed) (All-one_if (λ (s : Stay). s.length < 4294967296) p found c.stay-stay.result c.loop-i.invariant.lengths c.stay-stay.ensures.fits);
    }

pub returns-clause-value : goal.returns-clause-value
returns-clause-value c =
    let es = (entries_in c.args.entries) in
    let a = c.args.self.now in
    let all : List Stay = map (stay_now c.args.host es a.clock (unwrap_or c.args.until a.last)) a.stays.items in
    let same = stays_now c.args.host es a c.args.until c.requires.track in
    let p = is_shown c.args.choice.now c.args.until in
    let told : c.loop-i.found.items ≡ take c.args.limit (reverse (filter p (stays_of c.args.host es c.args.until))) =
    elim c.loop-i-test.branch [
      | then-loop-i-test+else-len-limit w ↦
          let full : length c.loop-i.found.items ≡ c.args.limit = omega (arith, c.loop-i.found.ok.0, w.if-len-limit.false, w.len.ensures, c.loop-i.invariant.few) in
          latest_limit p all c.loop-i.found.items c.loop-i.i c.args.limit c.loop-i.invariant.told full ∙ ap (λ ss. take c.args.limit (reverse (filter p ss))) same
      | else-loop-i-test w ↦
          latest_all p all c.loop-i.found.items c.loop-i.i c.args.limit c.loop-i.invariant.told (omega (arith, w.loop-i-test.false)) (omega (arith, c.loop-i.found.ok.0, c.loop-i.invariant.few)) ∙ ap (λ ss. take c.args.limit (reverse (filter p ss))) same
    ] in
    subst (λ ss. IfOk c.from_vec.result (λ found. found ≡ ss)) told c.from_vec.ensures
