use Rattle.std.proofs.Common.{◌∙◌, ◌+◌, ◌<◌, ◌≤◌, length, ap, sym, arith}
use Rattle.std.proofs.lemmas.List.{take_all}
use Rattle.tally_sessions.specs.Lent.{entries_in}
use Rattle.tally_sessions.specs.Sums.{seconds_in, sessions_among}
use Rattle.tally_sessions.specs.Totals.{stays_of}
use Rattle.tally_sessions.proofs.track.SessionParts.{seconds_more}
use Rattle.tally_sessions.proofs.track.StaysNow.{count_now, same_count}
use Rattle.tally_sessions.proofs.track.Track.walked_seconds.Goals as goal

pub loop-i-preserved : goal.loop-i-preserved
loop-i-preserved c =
    let es = entries_in c.args.entries in
    let a = c.args.self.now in
    let within : c.loop-i.i < length a.stays.items = omega (arith, c.len-i-end.ensures, c.loop-i-test.true, a.stays.ok.0) in record {
      told = (λ j. c.loop-i.invariant.told j + c.seconds_at-total.ensures.value j) ∙ sym (seconds_more c.args.choice.now c.args.host es a c.args.until c.loop-i.i c.requires.track within);
      fits = omega (arith, c.loop-i.invariant.fits, c.seconds_at-total.ensures.fits);
    }

pub returns-clause-value : goal.returns-clause-value
returns-clause-value c =
    let es = entries_in c.args.entries in
    let a = c.args.self.now in
    let all : length (stays_of c.args.host es c.args.until) ≤ c.loop-i.i = omega (arith, same_count c.args.host es a c.args.until c.requires.track, c.len-i-end.ensures, c.loop-i-test.false, a.stays.ok.0) in
    c.loop-i.invariant.told ∙ ap (λ ss. seconds_in (sessions_among c.args.choice.now ss)) (take_all c.loop-i.i (stays_of c.args.host es c.args.until) all)

pub returns-clause-fits : goal.returns-clause-fits
returns-clause-fits c =
    omega (arith, c.loop-i.invariant.fits, count_now c.args.host (entries_in c.args.entries) c.args.self.now c.requires.track, c.len-i-end.ensures, c.loop-i.auto.i-end, c.args.self.now.stays.ok.0)
