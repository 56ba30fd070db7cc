use Rattle.std.proofs.Common.{◌∙◌, ◌≤ℤ◌, ℤ, None, pos, unwrap_or, arith, rules}
use Rattle.std.proofs.lemmas.Int.{ints, to_z-of_z}
use Rattle.std.proofs.lemmas.List.Sums.{sum_by_more}
use Rattle.std.specs.Int.{w32}
use Rattle.std.specs.Prelude.{FitsSigned}
use Rattle.tally_sessions.specs.Lent.{entries_in}
use Rattle.tally_sessions.specs.inside.Track.{line_at, no_line}
use Rattle.tally_sessions.proofs.track.PendingSums.{pending_at, pending_read}
use Rattle.tally_sessions.proofs.track.StaysNow.{seconds_fit, sum_at_end, sum_within}
use Rattle.tally_sessions.proofs.track.StayCounts.{length-of_host}
use Rattle.tally_sessions.proofs.track.Track.seconds.Goals as goal

pub loop-k-init : goal.loop-k-init
loop-k-init c = omega (arith, c.of-seconds.ensures)

pub overflow_add-seconds : goal.overflow_add-seconds
overflow_add-seconds c =
    let a = c.args.self.now in
    let es = entries_in c.args.entries in
    let fits : FitsSigned w32 c.time_now-time.result = search rules in
    let is = c.time_now-time.ensures in
    let last : unwrap_or c.args.until a.last ≤ℤ pos 2147483647 = omega (arith, ints) in
    let e = line_at a.lines.entries c.loop-k.k in
    let value = pending_read c.args.who.now es a.clock _ (unwrap_or c.args.until a.last) a.stays.items e _ _ c.pending_length-seconds.ensures (to_z-of_z w32 c.time_now-time.result fits ∙ is) c.on_line-i.ensures.value in
    omega (
      arith,
      c.loop-k.invariant,
      value,
      sum_within c.args.who.now c.args.host es a c.args.until c.loop-k.k c.requires.track c.len-k-end.ensures.distinct (omega (arith, c.len-k-end.ensures.len, c.loop-k-test.true)),
      seconds_fit c.args.who.now c.args.host es a c.args.until c.requires.track last,
      length-of_host c.args.host es,
      c.requires.few,
    )

pub loop-k-preserved : goal.loop-k-preserved
loop-k-preserved c =
    let a = c.args.self.now in
    let es = entries_in c.args.entries in
    let time : ℤ = unwrap_or c.args.until a.last in
    let e = line_at a.lines.entries c.loop-k.k in
    let value = pending_read c.args.who.now es a.clock _ time a.stays.items e _ _ c.pending_length-seconds.ensures (to_z-of_z w32 c.time_now-time.result (search rules) ∙ c.time_now-time.ensures) c.on_line-i.ensures.value in
    omega (arith, c.loop-k.invariant, value, sum_by_more (pending_at c.args.who.now es a.clock time a.stays.items) a.lines.entries c.loop-k.k no_line (omega (arith, c.len-k-end.ensures.len, c.loop-k-test.true)))

pub returns-clause-value : goal.returns-clause-value
returns-clause-value c =
    c.loop-k.invariant
    ∙ sum_at_end c.args.who.now c.args.host (entries_in c.args.entries) c.args.self.now c.args.until c.loop-k.k c.requires.track c.len-k-end.ensures.distinct (omega (arith, c.len-k-end.ensures.len))

pub returns-clause-fits : goal.returns-clause-fits
returns-clause-fits c =
    let a = c.args.self.now in
    let fits : FitsSigned w32 c.time_now-time.result = search rules in
    let is = c.time_now-time.ensures in
    let last : unwrap_or c.args.until a.last ≤ℤ pos 2147483647 = omega (arith, ints) in
    omega (arith, returns-clause-value c, seconds_fit c.args.who.now c.args.host (entries_in c.args.entries) a c.args.until c.requires.track last)

pub returns-clause-all_fit : goal.returns-clause-all_fit
returns-clause-all_fit c =
    let a = c.args.self.now in
    let fits : FitsSigned w32 c.time_now-time.result = search rules in
    let is = c.time_now-time.ensures in
    let last : unwrap_or c.args.until a.last ≤ℤ pos 2147483647 = omega (arith, ints) in
    seconds_fit None c.args.host (entries_in c.args.entries) a c.args.until c.requires.track last
