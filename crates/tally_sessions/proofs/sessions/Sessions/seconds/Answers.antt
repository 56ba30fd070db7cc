use Rattle.std.proofs.Common.{◌+◌, ◌∙◌, ℕ, sym, ap, arith, List, length, map, sum}
use Rattle.std.proofs.lemmas.List.FromFn.{sum_by-map-range_with_len_more}
use Rattle.std.specs.List.{range_with_len}
use Rattle.tally_sessions.specs.Lent.{entries_in}
use Rattle.tally_sessions.specs.inside.Totals.{seconds_of, seconds_of_hosts}
use Rattle.tally_sessions.specs.Totals.{stays_of}
use Rattle.tally_sessions.specs.declared.entry.Entry.{Entry}
use Rattle.tally_sessions.proofs.sessions.HostCounts.{count_below-more, count_below-le}
use Rattle.tally_sessions.proofs.track.StayCounts.{length-of_host}
use Rattle.tally_sessions.proofs.sessions.EveryHost.{every_host_is}
use Rattle.tally_sessions.proofs.sessions.Staging.{track_of}
use Rattle.tally_sessions.proofs.sessions.Sessions.seconds.Goals as goal

pub seconds-total-requires-clause-track : goal.seconds-total-requires-clause-track
seconds-total-requires-clause-track c =
    track_of c.self.inside c.args.self.now (entries_in c.entries-entries.result) c.loop-host.host c.index.result.now c.self.invariant c.self.view_is c.entries-entries.ensures.value (omega arith) c.index.ensures

pub loop-host-preserved : goal.loop-host-preserved
loop-host-preserved c =
    let more = sum_by-map-range_with_len_more (λ (x : ℕ). x) (λ (host : ℕ). seconds_of c.args.wanted.now (stays_of host (entries_in c.entries-entries.result) c.args.until)) 0 c.loop-host.host c.loop-host.host (omega arith) in record {
      told = ap (λ (n : ℕ). n + c.seconds-total.result) c.loop-host.invariant.told ∙ ap (λ (n : ℕ). sum (map (λ (host : ℕ). seconds_of c.args.wanted.now (stays_of host (entries_in c.entries-entries.result) c.args.until)) (range_with_len 0 c.loop-host.host)) + n) c.seconds-total.ensures.value ∙ sym more;
      fits = omega (arith, c.seconds-total.ensures.fits, count_below-more c.loop-host.host (entries_in c.entries-entries.result));
    }

pub overflow_add-total : goal.overflow_add-total
overflow_add-total c =
    let es : List Entry = (entries_in c.entries-entries.result) in
    omega (arith, c.loop-host.invariant.fits, c.seconds-total.ensures.fits, c.entries-entries.ensures.few, count_below-le c.loop-host.host es, length-of_host c.loop-host.host es)

pub returns-clause-each : goal.returns-clause-each
returns-clause-each c =
    let es : List Entry = entries_in c.entries-entries.result in
    omega (arith, c.loop-host.invariant.fits, count_below-le c.loop-host.host es, ap (λ (xs : List Entry). length xs) c.entries-entries.ensures.value)

pub returns-clause-fits : goal.returns-clause-fits
returns-clause-fits c =
    omega (arith, c.loop-host.invariant.fits, c.entries-entries.ensures.few, count_below-le c.loop-host.host (entries_in c.entries-entries.result))

pub returns-clause-value : goal.returns-clause-value
returns-clause-value c =
    let all = every_host_is c.loop-host.host (omega arith) in
    c.loop-host.invariant.told
    ∙ ap (λ (hosts : List ℕ). sum (map (λ (host : ℕ). seconds_of c.args.wanted.now (stays_of host (entries_in c.entries-entries.result) c.args.until)) hosts)) all
    ∙ ap (λ (es : List Entry). seconds_of_hosts c.args.wanted.now es c.args.until) c.entries-entries.ensures.value
