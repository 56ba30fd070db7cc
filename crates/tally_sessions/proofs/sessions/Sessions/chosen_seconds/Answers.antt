use Rattle.std.proofs.Common.{◌+◌, ◌∙◌, ℕ, sym, ap, arith, List, length, map, refl, sum}
use Rattle.std.proofs.lemmas.List.FromFn.{sum_by-map-range_with_len_more}
use Rattle.std.specs.List.{range_with_len}
use Rattle.tally_sessions.specs.Lent.{entries_in}
use Rattle.tally_sessions.specs.Sums.{seconds_in, sessions_among, sessions_of}
use Rattle.tally_sessions.specs.Totals.{stays_of}
use Rattle.tally_sessions.specs.declared.entry.Entry.{Entry}
use Rattle.tally_sessions.proofs.sessions.HostCounts.{count_below-more, count_below-le}
use Rattle.tally_sessions.proofs.sums.HostSums.{seconds_joined, sum_of_hosts}
use Rattle.tally_sessions.proofs.track.StayCounts.{length-of_host}
use Rattle.tally_sessions.proofs.sessions.EveryHost.{every_host_is}
use Rattle.tally_sessions.proofs.sessions.Staging.{track_of}
use Rattle.tally_sessions.proofs.sessions.Sessions.chosen_seconds.Goals as goal

pub chosen_seconds-total-requires-clause-track : goal.chosen_seconds-total-requires-clause-track
chosen_seconds-total-requires-clause-track c =
    track_of c.self.inside c.args.self.now (entries_in c.entries-entries.result) c.loop-host.host c.index.result.now c.self.invariant c.self.view_is c.entries-entries.ensures.value (omega arith) c.index.ensures

pub loop-host-preserved : goal.loop-host-preserved
loop-host-preserved c =
    let es : List Entry = entries_in c.entries-entries.result in
    let of : ℕ → ℕ = λ host. seconds_in (sessions_among c.args.choice.now (stays_of host es c.args.until)) in
    let more = sum_by-map-range_with_len_more (λ (x : ℕ). x) of 0 c.loop-host.host c.loop-host.host (omega arith) in record {
      told = ap (λ (n : ℕ). n + c.chosen_seconds-total.result) c.loop-host.invariant.told ∙ ap (λ (n : ℕ). sum (map of (range_with_len 0 c.loop-host.host)) + n) c.chosen_seconds-total.ensures.value ∙ sym more;
      fits = omega (arith, c.chosen_seconds-total.ensures.fits, count_below-more c.loop-host.host es);
    }

pub overflow_add-total : goal.overflow_add-total
overflow_add-total c =
    let es : List Entry = entries_in c.entries-entries.result in
    omega (arith, c.loop-host.invariant.fits, c.chosen_seconds-total.ensures.fits, c.entries-entries.ensures.few, count_below-le c.loop-host.host es, length-of_host c.loop-host.host es)

pub returns-clause-each : goal.returns-clause-each
returns-clause-each c =
    let es : List Entry = entries_in c.entries-entries.result in
    omega (arith, c.loop-host.invariant.fits, count_below-le c.loop-host.host es, ap (λ (xs : List Entry). length xs) c.entries-entries.ensures.value)

pub returns-clause-fits : goal.returns-clause-fits
returns-clause-fits c =
    omega (arith, c.loop-host.invariant.fits, c.entries-entries.ensures.few, count_below-le c.loop-host.host (entries_in c.entries-entries.result))

pub returns-clause-value : goal.returns-clause-value
returns-clause-value c =
    let es : List Entry = entries_in c.entries-entries.result in
    c.loop-host.invariant.told
    ∙ ap (λ (hosts : List ℕ). sum (map (λ (host : ℕ). seconds_in (sessions_among c.args.choice.now (stays_of host es c.args.until))) hosts)) (every_host_is c.loop-host.host (omega arith))
    ∙ sum_of_hosts c.args.choice.now es c.args.until seconds_in refl seconds_joined
    ∙ ap (λ (xs : List Entry). seconds_in (sessions_of c.args.choice.now xs c.args.until)) c.entries-entries.ensures.value
