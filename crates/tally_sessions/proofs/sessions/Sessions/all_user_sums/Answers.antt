use Rattle.std.proofs.Common.{◌≡◌, ◌∙◌, ◌+◌, ℕ, List, None, Option, Some, length, map, sum, sym, ap, arith}
use Rattle.std.proofs.lemmas.List.FromFn.{sum_by-map-range_with_len_more}
use Rattle.std.specs.Cmp.Lexicographic.{slice_cmp}
use Rattle.std.specs.Ordering.{nat_cmp}
use Rattle.tally_sessions.specs.declared.entry.Entry.{Entry}
use Rattle.tally_sessions.specs.Lent.{entries_in}
use Rattle.tally_sessions.specs.inside.Sums.{sum_at}
use Rattle.tally_sessions.specs.Totals.{connect_of, stays_of, total_of}
use Rattle.tally_sessions.specs.inside.Totals.{seconds_of}
use Rattle.tally_sessions.proofs.sessions.EveryHost.{every_host_is}
use Rattle.tally_sessions.proofs.sessions.HostCounts.{count_below-le, count_below-more}
use Rattle.tally_sessions.proofs.sessions.Staging.{track_of}
use Rattle.tally_sessions.proofs.sessions.Sessions.all_user_sums.Goals as goal

pub loop-host-init : goal.loop-host-init
loop-host-init c = record {
  told = λ user. ap (λ es. sum_at (slice_cmp nat_cmp) es user) c.new-sums.ensures.empty;
  fits = λ user. let none : sum_at (slice_cmp nat_cmp) c.new-sums.result.entries user ≡ 0 = ap (λ es. sum_at (slice_cmp nat_cmp) es user) c.new-sums.ensures.empty in omega arith;
  all = omega arith;
}

pub add_seconds-requires-clause-track : goal.add_seconds-requires-clause-track
add_seconds-requires-clause-track c =
    track_of c.self.inside c.args.self.now (entries_in c.entries-entries.result) c.loop-host.host c.index.result.now c.self.invariant c.self.view_is c.entries-entries.ensures.value (omega arith) c.index.ensures

pub add_seconds-requires-clause-room : goal.add_seconds-requires-clause-room
add_seconds-requires-clause-room c user =
    omega (arith, c.loop-host.invariant.fits user, c.entries-entries.ensures.few, count_below-le c.loop-host.host (entries_in c.entries-entries.result))

pub loop-host-preserved : goal.loop-host-preserved
loop-host-preserved c =
    let es : List Entry = entries_in c.entries-entries.result in
    let of : Option (List ℕ) → ℕ → ℕ = λ who host. seconds_of who (stays_of host es c.args.until) in
    let host = c.loop-host.host in
    let more = λ (who : Option (List ℕ)). sum_by-map-range_with_len_more (λ (x : ℕ). x) (of who) 0 host host (omega arith) in record {
      told = λ user. c.in_ok-add_seconds.ensures.value user ∙ ap (λ n. n + of (Some user) host) (c.loop-host.invariant.told user) ∙ sym (more (Some user));
      fits = λ user. omega (arith, c.in_ok-add_seconds.ensures.value user, c.in_ok-add_seconds.ensures.fits (Some user), c.loop-host.invariant.fits user, count_below-more host es);
      all = omega (arith, more None, c.in_ok-add_seconds.ensures.fits None, c.loop-host.invariant.all, count_below-more host es);
    }

pub returns-clause-value : goal.returns-clause-value
returns-clause-value c user =
    let all = every_host_is c.loop-host.host (omega arith) in
    c.loop-host.invariant.told user
    ∙ ap (λ (hosts : List ℕ). sum (map (λ (host : ℕ). seconds_of (Some user) (stays_of host (entries_in c.entries-entries.result) c.args.until)) hosts)) all
    ∙ ap (λ (es : List Entry). connect_of user es c.args.until) c.entries-entries.ensures.value

pub returns-clause-each : goal.returns-clause-each
returns-clause-each c =
    let es : List Entry = entries_in c.entries-entries.result in
    let every = every_host_is c.loop-host.host (omega arith) in
    omega (
      arith,
      ap (λ (hosts : List ℕ). sum (map (λ (host : ℕ). seconds_of None (stays_of host es c.args.until)) hosts)) every,
      ap (λ (xs : List Entry). total_of xs c.args.until) c.entries-entries.ensures.value,
      c.loop-host.invariant.all,
      ap (λ (xs : List Entry). length xs) c.entries-entries.ensures.value,
      count_below-le c.loop-host.host es,
    )

pub returns-clause-fits : goal.returns-clause-fits
returns-clause-fits c =
    let es : List Entry = entries_in c.entries-entries.result in
    let every = every_host_is c.loop-host.host (omega arith) in
    omega (
      arith,
      ap (λ (hosts : List ℕ). sum (map (λ (host : ℕ). seconds_of None (stays_of host es c.args.until)) hosts)) every,
      ap (λ (xs : List Entry). total_of xs c.args.until) c.entries-entries.ensures.value,
      c.loop-host.invariant.all,
      c.entries-entries.ensures.few,
      count_below-le c.loop-host.host es,
    )
