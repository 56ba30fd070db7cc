use Rattle.std.proofs.Common.{◌≡◌, ◌∙◌, ◌+◌, ℕ, List, length, map, refl, sum, sym, ap, arith}
use Rattle.std.proofs.lemmas.List.FromFn.{sum_by-map-range_with_len_more}
use Rattle.std.specs.Cmp.Lexicographic.{slice_cmp}
use Rattle.std.specs.Ordering.{nat_cmp}
use Rattle.tally_sessions.specs.declared.entry.Entry.{Entry}
use Rattle.tally_sessions.specs.Lent.{entries_in}
use Rattle.tally_sessions.specs.inside.Sums.{sum_at}
use Rattle.tally_sessions.specs.Sums.{seconds_in, seconds_of_user, sessions_among, sessions_of}
use Rattle.tally_sessions.specs.Totals.{stays_of}
use Rattle.tally_sessions.proofs.sessions.EveryHost.{every_host_is}
use Rattle.tally_sessions.proofs.sessions.HostCounts.{count_below-le, count_below-more}
use Rattle.tally_sessions.proofs.sessions.Staging.{track_of}
use Rattle.tally_sessions.proofs.sums.HostSums.{seconds_joined, sum_of_hosts, user_joined}
use Rattle.tally_sessions.proofs.sessions.Sessions.chosen_user_sums.Goals as goal

pub loop-host-init : goal.loop-host-init
loop-host-init c = record {
  told = λ user. ap (λ es. sum_at (slice_cmp nat_cmp) es user) c.new-sums.ensures.empty;
  fits = λ user. let none : sum_at (slice_cmp nat_cmp) c.new-sums.result.entries user ≡ 0 = ap (λ es. sum_at (slice_cmp nat_cmp) es user) c.new-sums.ensures.empty in omega arith;
  all = omega arith;
}

pub add_chosen-requires-clause-track : goal.add_chosen-requires-clause-track
add_chosen-requires-clause-track c =
    track_of c.self.inside c.args.self.now (entries_in c.entries-entries.result) c.loop-host.host c.index.result.now c.self.invariant c.self.view_is c.entries-entries.ensures.value (omega arith) c.index.ensures

pub add_chosen-requires-clause-room : goal.add_chosen-requires-clause-room
add_chosen-requires-clause-room c user =
    omega (arith, c.loop-host.invariant.fits user, c.entries-entries.ensures.few, count_below-le c.loop-host.host (entries_in c.entries-entries.result))

pub loop-host-preserved : goal.loop-host-preserved
loop-host-preserved c =
    let es : List Entry = entries_in c.entries-entries.result in
    let of : List ℕ → ℕ → ℕ = λ user host. seconds_of_user user (sessions_among c.args.choice.now (stays_of host es c.args.until)) in
    let host = c.loop-host.host in
    let more = sum_by-map-range_with_len_more (λ (x : ℕ). x) (λ (h : ℕ). seconds_in (sessions_among c.args.choice.now (stays_of h es c.args.until))) 0 host host (omega arith) in record {
      told = λ user.
          let more = sum_by-map-range_with_len_more (λ (x : ℕ). x) (of user) 0 host host (omega arith) in
          c.in_ok-add_chosen.ensures.value user ∙ ap (λ n. n + of user host) (c.loop-host.invariant.told user) ∙ sym more;
      fits = λ user. omega (arith, c.in_ok-add_chosen.ensures.value user, c.in_ok-add_chosen.ensures.fits user, c.loop-host.invariant.fits user, count_below-more host es);
      all = omega (arith, more, c.in_ok-add_chosen.ensures.all, c.loop-host.invariant.all, count_below-more host es);
    }

pub returns-clause-value : goal.returns-clause-value
returns-clause-value c user =
    let es : List Entry = entries_in c.entries-entries.result in
    c.loop-host.invariant.told user
    ∙ ap (λ (hosts : List ℕ). sum (map (λ (host : ℕ). seconds_of_user user (sessions_among c.args.choice.now (stays_of host es c.args.until))) hosts)) (every_host_is c.loop-host.host (omega arith))
    ∙ sum_of_hosts c.args.choice.now es c.args.until (seconds_of_user user) refl (user_joined user)
    ∙ ap (λ (xs : List Entry). seconds_of_user user (sessions_of c.args.choice.now xs c.args.until)) c.entries-entries.ensures.value

pub returns-clause-each : goal.returns-clause-each
returns-clause-each c =
    let es : List Entry = entries_in c.entries-entries.result in
    omega (
      arith,
      ap (λ (hosts : List ℕ). sum (map (λ (host : ℕ). seconds_in (sessions_among c.args.choice.now (stays_of host es c.args.until))) hosts)) (every_host_is c.loop-host.host (omega arith)),
      sum_of_hosts c.args.choice.now es c.args.until seconds_in refl seconds_joined,
      ap (λ (xs : List Entry). seconds_in (sessions_of c.args.choice.now xs c.args.until)) c.entries-entries.ensures.value,
      c.loop-host.invariant.all,
      ap (λ (xs : List Entry). length xs) c.entries-entries.ensures.value,
      count_below-le c.loop-host.host es,
    )

pub returns-clause-fits : goal.returns-clause-fits
returns-clause-fits c =
    let es : List Entry = entries_in c.entries-entries.result in
    omega (
      arith,
      ap (λ (hosts : List ℕ). sum (map (λ (host : ℕ). seconds_in (sessions_among c.args.choice.now (stays_of host es c.args.until))) hosts)) (every_host_is c.loop-host.host (omega arith)),
      sum_of_hosts c.args.choice.now es c.args.until seconds_in refl seconds_joined,
      ap (λ (xs : List Entry). seconds_in (sessions_of c.args.choice.now xs c.args.until)) c.entries-entries.ensures.value,
      c.loop-host.invariant.all,
      c.entries-entries.ensures.few,
      count_below-le c.loop-host.host es,
    )
