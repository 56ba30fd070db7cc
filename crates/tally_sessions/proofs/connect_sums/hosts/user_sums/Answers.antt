use Rattle.std.proofs.Common.{◌≡◌, ◌∙◌, ℕ, [], length, refl, ap, arith}
use Rattle.tally_sessions.specs.Hosts.{of_host}
use Rattle.tally_sessions.specs.Stays.{stays_from}
use Rattle.tally_sessions.specs.Sums.{seconds_of_user}
use Rattle.tally_sessions.proofs.connect_sums.CountedHosts.{count_of_host, sum_below, sum_below-more, sum_of_counts}
use Rattle.tally_sessions.proofs.sums.EverySession.{stays_from_have_lengths, user_among}
use Rattle.tally_sessions.proofs.sums.HostSums.{user_joined}
use Rattle.tally_sessions.proofs.connect_sums.hosts.user_sums.Goals as goal

pub loop-count-preserved : goal.loop-count-preserved
loop-count-preserved c =
    let host = c.loop-count.count-index in record {
      value = λ user es h.
          let rs = of_host host es in
          let own = count_of_host c.args.counts.now es host c.count-item.result h (omega arith) c.count-item.is in
          omega (
            arith,
            c.loop-count.invariant.value user es h,
            c.in_ok-add_users.ensures.value user rs own,
            user_among user (stays_from 0 [] rs c.args.until) (stays_from_have_lengths 0 [] rs c.args.until),
            sum_below-more (seconds_of_user user) es c.args.until host,
          );
      small = λ user. omega (arith, c.loop-count.invariant.small user, c.in_ok-add_users.ensures.fits user);
    }

pub returns : goal.returns
returns c = record {
  value = λ user es h.
      let cs = c.args.counts.now in
      let all : c.loop-count.count-index ≡ length cs = omega arith in
      c.loop-count.invariant.value user es h
      ∙ ap (λ (hosts : ℕ). sum_below (seconds_of_user user) es c.args.until hosts) all
      ∙ sum_of_counts (seconds_of_user user) refl (user_joined user) cs es c.args.until h c.requires.few;
}
