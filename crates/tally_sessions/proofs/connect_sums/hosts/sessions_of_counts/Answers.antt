use Rattle.std.proofs.Common.{◌≡◌, ◌∙◌, ◌++◌, ◌∷◌, [], ℕ, List, length, length-append, refl, ap, arith}
use Rattle.std.proofs.lemmas.Grind.{flat_map-append}
use Rattle.std.proofs.lemmas.List.{append-nil}
use Rattle.std.proofs.lemmas.List.Concat.{flat_map-cons}
use Rattle.std.proofs.lemmas.List.Sums.{sum_by-append, sum_by_more}
use Rattle.std.specs.List.{flat_map}
use Rattle.std.specs.Prelude.{sum_by}
use Rattle.tally_sessions.specs.ConnectSums.{Counted}
use Rattle.tally_sessions.specs.Hosts.{of_host}
use Rattle.tally_sessions.specs.declared.sums.Session.{Session}
use Rattle.tally_sessions.specs.inside.KeptSessions.{chained_ahead, sessions_ahead}
use Rattle.tally_sessions.proofs.connect_sums.CountedHosts.{count_of_host, sum_below, sum_below-more, sum_of_counts}
use Rattle.tally_sessions.proofs.connect_sums.hosts.sessions_of_counts.Goals as goal

-- one source more
flat_map_push : {S : Type 0} (ahead : S → List Session) (x : S) (before : List S) → flat_map ahead (before ++ x ∷ []) ≡ flat_map ahead before ++ ahead x
flat_map_push ahead x before = flat_map-append ahead before (x ∷ []) ∙ ap (λ ys. flat_map ahead before ++ ys) (flat_map-cons ahead x [] ∙ append-nil (ahead x))

pub loop-count-preserved : goal.loop-count-preserved
loop-count-preserved c =
    let host = c.loop-count.count-index in
    let cs = c.args.counts.now in
    let before = c.loop-count.sources.items in
    let x = c.sessions.result in
    let all = flat_map sessions_ahead before in
    let pushed : flat_map sessions_ahead c.push_reserved.new.self.items ≡ all ++ sessions_ahead x =
    ap (flat_map sessions_ahead) c.push_reserved.ensures.items ∙ flat_map_push sessions_ahead x before in
    let keeps = ap (λ (k : Counted). k.keeps_sessions) c.count-item.is ∙ c.requires.kept host c.count-item.result (omega arith) in record {
      value = λ es h weight.
          let own = count_of_host cs es host c.count-item.result h (omega arith) c.count-item.is in
          omega (
            arith,
            ap (sum_by weight) pushed,
            sum_by-append weight all (sessions_ahead x),
            c.loop-count.invariant.value es h weight,
            c.sessions.ensures.value keeps (of_host host es) own weight,
            sum_below-more (sum_by weight) es c.args.until host,
          );
      few = omega (
        arith,
        ap length pushed,
        length-append all (sessions_ahead x),
        c.loop-count.invariant.few,
        c.sessions.ensures.few,
        ap (λ (k : Counted). k.count) c.count-item.is,
        sum_by_more (λ (k : Counted). k.count) cs host c.count-item.result (omega arith),
      );
      length_is = omega (arith, ap length c.push_reserved.ensures.items, length-append before (x ∷ []), c.loop-count.invariant.length_is);
    }

pub returns-clause-value : goal.returns-clause-value
returns-clause-value c es h weight =
    let cs = c.args.counts.now in
    let all : c.loop-count.count-index ≡ length cs = omega arith in
    ap (λ chain. sum_by weight (chained_ahead sessions_ahead chain)) c.of.ensures
    ∙ c.loop-count.invariant.value es h weight
    ∙ ap (λ (hosts : ℕ). sum_below (sum_by weight) es c.args.until hosts) all
    ∙ sum_of_counts (sum_by weight) refl (sum_by-append weight) cs es c.args.until h c.requires.few
