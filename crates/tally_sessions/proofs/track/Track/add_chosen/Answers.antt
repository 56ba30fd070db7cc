use Rattle.std.proofs.Common.{◌∙◌, ℕ, ◌+◌, ◌≤◌, ◌*◌, List, length, ap, subst}
use Rattle.std.proofs.lemmas.Result.{on_ok_weaker}
use Rattle.std.specs.Cmp.Lexicographic.{slice_cmp}
use Rattle.std.specs.Ordering.{nat_cmp}
use Rattle.tally_sessions.specs.Hosts.{of_host}
use Rattle.tally_sessions.specs.Lent.{entries_in}
use Rattle.tally_sessions.specs.Totals.{stays_of}
use Rattle.tally_sessions.specs.inside.Sums.{sum_at}
use Rattle.tally_sessions.proofs.sums.EverySession.{lengths}
use Rattle.tally_sessions.proofs.sums.NamedUsers.{all_named, all_own}
use Rattle.tally_sessions.proofs.track.Track.add_chosen.Goals as goal

pub returns-then-has_sums_of-clause-value : goal.returns-then-has_sums_of-clause-value
returns-then-has_sums_of-clause-value c =
    let es = entries_in c.args.entries in
    let own = λ (user : List ℕ). all_own c.args.choice.now (c.has_sums_of.ensures c.if-has_sums_of.true) user (stays_of c.args.host es c.args.until) (lengths c.args.host es c.args.until) in
    on_ok_weaker c.add_users.result
    (λ told user. told user ∙ ap (λ n. sum_at (slice_cmp nat_cmp) c.args.sums.now.entries user + n) (own user))
    c.add_users.ensures.value

pub returns-then-has_sums_of-clause-fits : goal.returns-then-has_sums_of-clause-fits
returns-then-has_sums_of-clause-fits c =
    let es = entries_in c.args.entries in
    let own = λ (user : List ℕ). all_own c.args.choice.now (c.has_sums_of.ensures c.if-has_sums_of.true) user (stays_of c.args.host es c.args.until) (lengths c.args.host es c.args.until) in
    on_ok_weaker c.add_users.result (λ fits user. subst (λ n. n ≤ 4294967295 * length (of_host c.args.host es)) (own user) (fits user)) c.add_users.ensures.fits

pub returns-then-has_sums_of-clause-all : goal.returns-then-has_sums_of-clause-all
returns-then-has_sums_of-clause-all c =
    let es = entries_in c.args.entries in
    let own = all_named c.args.choice.now (c.has_sums_of.ensures c.if-has_sums_of.true) (stays_of c.args.host es c.args.until) (lengths c.args.host es c.args.until) in
    on_ok_weaker c.add_users.result (λ all. subst (λ n. n ≤ 4294967295 * length (of_host c.args.host es)) own all) c.add_users.ensures.all
