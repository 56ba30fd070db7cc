use Rattle.std.proofs.Common.{◌≡◌, ◌∙◌, ◌+◌, ◌<◌, ◌≤◌, ℕ, List, [], length, get_or, take, ap, arith}
use Rattle.std.proofs.lemmas.List.{take_all}
use Rattle.std.proofs.lemmas.List.Sums.{sum_by_more_le}
use Rattle.std.proofs.lemmas.Option.{get_or_from_slice_get}
use Rattle.std.specs.Cmp.Lexicographic.{slice_cmp}
use Rattle.std.specs.Ordering.{nat_cmp}
use Rattle.std.specs.Prelude.{sum_by}
use Rattle.tally_sessions.specs.inside.Sums.{sum_at}
use Rattle.tally_sessions.proofs.track.UserSums.{own_part, part_added, part_of, parts_sum}
use Rattle.tally_sessions.proofs.track.ended.EndedSums.add_to.Goals as goal

abbrev no_pair : List ℕ × ℕ
no_pair = ([], 0)

pub add_for-requires : goal.add_for-requires
add_for-requires c =
    let users = c.args.self.now.users.entries in
    let place = c.loop-place.place in
    let pair : List ℕ × ℕ = c.pair_at-seconds.result in
    let lt : place < length users = omega (arith, c.len-place-end.ensures.len, c.loop-place-test.true) in
    let at : get_or users place no_pair ≡ pair = get_or_from_slice_get users place pair no_pair c.pair_at-seconds.ensures in
    let part : part_of pair.0 (get_or users place no_pair) ≡ pair.1 = ap (part_of pair.0) at ∙ own_part pair.0 pair.1 in
    let within : sum_by (part_of pair.0) (take place users) + part_of pair.0 (get_or users place no_pair) ≤ sum_by (part_of pair.0) users = sum_by_more_le (part_of pair.0) users place no_pair lt in
    omega (arith, c.loop-place.invariant pair.0, part, within, parts_sum pair.0 users c.len-place-end.ensures.distinct, c.requires pair.0)

pub loop-place-preserved : goal.loop-place-preserved
loop-place-preserved c user =
    let users = c.args.self.now.users.entries in
    let place = c.loop-place.place in
    let pair : List ℕ × ℕ = c.pair_at-seconds.result in
    let lt : place < length users = omega (arith, c.len-place-end.ensures.len, c.loop-place-test.true) in
    let at : get_or users place no_pair ≡ pair = get_or_from_slice_get users place pair no_pair c.pair_at-seconds.ensures in
    part_added (sum_at (slice_cmp nat_cmp) c.loop-place.sums.entries user) (sum_at (slice_cmp nat_cmp) c.add_for.new.sums.entries user) (sum_at (slice_cmp nat_cmp) c.args.sums.now.entries user) pair.1 pair.0 user users place no_pair lt at
    (c.loop-place.invariant user) (c.in_ok-add_for.ensures user)

pub returns : goal.returns
returns c user =
    let users = c.args.self.now.users.entries in
    c.loop-place.invariant user
    ∙ ap (λ es. sum_at (slice_cmp nat_cmp) c.args.sums.now.entries user + sum_by (part_of user) es) (take_all c.loop-place.place users (omega (arith, c.len-place-end.ensures.len, c.loop-place-test.false)))
    ∙ ap (λ n. sum_at (slice_cmp nat_cmp) c.args.sums.now.entries user + n) (parts_sum user users c.len-place-end.ensures.distinct)
