use Rattle.std.proofs.Common.{◌≡◌, ◌∙◌, ◌+◌, ◌<◌, ℕ, List, [], length, get_or, ap, sym, arith}
use Rattle.std.proofs.lemmas.List.{get_or-map, take_all}
use Rattle.std.proofs.lemmas.List.Sums.{sum_by_more_le}
use Rattle.std.proofs.lemmas.Map.Entries.{length-keys_of}
use Rattle.std.proofs.lemmas.Option.{get_or_from_slice_get}
use Rattle.std.proofs.lemmas.Slice.Zip.{get_or-zip}
use Rattle.std.specs.Cmp.Lexicographic.{slice_cmp}
use Rattle.std.specs.List.{zip}
use Rattle.std.specs.Map.{keys_of}
use Rattle.std.specs.Ordering.{nat_cmp}
use Rattle.std.specs.Prelude.{sum_by}
use Rattle.tally_sessions.specs.inside.Chosen.{number_of}
use Rattle.tally_sessions.specs.inside.Sums.{sum_at}
use Rattle.tally_sessions.proofs.track.SessionParts.{length-zip}
use Rattle.tally_sessions.proofs.track.UserSums.{own_part, part_added}
use Rattle.tally_sessions.proofs.track.ended.EndedSums.add_each.Goals as goal

abbrev no_pair : List ℕ × ℕ
no_pair = ([], 0)

-- the name at a place, and its number
named_at : (es : List (List ℕ × ℕ)) (ns : List ℕ) (place : ℕ) (pair : List ℕ × ℕ) → place < length es → length ns ≡ length es → get_or es place no_pair ≡ pair
    → get_or (zip (keys_of es) ns) place no_pair ≡ (pair.0, get_or ns place 0)
named_at es ns place pair lt len at =
    let key : get_or (keys_of es) place [] ≡ pair.0 = get_or-map (λ (e : List ℕ × ℕ). e.0) es place no_pair [] lt ∙ ap (λ (e : List ℕ × ℕ). e.0) at in
    get_or-zip (keys_of es) ns place no_pair (omega (arith, length-keys_of es, lt)) (omega (arith, len, lt)) ∙ (λ i. (key i, get_or ns place 0))

pub add_for-requires : goal.add_for-requires
add_for-requires c =
    let users = c.args.self.now.users.entries in
    let ns = c.args.numbers.now in
    let place = c.loop-place.place in
    let pair : List ℕ × ℕ = c.pair_at.result in
    let lt : place < length users = omega (arith, c.len-place-end.ensures.len, c.loop-place-test.true) in
    let zipped = zip (keys_of users) ns in
    let long : length zipped ≡ length (keys_of users) = length-zip (keys_of users) ns (c.requires.users ∙ sym (length-keys_of users)) in
    let at = named_at users ns place pair lt c.requires.users (get_or_from_slice_get users place pair no_pair c.pair_at.ensures) in
    let part : number_of pair.0 (get_or zipped place no_pair) ≡ get_or ns place 0 = ap (number_of pair.0) at ∙ own_part pair.0 (get_or ns place 0) in
    let within = sum_by_more_le (number_of pair.0) zipped place no_pair (omega (arith, long, length-keys_of users, lt)) in
    omega (arith, c.loop-place.invariant pair.0, part, within, c.requires.room pair.0)

pub loop-place-preserved : goal.loop-place-preserved
loop-place-preserved c user =
    let users = c.args.self.now.users.entries in
    let ns = c.args.numbers.now in
    let place = c.loop-place.place in
    let pair : List ℕ × ℕ = c.pair_at.result in
    let lt : place < length users = omega (arith, c.len-place-end.ensures.len, c.loop-place-test.true) in
    let zipped = zip (keys_of users) ns in
    let long : length zipped ≡ length (keys_of users) = length-zip (keys_of users) ns (c.requires.users ∙ sym (length-keys_of users)) in
    let at = named_at users ns place pair lt c.requires.users (get_or_from_slice_get users place pair no_pair c.pair_at.ensures) in
    part_added (sum_at (slice_cmp nat_cmp) c.loop-place.sums.entries user) (sum_at (slice_cmp nat_cmp) c.add_for.new.sums.entries user) (sum_at (slice_cmp nat_cmp) c.args.sums.now.entries user) (get_or ns place 0) pair.0 user zipped place no_pair
    (omega (arith, long, length-keys_of users, lt)) at (c.loop-place.invariant user) (c.in_ok-add_for.ensures user)

pub returns : goal.returns
returns c user =
    let users = c.args.self.now.users.entries in
    let ns = c.args.numbers.now in
    let long : length (zip (keys_of users) ns) ≡ length (keys_of users) = length-zip (keys_of users) ns (c.requires.users ∙ sym (length-keys_of users)) in
    c.loop-place.invariant user
    ∙ ap (λ es. sum_at (slice_cmp nat_cmp) c.args.sums.now.entries user + sum_by (number_of user) es)
    (take_all c.loop-place.place (zip (keys_of users) ns) (omega (arith, long, length-keys_of users, c.len-place-end.ensures.len, c.loop-place-test.false)))
