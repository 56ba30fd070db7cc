-- The seconds of one user among the sums of all, and among the pending sessions of all.
use Rattle.std.proofs.Common.{◌≡◌, ℕ, ◌+◌, ◌<◌, ◌&&◌, Bool, true, false, cond, not, is_some, List, [], ◌∷◌, length, get_or, take, Some, None, unwrap_or, ℤ, ◌-ℤ◌, refl, sym, ap, subst, ◌∙◌, arith}
use Rattle.std.proofs.lemmas.List.Sums.{sum_by-cons, sum_by_more}
use Rattle.std.proofs.lemmas.Map.Text.{is_eq-slice_cmp}
use Rattle.std.proofs.lemmas.Slice.Eq.{bytes_eq-Decides}
use Rattle.std.specs.Cmp.Lexicographic.{slice_cmp}
use Rattle.std.specs.List.{AllByRecursion, IsDistinct}
use Rattle.std.specs.Map.{keys_of, lookup}
use Rattle.std.specs.Ordering.{is_eq, nat_cmp}
use Rattle.std.specs.Prelude.{bytes_eq, sum_by}
use Rattle.tally_records.specs.Event.{event_of}
use Rattle.tally_sessions.specs.declared.entry.Entry.{Entry}
use Rattle.tally_sessions.specs.declared.track.ending.TrackedStay.{TrackedStay}
use Rattle.tally_sessions.specs.inside.Track.{length_of, is_login_event, pending_length, start_of, stay_at, still_of}
use Rattle.tally_sessions.proofs.track.Names.{same_both_ways}
use Rattle.tally_sessions.proofs.track.PendingSums.{pending_at}

-- the number of an entry, where its name is this one
abbrev pub part_of : List ℕ → List ℕ × ℕ → ℕ
part_of user e = cond (bytes_eq e.0 user) e.1 0

-- no entry has the name
none_of : (user : List ℕ) (es : List (List ℕ × ℕ)) → AllByRecursion (λ k. bytes_eq user k ≡ false) (keys_of es) → sum_by (part_of user) es ≡ 0
none_of user [] all = refl
none_of user (e ∷ es) all =
    let other : bytes_eq e.0 user ≡ false = same_both_ways user e.0 false all.0 in
    let rest : sum_by (part_of user) es ≡ 0 = none_of user es all.1 in
    let first : part_of user e ≡ 0 = ap (λ b. cond b e.1 0) other in
    omega (arith, sum_by-cons (part_of user) e es, first, rest)

-- names that differ have their numbers once
pub parts_sum : (user : List ℕ) (es : List (List ℕ × ℕ)) → IsDistinct bytes_eq (keys_of es) → sum_by (part_of user) es ≡ unwrap_or (lookup (bytes_eq user) es) 0
unfolding IsDistinct
parts_sum user [] distinct = refl
parts_sum user (e ∷ es) distinct = by (bytes_eq e.0 user) refl (parts_sum user es distinct.1)
  where
    by : (t : Bool) → bytes_eq e.0 user ≡ t → sum_by (part_of user) es ≡ unwrap_or (lookup (bytes_eq user) es) 0
        → sum_by (part_of user) (e ∷ es) ≡ unwrap_or (cond (bytes_eq user e.0) (Some e.1) (lookup (bytes_eq user) es)) 0
    by true h rest =
        let first : part_of user e ≡ e.1 = ap (λ b. cond b e.1 0) h in
        let name : e.0 ≡ user = (bytes_eq-Decides e.0 user).0 h in
        let none : sum_by (part_of user) es ≡ 0 = none_of user es (subst (λ n. AllByRecursion (λ k. bytes_eq n k ≡ false) (keys_of es)) name distinct.0) in
        let found : unwrap_or (cond (bytes_eq user e.0) (Some e.1) (lookup (bytes_eq user) es)) 0 ≡ e.1 = ap (λ b. unwrap_or (cond b (Some e.1) (lookup (bytes_eq user) es)) 0) (same_both_ways e.0 user true h) in
        omega (arith, sum_by-cons (part_of user) e es, first, none, found)
    by false h rest =
        let first : part_of user e ≡ 0 = ap (λ b. cond b e.1 0) h in
        let found : unwrap_or (cond (bytes_eq user e.0) (Some e.1) (lookup (bytes_eq user) es)) 0 ≡ unwrap_or (lookup (bytes_eq user) es) 0 = ap (λ b. unwrap_or (cond b (Some e.1) (lookup (bytes_eq user) es)) 0) (same_both_ways e.0 user false h) in
        omega (arith, sum_by-cons (part_of user) e es, first, rest, found)

-- the sum of a user, with one entry more
pub part_added : (old new base n : ℕ) (name user : List ℕ) (es : List (List ℕ × ℕ)) (i : ℕ) (d : List ℕ × ℕ) → i < length es → get_or es i d ≡ (name, n)
    → old ≡ base + sum_by (part_of user) (take i es) → new ≡ old + cond (is_eq (slice_cmp nat_cmp name user)) n 0 → new ≡ base + sum_by (part_of user) (take (i + 1) es)
part_added old new base n name user es i d lt at so_far is =
    let part : part_of user (get_or es i d) ≡ cond (is_eq (slice_cmp nat_cmp name user)) n 0 = ap (part_of user) at ∙ ap (λ b. cond b n 0) (sym (is_eq-slice_cmp name user)) in
    let more : sum_by (part_of user) (take (i + 1) es) ≡ sum_by (part_of user) (take i es) + part_of user (get_or es i d) = sum_by_more (part_of user) es i d lt in
    omega (arith, part, more, so_far, is)

-- the number of a name is part of its own sum
pub own_part : (name : List ℕ) (n : ℕ) → part_of name (name, n) ≡ n
own_part name n = ap (λ b. cond b n 0) ((bytes_eq-Decides name name).1 refl)

-- a pending session counts for its user alone
pub pending_of_user : (user : List ℕ) (es : List Entry) (now time : ℤ) (t : TrackedStay) → pending_length (Some user) es now time t ≡ cond (bytes_eq (start_of es t).user user) (pending_length None es now time t) 0
pending_of_user user es now time t = by (is_some t.ended) (is_login_event (event_of (start_of es t))) (bytes_eq (start_of es t).user user)
  where
    by : (ended login own : Bool) → cond (not ended && (login && own)) (length_of (still_of (start_of es t) (now -ℤ t.clock_at) time)) 0 ≡ cond own (cond (not ended && login) (length_of (still_of (start_of es t) (now -ℤ t.clock_at) time)) 0) 0
    by true login true = refl
    by true login false = refl
    by false true true = refl
    by false true false = refl
    by false false true = refl
    by false false false = refl

-- the sum of a user, with the session that one line more leads to
pub pending_added : (old new base n : ℕ) (name user : List ℕ) (es : List Entry) (now time : ℤ) (stays : List TrackedStay) (lines : List (List ℕ × ℕ)) (k : ℕ) (d : List ℕ × ℕ) → k < length lines
    → name ≡ (start_of es (stay_at stays (get_or lines k d).1)).user → n ≡ pending_at None es now time stays (get_or lines k d)
    → old ≡ base + sum_by (pending_at (Some user) es now time stays) (take k lines) → new ≡ old + cond (is_eq (slice_cmp nat_cmp name user)) n 0
    → new ≡ base + sum_by (pending_at (Some user) es now time stays) (take (k + 1) lines)
pending_added old new base n name user es now time stays lines k d lt own length_is so_far is =
    let part : pending_at (Some user) es now time stays (get_or lines k d) ≡ cond (is_eq (slice_cmp nat_cmp name user)) n 0 =
    pending_of_user user es now time (stay_at stays (get_or lines k d).1)
    ∙ (λ i. cond (bytes_eq (sym own i) user) (sym length_is i) 0)
    ∙ ap (λ b. cond b n 0) (sym (is_eq-slice_cmp name user)) in
    let more = sum_by_more (pending_at (Some user) es now time stays) lines k d lt in
    omega (arith, part, more, so_far, is)

-- its length is part of its user's own sum
pub own_pending : (name : List ℕ) (n : ℕ) (es : List Entry) (now time : ℤ) (stays : List TrackedStay) (e : List ℕ × ℕ) → name ≡ (start_of es (stay_at stays e.1)).user → n ≡ pending_at None es now time stays e
    → pending_at (Some name) es now time stays e ≡ n
own_pending name n es now time stays e own length_is =
    let same : bytes_eq (start_of es (stay_at stays e.1)).user name ≡ true = (bytes_eq-Decides (start_of es (stay_at stays e.1)).user name).1 (sym own) in
    pending_of_user name es now time (stay_at stays e.1) ∙ (λ i. cond (same i) (sym length_is i) 0)
