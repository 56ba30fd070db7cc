-- Worked counts of records that are let go, computed by the definitions.
use Rattle.std.proofs.Common.{◌≡◌, ◌∙◌, ◌+◌, ◌++◌, ◌<◌, ◌≤◌, ℕ, zero, suc, List, [], ◌∷◌, map, Bool, cond, true, false, Option, Some, None, pos, sum_by, unwrap_or, refl, sym, arith, ne_eqb, true≢false}
use Rattle.std.specs.Prelude.{bytes_eq, codes, slice_index_or}
use Rattle.std.proofs.lemmas.Int.{ints}
use Rattle.std.proofs.lemmas.Slice.Eq.{bytes_eq-Decides}
use Rattle.tally_records.specs.declared.login.LoginRecord.{LoginRecord}
use Rattle.tally_records.specs.Event.{event_of}
use Rattle.tally_sessions.specs.Clock.{pending_old_time}
use Rattle.tally_sessions.specs.ConnectSums.{AreCountsOf, Counted, IsCountOf, sum_of, tracked}
use Rattle.tally_sessions.specs.Hosts.{of_host, posted_by}
use Rattle.tally_sessions.specs.Opens.{ended_seconds}
use Rattle.tally_sessions.specs.Stays.{seconds_of}
use Rattle.tally_sessions.proofs.WorkedOpens.{ann, bob, open_of_bob, records, session_of_ann, utmp}

-- the count of ann's session and of bob's, which keeps its sessions
abbrev count_of_them : Counted
count_of_them = record {
  count = 3;
  clock = pos 0;
  old_time = None;
  last = pos 500;
  opens = open_of_bob ∷ [];
  users = (ann, 300) ∷ (bob, 0) ∷ [];
  total = 300;
  keeps_sessions = true;
  sessions = session_of_ann ∷ [];
}

-- of all users the total counts, and of one the sum of that name; a user without a sum has none
sums : map (sum_of (record count_of_them { total = 301 })) (None ∷ Some ann ∷ Some bob ∷ Some (codes "ann") ∷ []) ≡ 301 ∷ 300 ∷ 0 ∷ 0 ∷ []
sums = refl

-- it does not matter which of two texts is asked for
turned : (xs ys : List ℕ) → bytes_eq xs ys ≡ bytes_eq ys xs
turned xs ys = go (bytes_eq xs ys) refl (bytes_eq ys xs) refl
  where
    go : (b : Bool) → bytes_eq xs ys ≡ b → (c : Bool) → bytes_eq ys xs ≡ c → b ≡ c
    go true is true other = refl
    go false is false other = refl
    go true is false other = absurd (true≢false (sym ((bytes_eq-Decides ys xs).1 (sym ((bytes_eq-Decides xs ys).0 is))) ∙ other))
    go false is true other = absurd (true≢false (sym ((bytes_eq-Decides xs ys).1 (sym ((bytes_eq-Decides ys xs).0 other))) ∙ is))

-- the seconds of whatever user, by whether it is ann or bob
seconds_by : (is_ann was_ann is_bob was_bob : Bool) → is_ann ≡ was_ann → unwrap_or (cond is_ann (Some 300) (cond is_bob (Some 0) None)) 0 ≡ 0 + cond was_ann 300 0 + cond was_bob 0 0
seconds_by true true is_bob true same = refl
seconds_by true true is_bob false same = refl
seconds_by false false true true same = refl
seconds_by false false true false same = refl
seconds_by false false false true same = refl
seconds_by false false false false same = refl
seconds_by true false is_bob was_bob same = absurd (true≢false same)
seconds_by false true is_bob was_bob same = absurd (true≢false (sym same))

-- of whatever user the sum is that of the sessions that have ended
seconds_of_each : (who : Option (List ℕ)) → sum_of count_of_them who ≡ sum_by (ended_seconds who) (tracked records)
unfolding seconds_of pending_old_time event_of
seconds_of_each None = refl
seconds_of_each (Some user) = seconds_by (bytes_eq user ann) (bytes_eq ann user) (bytes_eq user bob) (bytes_eq bob user) (turned user ann)

-- a count has the number of the records, their clock, the last time, what is open and what has ended
is_count : IsCountOf count_of_them records
unfolding seconds_of pending_old_time event_of
is_count = record { count = refl; clock = refl; old_time = refl; last = refl; opens = λ weight. omega arith; ended = seconds_of_each; sessions = λ keeps weight. omega arith }

-- one that keeps no sessions needs none
keeps_none : IsCountOf (record count_of_them { keeps_sessions = false; sessions = [] }) records
unfolding seconds_of pending_old_time event_of
keeps_none = record { count = refl; clock = refl; old_time = refl; last = refl; opens = λ weight. omega arith; ended = seconds_of_each; sessions = λ keeps. absurd (true≢false (sym keeps)) }

-- a count that says otherwise of one of these is none
other_counts : (¬ IsCountOf (record count_of_them { count = 2 }) records) × (¬ IsCountOf (record count_of_them { clock = pos 1 }) records) × (¬ IsCountOf (record count_of_them { last = pos 300 }) records)
unfolding seconds_of pending_old_time event_of
other_counts = (λ is. omega (arith, is.count), λ is. omega (arith, ints, is.clock), λ is. omega (arith, ints, is.last))

-- nor is one that lacks seconds, an open session, or one that has ended
other_sums : (¬ IsCountOf (record count_of_them { total = 301 }) records) × (¬ IsCountOf (record count_of_them { opens = [] }) records) × (¬ IsCountOf (record count_of_them { sessions = [] }) records)
unfolding seconds_of pending_old_time event_of
other_sums = (λ is. omega (arith, is.ended None), λ is. omega (arith, is.opens (λ o. 1)), λ is. omega (arith, is.sessions refl (λ s. 1)))

-- an old time that waits is kept, and the clock moves by a whole change
abbrev changes : List LoginRecord
changes = utmp 4 [] [] 100 ∷ utmp 3 [] [] 150 ∷ utmp 4 [] [] 70 ∷ []

abbrev count_of_changes : Counted
count_of_changes = record { count = 3; clock = pos 50; old_time = Some (pos 70); last = pos 70; opens = []; users = []; total = 0; keeps_sessions = true; sessions = [] }

-- of records without sessions nothing is summed
is_count_of_changes : IsCountOf count_of_changes changes
unfolding seconds_of pending_old_time event_of
is_count_of_changes = record { count = refl; clock = refl; old_time = refl; last = refl; opens = λ weight. refl; ended = none_ended; sessions = λ keeps weight. refl }
  where
    none_ended : (who : Option (List ℕ)) → sum_of count_of_changes who ≡ sum_by (ended_seconds who) (tracked changes)
    none_ended None = refl
    none_ended (Some user) = refl

-- counts are those of the hosts, from the first on, and no other host has a record
are_counts : AreCountsOf (count_of_changes ∷ count_of_them ∷ []) (posted_by 1 records ++ posted_by 0 changes)
unfolding seconds_of pending_old_time event_of
are_counts = record { each = each; others = others }
  where
    each : (host : ℕ) (c : Counted) → host < 2 → IsCountOf (slice_index_or (count_of_changes ∷ count_of_them ∷ []) host c) (of_host host (posted_by 1 records ++ posted_by 0 changes))
    each zero c low = is_count_of_changes
    each (suc zero) c low = is_count
    each (suc (suc host)) c low = let no : ⊥ = omega (arith, low) in absurd no

    others : (host : ℕ) → 2 ≤ host → of_host host (posted_by 1 records ++ posted_by 0 changes) ≡ []
    others host high = rw (ne_eqb 1 host (λ e. omega (arith, high, e)), ne_eqb 0 host (λ e. omega (arith, high, e))) refl
