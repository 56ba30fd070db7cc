-- The sessions among the stays of a host, and among those of all hosts.
use Rattle.std.proofs.Common.{◌≡◌, ℕ, zero, suc, length-append, ◌+◌, ◌≤◌, List, [], ◌++◌, map, filter, length, Option, ℤ, ap, ◌∙◌, arith}
use Rattle.std.proofs.lemmas.List.{map-append, length-map}
use Rattle.std.proofs.lemmas.List.Elements.{filter-append}
use Rattle.std.proofs.lemmas.List.Sums.{length-filter, count_by-le-length}
use Rattle.std.specs.List.{flat_map, range_with_len}
use Rattle.tally_sessions.specs.declared.entry.Entry.{Entry}
use Rattle.tally_sessions.specs.declared.entry.Stay.{Stay}
use Rattle.tally_sessions.specs.declared.sums.Session.{Session}
use Rattle.tally_records.specs.declared.choice.LoginChoice.{LoginChoice}
use Rattle.tally_sessions.specs.Choice.{is_counted}
use Rattle.tally_sessions.specs.Hosts.{of_host}
use Rattle.tally_sessions.specs.Sums.{session_in, sessions_among, sessions_of}
use Rattle.tally_sessions.specs.Totals.{every_host, stays_of}
use Rattle.tally_sessions.proofs.sessions.HostCounts.{count_below, count_below-le, count_below-more}
use Rattle.tally_sessions.proofs.track.StayCounts.{length-stays_from}

pub sessions_among-append : (choice : LoginChoice) (xs ys : List Stay) → sessions_among choice (xs ++ ys) ≡ sessions_among choice xs ++ sessions_among choice ys
sessions_among-append choice xs ys =
    ap (map (session_in choice.period)) (filter-append (is_counted choice) xs ys)
    ∙ map-append (session_in choice.period) (filter (is_counted choice) xs) (filter (is_counted choice) ys)

-- a stay is one session at most
length-among : (choice : LoginChoice) (stays : List Stay) → length (sessions_among choice stays) ≤ length stays
length-among choice stays =
    let kept : List Stay = filter (is_counted choice) stays in
    omega (arith, length-map kept (session_in choice.period), length-filter (is_counted choice) stays, count_by-le-length (is_counted choice) stays)

-- a record gives one session at most
length-sessions : (choice : LoginChoice) (host : ℕ) (es : List Entry) (until : Option ℤ) → length (sessions_among choice (stays_of host es until)) ≤ length (of_host host es)
length-sessions choice host es until =
    omega (arith, length-among choice (stays_of host es until), length-stays_from host [] (of_host host es) until)

-- and so it is of all hosts from one on
few_from : (choice : LoginChoice) (es : List Entry) (until : Option ℤ) (first n : ℕ) → length (flat_map (λ host. sessions_among choice (stays_of host es until)) (range_with_len first n)) + count_below first es ≤ length es
few_from choice es until first zero = omega (arith, count_below-le first es)
few_from choice es until first (suc n) =
    let of : ℕ → List Session = λ host. sessions_among choice (stays_of host es until) in
    omega (arith, few_from choice es until (first + 1) n, length-append (of first) (flat_map of (range_with_len (first + 1) n)), length-sessions choice first es until, count_below-more first es)

-- few entries have few sessions
pub few_sessions : {es es' : List Entry} (choice : LoginChoice) (until : Option ℤ) → es ≡ es' → length es ≤ 16777216 → length (sessions_of choice es' until) ≤ 16777216
unfolding every_host
few_sessions {es} {es'} choice until same few = omega (arith, few_from choice es' until 0 128, ap length same)
