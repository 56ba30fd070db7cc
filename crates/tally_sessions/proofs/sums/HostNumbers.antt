-- Sessions do not depend on the number of their host.
use Rattle.std.proofs.Common.{◌≡◌, ℕ, ℤ, Bool, true, false, cond, List, [], ◌∷◌, ◌++◌, Option, filter, map, refl, sym, ap, ◌∙◌}
use Rattle.std.specs.List.{flat_map}
use Rattle.tally_records.specs.Event.{event_of}
use Rattle.tally_records.specs.declared.choice.LoginChoice.{LoginChoice}
use Rattle.tally_records.specs.declared.login.LoginRecord.{LoginRecord}
use Rattle.tally_sessions.specs.Choice.{is_counted}
use Rattle.tally_sessions.specs.Hosts.{of_host}
use Rattle.tally_sessions.specs.Laws.{HostsAreAlike}
use Rattle.tally_sessions.specs.Stays.{starts_stay, stay_of, stays_from}
use Rattle.tally_sessions.specs.Sums.{session_in, sessions_among}
use Rattle.tally_sessions.specs.Totals.{every_host, stays_of}
use Rattle.tally_sessions.specs.declared.entry.Stay.{Stay}
use Rattle.tally_sessions.specs.declared.sums.Session.{Session}

-- a stay of the first host
abbrev of_first : Stay → Stay
of_first s = record s { host = 0 }

stays_alike : (host : ℕ) (before rs : List LoginRecord) (until : Option ℤ) → map of_first (stays_from host before rs until) ≡ stays_from 0 before rs until
stays_alike host before [] until = refl
stays_alike host before (r ∷ rs) until = by (starts_stay (event_of r)) (stays_alike host (before ++ r ∷ []) rs until)
  where
    rest : ℕ → List Stay
    rest n = stays_from n (before ++ r ∷ []) rs until

    by : (b : Bool) → map of_first (rest host) ≡ rest 0 → map of_first (cond b (stay_of host before r rs until ∷ rest host) (rest host)) ≡ cond b (stay_of 0 before r rs until ∷ rest 0) (rest 0)
    by true h = ap (λ ss. stay_of 0 before r rs until ∷ ss) h
    by false h = h

sessions_alike : (choice : LoginChoice) (ss : List Stay) → sessions_among choice (map of_first ss) ≡ sessions_among choice ss
sessions_alike choice [] = refl
sessions_alike choice (s ∷ ss) = by (is_counted choice s) (sessions_alike choice ss)
  where
    kept : List Stay → List Stay
    kept xs = filter (is_counted choice) xs

    by : (b : Bool) → sessions_among choice (map of_first ss) ≡ sessions_among choice ss
        → map (session_in choice.period) (cond b (of_first s ∷ kept (map of_first ss)) (kept (map of_first ss))) ≡ map (session_in choice.period) (cond b (s ∷ kept ss) (kept ss))
    by true h = ap (λ xs. session_in choice.period s ∷ xs) h
    by false h = h

flat_map_alike : (f g : ℕ → List Session) (hosts : List ℕ) → ((host : ℕ) → f host ≡ g host) → flat_map f hosts ≡ flat_map g hosts
flat_map_alike f g [] same = refl
flat_map_alike f g (host ∷ hosts) same = λ i. same host i ++ flat_map_alike f g hosts same i

pub hosts_are_alike : HostsAreAlike
hosts_are_alike choice entries until =
    flat_map_alike (λ host. sessions_among choice (stays_of host entries until)) (λ host. sessions_among choice (stays_from 0 [] (of_host host entries) until)) every_host
    (λ host. sym (sessions_alike choice (stays_of host entries until)) ∙ ap (sessions_among choice) (stays_alike host [] (of_host host entries) until))
