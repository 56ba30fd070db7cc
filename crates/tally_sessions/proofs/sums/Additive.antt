-- Sums over the chosen sessions of all hosts, from what holds of each stay.
use Rattle.std.proofs.Common.{◌≡◌, ◌∙◌, ℕ, ℤ, ◌+◌, Bool, true, false, cond, List, [], ◌∷◌, Option, filter, map, sum_by, refl, sym, ap, arith}
use Rattle.std.proofs.lemmas.List.Sums.{sum_by-append, sum_by-cons}
use Rattle.std.specs.List.{flat_map}
use Rattle.std.specs.Prelude.{bytes_eq}
use Rattle.tally_records.specs.declared.choice.LoginChoice.{LoginChoice}
use Rattle.tally_sessions.specs.Choice.{is_counted}
use Rattle.tally_sessions.specs.Sums.{session_in, sessions_among, sessions_of}
use Rattle.tally_sessions.specs.Totals.{every_host, stays_of}
use Rattle.tally_sessions.specs.declared.entry.Entry.{Entry}
use Rattle.tally_sessions.specs.declared.entry.Stay.{Stay}
use Rattle.tally_sessions.specs.declared.sums.Session.{Session}

-- what a choice counts of a stay
abbrev pub part_of : (Session → ℕ) → LoginChoice → Stay → ℕ
part_of f choice s = cond (is_counted choice s) (f (session_in choice.period s)) 0

-- a sum over the chosen sessions among stays
pub among_is : (f : Session → ℕ) (choice : LoginChoice) (stays : List Stay) → sum_by f (sessions_among choice stays) ≡ sum_by (part_of f choice) stays
among_is f choice [] = refl
among_is f choice (s ∷ stays) = by (is_counted choice s) (among_is f choice stays) ∙ sym (sum_by-cons (part_of f choice) s stays)
  where
    kept : List Stay
    kept = filter (is_counted choice) stays

    by : (b : Bool) → sum_by f (sessions_among choice stays) ≡ sum_by (part_of f choice) stays
        → sum_by f (map (session_in choice.period) (cond b (s ∷ kept) kept)) ≡ cond b (f (session_in choice.period s)) 0 + sum_by (part_of f choice) stays
    by true rest = sum_by-cons f (session_in choice.period s) (map (session_in choice.period) kept) ∙ ap (λ n. f (session_in choice.period s) + n) rest
    by false rest = omega (arith, rest)

module _ (f : Session → ℕ) (some others all : LoginChoice) (adds : (s : Stay) → part_of f some s + part_of f others s ≡ part_of f all s) where
  stays_add : (stays : List Stay) → sum_by (part_of f some) stays + sum_by (part_of f others) stays ≡ sum_by (part_of f all) stays
  stays_add [] = refl
  stays_add (s ∷ stays) =
      omega (arith, stays_add stays, adds s, sum_by-cons (part_of f some) s stays, sum_by-cons (part_of f others) s stays, sum_by-cons (part_of f all) s stays)

  hosts_add : (es : List Entry) (until : Option ℤ) (hosts : List ℕ)
      → sum_by f (flat_map (λ host. sessions_among some (stays_of host es until)) hosts) + sum_by f (flat_map (λ host. sessions_among others (stays_of host es until)) hosts)
      ≡ sum_by f (flat_map (λ host. sessions_among all (stays_of host es until)) hosts)
  hosts_add es until [] = refl
  hosts_add es until (host ∷ hosts) =
      let stays = stays_of host es until in
      let of : LoginChoice → ℕ → List Session = λ choice h. sessions_among choice (stays_of h es until) in
      omega (
        arith,
        hosts_add es until hosts,
        stays_add stays,
        among_is f some stays,
        among_is f others stays,
        among_is f all stays,
        sum_by-append f (of some host) (flat_map (of some) hosts),
        sum_by-append f (of others host) (flat_map (of others) hosts),
        sum_by-append f (of all host) (flat_map (of all) hosts),
      )

  pub sums_add : (es : List Entry) (until : Option ℤ) → sum_by f (sessions_of some es until) + sum_by f (sessions_of others es until) ≡ sum_by f (sessions_of all es until)
  sums_add es until = hosts_add es until every_host

-- a user's sum is a sum over all, with nothing for the others
pub of_user_is : (f : Session → ℕ) (user : List ℕ) (ss : List Session) → sum_by f (filter (λ (s : Session). bytes_eq s.user user) ss) ≡ sum_by (λ s. cond (bytes_eq s.user user) (f s) 0) ss
of_user_is f user [] = refl
of_user_is f user (s ∷ ss) = by (bytes_eq s.user user) (of_user_is f user ss) ∙ sym (sum_by-cons (λ (x : Session). cond (bytes_eq x.user user) (f x) 0) s ss)
  where
    own : List Session
    own = filter (λ (x : Session). bytes_eq x.user user) ss

    by : (b : Bool) → sum_by f own ≡ sum_by (λ s. cond (bytes_eq s.user user) (f s) 0) ss → sum_by f (cond b (s ∷ own) own) ≡ cond b (f s) 0 + sum_by (λ s. cond (bytes_eq s.user user) (f s) 0) ss
    by true rest = sum_by-cons f s own ∙ ap (λ n. f s + n) rest
    by false rest = omega (arith, rest)
