-- Sums over the sessions of several lists, and of all hosts.
use Rattle.std.proofs.Common.{◌≡◌, ◌∙◌, ℕ, ℤ, ◌+◌, List, [], ◌∷◌, ◌++◌, Option, filter, map, sum, sym, ap, Bool}
use Rattle.std.proofs.lemmas.List.Elements.{filter-append}
use Rattle.std.proofs.lemmas.List.Sums.{sum_by-append, sum_by-cons}
use Rattle.std.specs.List.{flat_map}
use Rattle.std.specs.Prelude.{bytes_eq}
use Rattle.tally_clock.specs.Days.{seconds_between}
use Rattle.tally_records.specs.declared.choice.LoginChoice.{LoginChoice}
use Rattle.tally_sessions.specs.Sums.{seconds_in, seconds_of_user, sessions_among, sessions_of}
use Rattle.tally_sessions.specs.Totals.{every_host, stays_of}
use Rattle.tally_sessions.specs.declared.entry.Entry.{Entry}
use Rattle.tally_sessions.specs.declared.sums.Session.{Session}

pub seconds_joined : (xs ys : List Session) → seconds_in (xs ++ ys) ≡ seconds_in xs + seconds_in ys
seconds_joined xs ys = sum_by-append (λ (s : Session). seconds_between s.begin s.end_time) xs ys

pub user_joined : (user : List ℕ) (xs ys : List Session) → seconds_of_user user (xs ++ ys) ≡ seconds_of_user user xs + seconds_of_user user ys
user_joined user xs ys =
    let is_own : Session → Bool = λ s. bytes_eq s.user user in
    ap seconds_in (filter-append is_own xs ys) ∙ seconds_joined (filter is_own xs) (filter is_own ys)

-- a count that adds up over lists adds up over hosts
module _ (choice : LoginChoice) (es : List Entry) (until : Option ℤ) (f : List Session → ℕ) (none : f [] ≡ 0) (adds : (xs ys : List Session) → f (xs ++ ys) ≡ f xs + f ys) where
  abbrev own : ℕ → List Session
  own host = sessions_among choice (stays_of host es until)

  sum_of : (hosts : List ℕ) → sum (map (λ host. f (own host)) hosts) ≡ f (flat_map own hosts)
  sum_of [] = sym none
  sum_of (host ∷ hosts) =
      sum_by-cons (λ (x : ℕ). x) (f (own host)) (map (λ h. f (own h)) hosts) ∙ ap (λ n. f (own host) + n) (sum_of hosts) ∙ sym (adds (own host) (flat_map own hosts))

  pub sum_of_hosts : sum (map (λ host. f (own host)) every_host) ≡ f (sessions_of choice es until)
  sum_of_hosts = sum_of every_host
