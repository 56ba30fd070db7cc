-- A user with connect time has a session.
use Rattle.std.proofs.Common.{◌≡◌, ℕ, ◌<◌, Bool, true, false, cond, List, [], ◌∷◌, map, filter, refl, sym, inl, inr, arith}
use Rattle.std.proofs.lemmas.Slice.Eq.{bytes_eq-Decides}
use Rattle.std.specs.Prelude.{bytes_eq}
use Rattle.tally_records.proofs.Members.{Member}
use Rattle.tally_sessions.specs.declared.sums.Session.{Session}
use Rattle.tally_sessions.specs.Sums.{seconds_in, seconds_of_user}

-- the users of sessions
abbrev pub users : List Session → List (List ℕ)
users ss = map (λ (s : Session). s.user) ss

pub user_of_session : (user : List ℕ) (ss : List Session) → 0 < seconds_of_user user ss → Member user (users ss)
user_of_session user [] lt = absurd (omega (arith, lt))
user_of_session user (s ∷ ss) lt = by (bytes_eq s.user user) refl lt (user_of_session user ss)
  where
    by : (own : Bool) → bytes_eq s.user user ≡ own
        → 0 < seconds_in (cond own (s ∷ filter (λ (x : Session). bytes_eq x.user user) ss) (filter (λ (x : Session). bytes_eq x.user user) ss))
        → (0 < seconds_of_user user ss → Member user (users ss)) → Member user (users (s ∷ ss))
    by true e l rest = inl (sym ((bytes_eq-Decides s.user user).0 e))
    by false e l rest = inr (rest l)
