-- The sessions of a host, with one stay more, and their seconds by the places of users.
use Rattle.std.proofs.Common.{◌≡◌, ℕ, zero, suc, ◌+◌, ◌<◌, ◌≤◌, Bool, true, false, cond, List, [], ◌∷◌, ◌++◌, map, length, drop, get_or, set, take, Option, ℤ, unwrap_or, refl, sym, ap, subst, ◌∙◌, arith}
use Rattle.std.proofs.lemmas.Bool.{false≢true}
use Rattle.std.proofs.lemmas.List.{get_or-map, length-map, take_more}
use Rattle.std.proofs.lemmas.List.Sums.{sum_by-cons, sum_by-set}
use Rattle.std.proofs.lemmas.Slice.Eq.{bytes_eq-Decides}
use Rattle.std.proofs.lemmas.Slice.Zip.{get_or-zip}
use Rattle.std.specs.List.{zip}
use Rattle.std.specs.Prelude.{◌&&◌, bytes_eq, not, sum_by}
use Rattle.tally_clock.specs.Days.{seconds_between}
use Rattle.tally_records.specs.Choice.{is_among}
use Rattle.tally_records.specs.Event.{event_of}
use Rattle.tally_records.specs.declared.choice.LoginChoice.{LoginChoice}
use Rattle.tally_records.specs.declared.login.Event.{Event}
use Rattle.tally_records.specs.declared.login.Event.TheVariants.{Login, Logout, Boot, Down, OldTime, NewTime, Nothing}
use Rattle.tally_sessions.specs.Choice.{is_counted}
use Rattle.tally_sessions.specs.Stays.{is_boot_event, starts_stay}
use Rattle.tally_sessions.specs.Sums.{seconds_in, seconds_of_user, session_in, sessions_among}
use Rattle.tally_sessions.specs.Totals.{stays_of}
use Rattle.tally_sessions.specs.declared.entry.Entry.{Entry}
use Rattle.tally_sessions.specs.declared.entry.Stay.{Stay}
use Rattle.tally_sessions.specs.declared.sums.Session.{Session}
use Rattle.tally_sessions.specs.declared.track.ending.Ending.{Ending}
use Rattle.tally_sessions.specs.declared.track.ending.TrackedStay.{TrackedStay}
use Rattle.tally_sessions.specs.declared.track.Track.{Track}
use Rattle.tally_sessions.specs.inside.Chosen.{number_of}
use Rattle.tally_sessions.specs.inside.Numbers.{Numbers, StandsAt}
use Rattle.tally_sessions.specs.inside.Track.{ended_with, no_stay, start_of, stay_at, stay_now, HasUser, IsTrack}
use Rattle.tally_sessions.proofs.sums.HostSums.{seconds_joined, user_joined}
use Rattle.tally_sessions.proofs.sums.SessionLists.{sessions_among-append}
use Rattle.tally_sessions.proofs.track.StaysNow.{stay_here, stays_now}

-- the seconds of one session, and those of it that are a user's
pub one_second : (s : Session) → seconds_in (s ∷ []) ≡ seconds_between s.begin s.end_time
one_second s = let more = sum_by-cons (λ (x : Session). seconds_between x.begin x.end_time) s [] in omega (arith, more)

pub one_of_user : (user : List ℕ) (s : Session) → seconds_of_user user (s ∷ []) ≡ cond (bytes_eq s.user user) (seconds_between s.begin s.end_time) 0
one_of_user user s = by (bytes_eq s.user user)
  where
    by : (b : Bool) → seconds_in (cond b (s ∷ []) []) ≡ cond b (seconds_between s.begin s.end_time) 0
    by true = one_second s
    by false = refl

-- the session that a stay is has only seconds of its user
pub one_is_of_user : (choice : LoginChoice) (s : Stay) → seconds_in (sessions_among choice (s ∷ [])) ≡ seconds_of_user s.user (sessions_among choice (s ∷ []))
one_is_of_user choice s = by (is_counted choice s)
  where
    session : Session
    session = session_in choice.period s

    own : bytes_eq s.user s.user ≡ true
    own = (bytes_eq-Decides s.user s.user).1 refl

    by : (b : Bool) → seconds_in (map (session_in choice.period) (cond b (s ∷ []) [])) ≡ seconds_of_user s.user (map (session_in choice.period) (cond b (s ∷ []) []))
    by true = λ i. seconds_in (cond (sym own i) (session ∷ []) [])
    by false = refl

module _ (choice : LoginChoice) (host : ℕ) (es : List Entry) (a : Track) (until : Option ℤ) (i : ℕ) (h : IsTrack host es (length es) a) (within : i < length a.stays.items) where
  abbrev here : Stay
  here = stay_now host es a.clock (unwrap_or until a.last) (stay_at a.stays.items i)

  stay_more : take (i + 1) (stays_of host es until) ≡ take i (stays_of host es until) ++ here ∷ []
  stay_more =
      let f = stay_now host es a.clock (unwrap_or until a.last) in
      subst (λ ss. take (i + 1) ss ≡ take i ss ++ here ∷ []) (stays_now host es a until h)
      (take_more (map f a.stays.items) i (f no_stay) (omega (arith, within, length-map a.stays.items f))
      ∙ ap (λ s. take i (map f a.stays.items) ++ s ∷ []) (get_or-map f a.stays.items i no_stay (f no_stay) within))

  -- the sessions from the stay on are what it is and those after it
  pub sessions_from : (ss : List Session) → sessions_among choice (here ∷ []) ≡ ss
      → sessions_among choice (drop i (stays_of host es until)) ≡ ss ++ sessions_among choice (drop (i + 1) (stays_of host es until))
  sessions_from ss one =
      ap (sessions_among choice) (stay_here host es a until i h within)
      ∙ sessions_among-append choice (here ∷ []) (drop (i + 1) (stays_of host es until))
      ∙ ap (λ xs. xs ++ sessions_among choice (drop (i + 1) (stays_of host es until))) one

  sessions_more : sessions_among choice (take (i + 1) (stays_of host es until)) ≡ sessions_among choice (take i (stays_of host es until)) ++ sessions_among choice (here ∷ [])
  sessions_more = ap (sessions_among choice) stay_more ∙ sessions_among-append choice (take i (stays_of host es until)) (here ∷ [])

  pub seconds_more : seconds_in (sessions_among choice (take (i + 1) (stays_of host es until))) ≡ seconds_in (sessions_among choice (take i (stays_of host es until))) + seconds_in (sessions_among choice (here ∷ []))
  seconds_more = ap seconds_in sessions_more ∙ seconds_joined (sessions_among choice (take i (stays_of host es until))) (sessions_among choice (here ∷ []))

  pub user_more : (user : List ℕ) → seconds_of_user user (sessions_among choice (take (i + 1) (stays_of host es until)))
      ≡ seconds_of_user user (sessions_among choice (take i (stays_of host es until))) + seconds_of_user user (sessions_among choice (here ∷ []))
  user_more user = ap (seconds_of_user user) sessions_more ∙ user_joined user (sessions_among choice (take i (stays_of host es until))) (sessions_among choice (here ∷ []))

-- a stay that is a session has its user at its place
pub session_has_user : (choice : LoginChoice) (host : ℕ) (es : List Entry) (users : Numbers) (t : TrackedStay) (e : Ending) (s : Session) → HasUser es users t → starts_stay (event_of (start_of es t)) ≡ true
    → sessions_among choice (ended_with host (start_of es t) e ∷ []) ≡ s ∷ [] → StandsAt users t.user (start_of es t).user
session_has_user choice host es users t e s h starts one = by (event_of (start_of es t)) refl starts
  where
    stay : Stay
    stay = ended_with host (start_of es t) e

    no_boot : (b : Bool) → map (session_in choice.period) (cond (b && not true) (stay ∷ []) []) ≡ []
    no_boot true = refl
    no_boot false = refl

    named : Bool
    named = is_among choice.users (start_of es t).user && is_among choice.lines (start_of es t).line

    by : (event : Event) → event_of (start_of es t) ≡ event → starts_stay event ≡ true → StandsAt users t.user (start_of es t).user
    by Login is f = h.login is
    by Boot is f =
        let none : sessions_among choice (stay ∷ []) ≡ [] = (λ i. map (session_in choice.period) (cond (named && not (is_boot_event (is i))) (stay ∷ []) [])) ∙ no_boot named in
        absurd (omega (arith, ap length (sym one ∙ none)))
    by Logout is f = absurd (false≢true f)
    by Down is f = absurd (false≢true f)
    by OldTime is f = absurd (false≢true f)
    by NewTime is f = absurd (false≢true f)
    by Nothing is f = absurd (false≢true f)

-- the seconds of one session are few, for each user
pub few_of_user : (b : Bool) (n : ℕ) → n < 4294967296 → cond b n 0 ≤ 4294967295
few_of_user true n lt = omega (arith, lt)
few_of_user false n lt = omega arith

-- ---- numbers at the places of names

set-zip : (ks : List (List ℕ)) (ns : List ℕ) (i n : ℕ) → zip ks (set ns i n) ≡ set (zip ks ns) i (get_or ks i [], n)
set-zip [] ns i n = refl
set-zip (k ∷ ks) [] i n = refl
set-zip (k ∷ ks) (m ∷ ns) zero n = refl
set-zip (k ∷ ks) (m ∷ ns) (suc i) n = ap (λ es. (k, m) ∷ es) (set-zip ks ns i n)

pub length-zip : (ks : List (List ℕ)) (ns : List ℕ) → length ns ≡ length ks → length (zip ks ns) ≡ length ks
length-zip [] ns e = refl
length-zip (k ∷ ks) [] e = absurd (omega (arith, e))
length-zip (k ∷ ks) (n ∷ ns) e = let rest = length-zip ks ns (omega (arith, e)) in omega (arith, rest)

part_more : (b : Bool) (n m : ℕ) → cond b (n + m) 0 ≡ cond b n 0 + cond b m 0
part_more true n m = refl
part_more false n m = refl

-- more at the place of a name is more for that name alone
pub number_more : (user name : List ℕ) (ks : List (List ℕ)) (ns : List ℕ) (i m : ℕ) → length ns ≡ length ks → i < length ks → get_or ks i [] ≡ name
    → sum_by (number_of user) (zip ks (set ns i (get_or ns i 0 + m))) ≡ sum_by (number_of user) (zip ks ns) + cond (bytes_eq name user) m 0
number_more user name ks ns i m len lt is =
    let key : List ℕ = get_or ks i [] in
    let n : ℕ = get_or ns i 0 in
    let old : get_or (zip ks ns) i ([], 0) ≡ (key, n) = get_or-zip ks ns i ([], 0) lt (omega (arith, len, lt)) in
    let moved : sum_by (number_of user) (set (zip ks ns) i (key, n + m)) + number_of user (get_or (zip ks ns) i ([], 0)) ≡ sum_by (number_of user) (zip ks ns) + cond (bytes_eq key user) (n + m) 0 =
    sum_by-set (number_of user) (zip ks ns) i (key, n + m) ([], 0) (omega (arith, length-zip ks ns len, lt)) in
    let was : number_of user (get_or (zip ks ns) i ([], 0)) ≡ cond (bytes_eq key user) n 0 = ap (number_of user) old in
    let name_is : cond (bytes_eq key user) m 0 ≡ cond (bytes_eq name user) m 0 = ap (λ k. cond (bytes_eq k user) m 0) is in
    ap (sum_by (number_of user)) (set-zip ks ns i (n + m)) ∙ omega (arith, moved, was, part_more (bytes_eq key user) n m, name_is)

-- where all numbers are 0, each name has 0
pub none_yet : (user : List ℕ) (ks : List (List ℕ)) (ns : List ℕ) → ((i : ℕ) → get_or ns i 0 ≡ 0) → sum_by (number_of user) (zip ks ns) ≡ 0
none_yet user [] ns zeros = refl
none_yet user (k ∷ ks) [] zeros = refl
none_yet user (k ∷ ks) (n ∷ ns) zeros =
    let first : cond (bytes_eq k user) n 0 ≡ 0 = ap (λ m. cond (bytes_eq k user) m 0) (zeros 0) ∙ nothing (bytes_eq k user) in
    omega (arith, sum_by-cons (number_of user) (k, n) (zip ks ns), first, none_yet user ks ns (λ i. zeros (suc i)))
  where
    nothing : (b : Bool) → cond {A = ℕ} b 0 0 ≡ 0
    nothing true = refl
    nothing false = refl
