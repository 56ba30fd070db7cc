-- The sums over all sessions, where no choice leaves one out: those that are counted as sessions end.
use Rattle.std.proofs.Common.{◌≡◌, ℕ, ℤ, ◌+◌, Bool, true, false, cond, List, [], ◌∷◌, ◌++◌, Option, None, Some, All, map, filter, sum, sum_by, refl, sym, ap, ◌∙◌}
use Rattle.std.proofs.lemmas.List.Elements.{All-cons, All-head, All-nil, All-tail}
use Rattle.std.proofs.lemmas.List.Sums.{sum_by-append, sum_by-cons}
use Rattle.std.proofs.lemmas.List.Elements.{filter-append}
use Rattle.std.specs.List.{flat_map, list_any}
use Rattle.std.specs.Prelude.{◌&&◌, ◌||◌, bytes_eq, is_some, not}
use Rattle.tally_clock.specs.Days.{seconds_between}
use Rattle.tally_records.specs.Choice.{every_login, is_every_login, is_name, names_nothing}
use Rattle.tally_records.specs.Event.{event_of}
use Rattle.tally_records.specs.Period.{always, is_always}
use Rattle.tally_records.specs.declared.choice.LoginChoice.{LoginChoice}
use Rattle.tally_records.specs.declared.login.LoginRecord.{LoginRecord}
use Rattle.tally_records.specs.declared.period.Period.{Period}
use Rattle.tally_sessions.specs.Choice.{is_counted}
use Rattle.tally_sessions.specs.Hosts.{of_host}
use Rattle.tally_sessions.specs.Stays.{seconds_of, starts_stay, stay_of, stays_from}
use Rattle.tally_sessions.specs.Sums.{seconds_in, seconds_of_user, session_in, sessions_among, sessions_of}
use Rattle.tally_sessions.specs.Totals.{connect_of, every_host, session_seconds, stays_of, total_of, user_seconds}
use Rattle.tally_sessions.specs.declared.entry.Entry.{Entry}
use Rattle.tally_sessions.specs.declared.entry.Stay.{Stay}
use Rattle.tally_sessions.specs.declared.sums.Session.{Session}

both : (a b : Bool) → (a && b) ≡ true → (a ≡ true) × (b ≡ true)
both true b h = (refl, h)
both false b h = absurd (cc)

-- a stay is as long as the seconds from its beginning to its end
abbrev pub HasLength : Stay → Type 0
HasLength s = s.length ≡ seconds_between s.begin s.end_time

stay_has_length : (host : ℕ) (before : List LoginRecord) (r : LoginRecord) (after : List LoginRecord) (until : Option ℤ) → HasLength (stay_of host before r after until)
unfolding seconds_of
stay_has_length host before r after until = refl

pub stays_from_have_lengths : (host : ℕ) (before rs : List LoginRecord) (until : Option ℤ) → All HasLength (stays_from host before rs until)
stays_from_have_lengths host before [] until = All-nil HasLength
stays_from_have_lengths host before (r ∷ after) until = by (starts_stay (event_of r)) (stays_from_have_lengths host (before ++ r ∷ []) after until)
  where
    by : (b : Bool) → All HasLength (stays_from host (before ++ r ∷ []) after until)
        → All HasLength (cond b (stay_of host before r after until ∷ stays_from host (before ++ r ∷ []) after until) (stays_from host (before ++ r ∷ []) after until))
    by true h = All-cons HasLength (stay_of host before r after until) (stays_from host (before ++ r ∷ []) after until) (stay_has_length host before r after until) h
    by false h = h

pub lengths : (host : ℕ) (es : List Entry) (until : Option ℤ) → All HasLength (stays_of host es until)
lengths host es until = stays_from_have_lengths host [] (of_host host es) until

-- the lengths of sessions are their seconds
pub total_among : (ss : List Stay) → All HasLength ss → session_seconds ss ≡ seconds_in (sessions_among every_login ss)
total_among [] h = refl
total_among (s ∷ ss) h = by s.is_boot (total_among ss (All-tail HasLength s ss h))
  where
    kept : List Stay
    kept = filter (λ (x : Stay). not x.is_boot) ss

    by : (boot : Bool) → session_seconds ss ≡ seconds_in (sessions_among every_login ss)
        → sum_by (λ (x : Stay). x.length) (cond (not boot) (s ∷ kept) kept) ≡ seconds_in (map (session_in always) (cond (not boot) (s ∷ kept) kept))
    by true rest = rest
    by false rest =
        sum_by-cons (λ (x : Stay). x.length) s kept ∙ (λ i. All-head HasLength s ss h i + rest i)
        ∙ sym (sum_by-cons (λ (x : Session). seconds_between x.begin x.end_time) (session_in always s) (map (session_in always) kept))

pub user_among : (user : List ℕ) (ss : List Stay) → All HasLength ss → user_seconds user ss ≡ seconds_of_user user (sessions_among every_login ss)
user_among user [] h = refl
user_among user (s ∷ ss) h = by s.is_boot (bytes_eq s.user user) refl (user_among user ss (All-tail HasLength s ss h))
  where
    kept : List Stay
    kept = filter (λ (x : Stay). not x.is_boot) ss

    own : List Stay
    own = filter (λ (x : Stay). not x.is_boot && bytes_eq x.user user) ss

    by : (boot is_own : Bool) → bytes_eq s.user user ≡ is_own → user_seconds user ss ≡ seconds_of_user user (sessions_among every_login ss)
        → sum_by (λ (x : Stay). x.length) (cond (not boot && is_own) (s ∷ own) own)
        ≡ seconds_of_user user (map (session_in always) (cond (not boot) (s ∷ kept) kept))
    by true is_own e rest = rest
    by false true e rest =
        sum_by-cons (λ (x : Stay). x.length) s own ∙ (λ i. All-head HasLength s ss h i + rest i)
        ∙ sym (sum_by-cons (λ (x : Session). seconds_between x.begin x.end_time) (session_in always s) (filter (λ (x : Session). bytes_eq x.user user) (map (session_in always) kept)))
        ∙ (λ i. seconds_in (cond (sym e i) (session_in always s ∷ filter (λ (x : Session). bytes_eq x.user user) (map (session_in always) kept)) (filter (λ (x : Session). bytes_eq x.user user) (map (session_in always) kept))))
    by false false e rest =
        rest ∙ (λ i. seconds_in (cond (sym e i) (session_in always s ∷ filter (λ (x : Session). bytes_eq x.user user) (map (session_in always) kept)) (filter (λ (x : Session). bytes_eq x.user user) (map (session_in always) kept))))

-- and over hosts
totals : (es : List Entry) (until : Option ℤ) (hosts : List ℕ)
    → sum (map (λ host. session_seconds (stays_of host es until)) hosts) ≡ seconds_in (flat_map (λ host. sessions_among every_login (stays_of host es until)) hosts)
totals es until [] = refl
totals es until (host ∷ hosts) =
    let f : Session → ℕ = λ s. seconds_between s.begin s.end_time in
    let of : ℕ → List Session = λ h. sessions_among every_login (stays_of h es until) in
    sum_by-cons (λ (x : ℕ). x) (session_seconds (stays_of host es until)) (map (λ h. session_seconds (stays_of h es until)) hosts)
    ∙ (λ i. total_among (stays_of host es until) (lengths host es until) i + totals es until hosts i) ∙ sym (sum_by-append f (of host) (flat_map of hosts))

pub every_total : (es : List Entry) (until : Option ℤ) → total_of es until ≡ seconds_in (sessions_of every_login es until)
every_total es until = totals es until every_host

users : (user : List ℕ) (es : List Entry) (until : Option ℤ) (hosts : List ℕ)
    → sum (map (λ host. user_seconds user (stays_of host es until)) hosts) ≡ seconds_of_user user (flat_map (λ host. sessions_among every_login (stays_of host es until)) hosts)
users user es until [] = refl
users user es until (host ∷ hosts) =
    let f : Session → ℕ = λ s. seconds_between s.begin s.end_time in
    let is_own : Session → Bool = λ s. bytes_eq s.user user in
    let of : ℕ → List Session = λ h. sessions_among every_login (stays_of h es until) in
    sum_by-cons (λ (x : ℕ). x) (user_seconds user (stays_of host es until)) (map (λ h. user_seconds user (stays_of h es until)) hosts)
    ∙ (λ i. user_among user (stays_of host es until) (lengths host es until) i + users user es until hosts i)
    ∙ sym (ap (sum_by f) (filter-append is_own (of host) (flat_map of hosts)) ∙ sum_by-append f (filter is_own (of host)) (filter is_own (flat_map of hosts)))

pub every_user : (user : List ℕ) (es : List Entry) (until : Option ℤ) → connect_of user es until ≡ seconds_of_user user (sessions_of every_login es until)
every_user user es until = users user es until every_host

none_is : {X : Type 0} → (o : Option X) → not (is_some o) ≡ true → o ≡ None
none_is None h = refl
none_is (Some x) h = absurd (cc)

pub always_is : (p : Period) → is_always p ≡ true → p ≡ always
always_is p h =
    let parts = both (not (is_some p.from)) (not (is_some p.to)) h in
    λ i. record { from = none_is p.from parts.0 i; to = none_is p.to parts.1 i }

-- what a choice that leaves nothing out is like
pub record LeavesAll (choice : LoginChoice) : Type 0 where
  pub users : names_nothing choice.users ≡ true
  pub lines : names_nothing choice.lines ≡ true
  pub period : is_always choice.period ≡ true

pub every_parts : (choice : LoginChoice) → is_every_login choice ≡ true → LeavesAll choice
every_parts choice h =
    let parts = both (names_nothing choice.users && names_nothing choice.lines) (is_always choice.period) h in
    let names = both (names_nothing choice.users) (names_nothing choice.lines) parts.0 in
    record { users = names.0; lines = names.1; period = parts.1 }

counted_alike : (choice : LoginChoice) → names_nothing choice.users ≡ true → names_nothing choice.lines ≡ true → is_counted choice ≡ is_counted every_login
counted_alike choice users lines =
    λ i. λ s. ((users i || list_any (is_name s.user) choice.users) && (lines i || list_any (is_name s.line) choice.lines)) && not s.is_boot

among_alike : (choice : LoginChoice) → is_every_login choice ≡ true → sessions_among choice ≡ sessions_among every_login
among_alike choice h =
    let parts = every_parts choice h in
    λ i. λ stays. map (session_in (always_is choice.period parts.period i)) (filter (counted_alike choice parts.users parts.lines i) stays)

-- a choice that leaves nothing out has all sessions
pub every_chosen : (choice : LoginChoice) (es : List Entry) (until : Option ℤ) → is_every_login choice ≡ true → sessions_of choice es until ≡ sessions_of every_login es until
every_chosen choice es until h = λ i. flat_map (λ host. among_alike choice h i (stays_of host es until)) every_host
