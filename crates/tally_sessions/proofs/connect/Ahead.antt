-- The stays from a place on, one stay or one host further.
use Rattle.std.proofs.Common.{◌≡◌, ℕ, ◌+◌, ◌<◌, ◌≤◌, List, [], ◌∷◌, ◌++◌, drop, Option, ℤ, refl, sym, ap, ◌∙◌, arith}
use Rattle.std.proofs.lemmas.List.{at_drop_more, drop_all}
use Rattle.std.proofs.lemmas.List.FromFn.{get_or-range_with_len, length-range_with_len}
use Rattle.std.specs.List.{flat_map, range_with_len}
use Rattle.tally_records.specs.declared.choice.LoginChoice.{LoginChoice}
use Rattle.tally_sessions.specs.declared.connect.walk.Place.{Place}
use Rattle.tally_sessions.specs.declared.entry.Entry.{Entry}
use Rattle.tally_sessions.specs.declared.sums.Session.{Session}
use Rattle.tally_sessions.specs.Sums.{sessions_among, sessions_of}
use Rattle.tally_sessions.specs.Totals.{every_host, stays_of}
use Rattle.tally_sessions.specs.inside.Walk.{sessions_ahead, stays_after, stays_ahead}
use Rattle.tally_sessions.proofs.sums.SessionLists.{sessions_among-append}

-- each host stands at its own number
host_first : (host : ℕ) → host < 128 → drop host every_host ≡ host ∷ drop (host + 1) every_host
unfolding every_host
host_first host lt =
    let all = length-range_with_len 0 128 in
    let is : 0 + host ≡ host = omega arith in
    at_drop_more (λ hs. hs) (range_with_len 0 128) host 0 (omega arith)
    ∙ ap (λ h. h ∷ drop (host + 1) (range_with_len 0 128)) (get_or-range_with_len 0 128 host 0 lt ∙ is)

hosts_end : (host : ℕ) → 128 ≤ host → drop host every_host ≡ []
unfolding every_host
hosts_end host le = let all = length-range_with_len 0 128 in drop_all host (range_with_len 0 128) (omega arith)

all_after : (hosts : List ℕ) (es : List Entry) (until : Option ℤ) → stays_after 0 hosts es until ≡ flat_map (λ host. stays_of host es until) hosts
all_after [] es until = refl
all_after (host ∷ hosts) es until = refl

module _ (choice : LoginChoice) (at : Place) (es : List Entry) (until : Option ℤ) where
  abbrev rest : List Session
  rest = sessions_among choice (flat_map (λ host. stays_of host es until) (drop (at.host + 1) every_host))

  abbrev left : ℕ → List Session
  left stay = sessions_among choice (drop stay (stays_of at.host es until))

  -- those of the host, and those of the hosts after it
  ahead_is : (stay : ℕ) → at.host < 128 → sessions_ahead (record { host = at.host; stay = stay }) choice es until ≡ left stay ++ rest
  ahead_is stay lt =
      ap (λ hosts. sessions_among choice (stays_after stay hosts es until)) (host_first at.host lt)
      ∙ sessions_among-append choice (drop stay (stays_of at.host es until)) (flat_map (λ host. stays_of host es until) (drop (at.host + 1) every_host))

  -- the next session of the host
  pub session_further : (stay : ℕ) (s : Session) → at.host < 128 → left at.stay ≡ s ∷ left stay
      → sessions_ahead at choice es until ≡ s ∷ sessions_ahead (record { host = at.host; stay = stay }) choice es until
  session_further stay s lt next = ahead_is at.stay lt ∙ ap (λ ss. ss ++ rest) next ∙ ap (λ ss. s ∷ ss) (sym (ahead_is stay lt))

  -- the next host, where this one has no more
  pub host_further : at.host < 128 → left at.stay ≡ [] → sessions_ahead at choice es until ≡ sessions_ahead (record { host = at.host + 1; stay = 0 }) choice es until
  host_further lt none =
      ahead_is at.stay lt ∙ ap (λ ss. ss ++ rest) none ∙ ap (sessions_among choice) (sym (all_after (drop (at.host + 1) every_host) es until))

-- no host is left
pub none_further : (at : Place) (es : List Entry) (until : Option ℤ) → 128 ≤ at.host → stays_ahead at es until ≡ []
none_further at es until le = ap (λ hosts. stays_after at.stay hosts es until) (hosts_end at.host le)

all_sessions : (choice : LoginChoice) (hosts : List ℕ) (es : List Entry) (until : Option ℤ) → sessions_among choice (flat_map (λ host. stays_of host es until) hosts) ≡ flat_map (λ host. sessions_among choice (stays_of host es until)) hosts
all_sessions choice [] es until = refl
all_sessions choice (host ∷ hosts) es until =
    sessions_among-append choice (stays_of host es until) (flat_map (λ next. stays_of next es until) hosts)
    ∙ ap (λ ss. sessions_among choice (stays_of host es until) ++ ss) (all_sessions choice hosts es until)

-- before the first, all sessions are ahead
pub all_ahead : (choice : LoginChoice) (es : List Entry) (until : Option ℤ) → sessions_ahead (record { host = 0; stay = 0 }) choice es until ≡ sessions_of choice es until
all_ahead choice es until = ap (sessions_among choice) (all_after every_host es until) ∙ all_sessions choice every_host es until
