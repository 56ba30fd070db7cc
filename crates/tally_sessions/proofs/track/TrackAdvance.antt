-- The track of a host, after one record more.
use Rattle.std.proofs.Common.{◌≡◌, ◌⊎◌, inl, inr, ℕ, ◌+◌, ◌<◌, ◌≤◌, List, [], ◌∷◌, ◌++◌, map, length, take, Bool, true, false, cond, Option, Some, None, unwrap_or, ℤ, pos, ◌+ℤ◌, refl, sym, ap, ◌∙◌, arith, subst, length-append}
use Rattle.std.proofs.lemmas.Bool.{false≢true}
use Rattle.std.proofs.lemmas.List.{length-map, map-append, with_items_is}
use Rattle.std.specs.Option.{option_map}
use Rattle.std.specs.Prelude.{slice_get}
use Rattle.std.specs.Vec.{with_items, vec_len}
use Rattle.tally_records.specs.declared.login.LoginRecord.{LoginRecord}
use Rattle.tally_records.specs.declared.login.Event.{Event}
use Rattle.tally_records.specs.declared.login.Event.TheVariants.{Login, Logout, Boot, Down, OldTime, NewTime, Nothing}
use Rattle.tally_records.specs.Event.{event_of}
use Rattle.tally_sessions.specs.declared.track.ended.EndedSums.{EndedSums}
use Rattle.tally_sessions.specs.declared.entry.Entry.{Entry}
use Rattle.tally_sessions.specs.declared.track.ending.TheConstants.{NO_USER}
use Rattle.tally_sessions.specs.declared.track.ending.TrackedStay.{TrackedStay}
use Rattle.tally_sessions.specs.declared.track.Track.{Track}
use Rattle.tally_sessions.specs.Clock.{pending_old_time, shift_at}
use Rattle.tally_sessions.specs.inside.Numbers.{Numbers, StandsAt}
use Rattle.tally_sessions.specs.Hosts.{of_host}
use Rattle.tally_sessions.specs.inside.Entries.{entry_at}
use Rattle.tally_sessions.specs.Stays.{ends_stay, starts_stay, last_time}
use Rattle.tally_sessions.specs.inside.Track.{start_of, after, tracked_in, IsWithin, AreTracked, IsTrack, started, LeadsTo, ends_every_stay, sum_of, CanStart, HasSums}
use Rattle.tally_sessions.specs.inside.Tracking.{Tracked, pending_at, clock, tracked_from, advanced, fresh}
use Rattle.tally_sessions.proofs.track.Clocks.{pending_old_time-push}
use Rattle.tally_sessions.proofs.track.EndedSteps.{HasSums-start}
use Rattle.tally_sessions.proofs.track.Forward.{clock-push, last_time-push, tracked_from-push}
use Rattle.tally_sessions.proofs.sessions.HostSteps.{of_host-take_same}
use Rattle.tally_sessions.proofs.track.TrackSteps.{tracked_in-after, ends_alike}
use Rattle.tally_sessions.proofs.track.TrackedAdvance.{AreTracked-advance, Sweeps}

map-tracked_in : (host : ℕ) (es : List Entry) (now : ℤ) (x : LoginRecord) (ts : List TrackedStay) → map (tracked_in host es) (map (after es now x) ts) ≡ map (advanced host now x) (map (tracked_in host es) ts)
map-tracked_in host es now x [] = refl
map-tracked_in host es now x (t ∷ ts) =
    ap (λ y. y ∷ map (tracked_in host es) (map (after es now x) ts)) (tracked_in-after host es now x t)
    ∙ ap (λ ys. advanced host now x (tracked_in host es t) ∷ ys) (map-tracked_in host es now x ts)

started-fresh : (host : ℕ) (es : List Entry) (n : ℕ) (rs : List LoginRecord) (now : ℤ) (user : ℕ) → now ≡ clock (rs ++ (entry_at es n).item ∷ []) → map (tracked_in host es) (started es n now user) ≡ fresh rs (entry_at es n).item
started-fresh host es n rs now user e = by (starts_stay (event_of (entry_at es n).item)) ∙ ap (λ (z : ℤ). cond (starts_stay (event_of (entry_at es n).item)) (record { start = (entry_at es n).item; clock_at = z; ended = None } ∷ []) []) e
  where
    by : (b : Bool) → map (tracked_in host es) (cond b (record { entry = n; clock_at = now; ended = None; user = user; start = (entry_at es n).item.time } ∷ []) []) ≡ cond b (record { start = (entry_at es n).item; clock_at = now; ended = None } ∷ []) []
    by true = refl
    by false = refl

first_more : (rs : List LoginRecord) (x : LoginRecord) → Some (unwrap_or (option_map (λ (r : LoginRecord). r.time) (slice_get rs 0)) x.time) ≡ option_map (λ (r : LoginRecord). r.time) (slice_get (rs ++ x ∷ []) 0)
first_more [] x = refl
first_more (r ∷ rs) x = refl

length-started : (es : List Entry) (n : ℕ) (now : ℤ) (user : ℕ) → length (started es n now user) ≤ 1
length-started es n now user = by (starts_stay (event_of (entry_at es n).item))
  where
    by : (b : Bool) → length {A = TrackedStay} (cond b (record { entry = n; clock_at = now; ended = None; user = user; start = (entry_at es n).item.time } ∷ []) []) ≤ 1
    by true = omega arith
    by false = omega arith

pub IsTrack-advance : (es : List Entry) (n : ℕ) (track track' : Track) (user : ℕ) → n < length es → IsTrack (entry_at es n).host es n track
    → track'.clock ≡ track.clock +ℤ shift_at (event_of (entry_at es n).item) track.old_time (entry_at es n).item.time → IsWithin (n + 1) track'.clock
    → track'.old_time ≡ pending_at (event_of (entry_at es n).item) (entry_at es n).item.time track.old_time
    → track'.first ≡ Some (unwrap_or track.first (entry_at es n).item.time) → track'.last ≡ (entry_at es n).item.time
    → track'.stays.items ≡ map (after es track'.clock (entry_at es n).item) track.stays.items ++ started es n track'.clock user
    → Sweeps es n track.lines.entries track'.lines.entries track.swept track'.swept track.stays.items track'.clock user → track'.swept ≤ length track.stays.items
    → LeadsTo track.lines.entries track'.lines.entries (entry_at es n).item (length track.stays.items) → HasSums es track'.sums track'.stays.items
    → IsTrack (entry_at es n).host es (n + 1) track'
IsTrack-advance es n track track' user lt h clock_is within old_time_is first_is last_is stays_are sweeps swept_in leads sums =
    let x : LoginRecord = (entry_at es n).item in
    let host : ℕ = (entry_at es n).host in
    let rs : List LoginRecord = of_host host (take n es) in
    let more : of_host host (take (n + 1) es) ≡ rs ++ x ∷ [] = of_host-take_same host es n lt refl in
    let now : track'.clock ≡ clock (rs ++ x ∷ []) = clock_is ∙ ap (λ (z : ℤ). z +ℤ shift_at (event_of x) track.old_time x.time) h.clock ∙ ap (λ (o : Option ℤ). clock rs +ℤ shift_at (event_of x) o x.time) h.old_time ∙ sym (clock-push rs x) in
    let tracked : AreTracked es (n + 1) track'.lines.entries track'.swept (map (after es track'.clock x) track.stays.items ++ started es n track'.clock user) =
    AreTracked-advance es n track.lines.entries track'.lines.entries track.swept track'.swept track.stays.items track'.clock user h.tracked within sweeps swept_in leads in record {
      stays =
          ap (map (tracked_in host es)) stays_are
          ∙ map-append (tracked_in host es) (map (after es track'.clock x) track.stays.items) (started es n track'.clock user)
          ∙ ap (λ (ts : List Tracked). ts ++ map (tracked_in host es) (started es n track'.clock user)) (map-tracked_in host es track'.clock x track.stays.items ∙ ap (map (advanced host track'.clock x)) h.stays)
          ∙ ap (λ (ts : List Tracked). map (advanced host track'.clock x) (tracked_from host [] rs) ++ ts) (started-fresh host es n rs track'.clock user now)
          ∙ ap (λ (z : ℤ). map (advanced host z x) (tracked_from host [] rs) ++ fresh rs x) now
          ∙ sym (tracked_from-push host [] rs x)
          ∙ ap (tracked_from host []) (sym more);
      clock = now ∙ ap clock (sym more);
      moved = within;
      old_time = old_time_is ∙ ap (pending_at (event_of x) x.time) h.old_time ∙ sym (pending_old_time-push rs x) ∙ ap pending_old_time (sym more);
      first = first_is ∙ ap (λ (o : Option ℤ). Some (unwrap_or o x.time)) h.first ∙ first_more rs x ∙ ap (λ (ps : List LoginRecord). option_map (λ (r : LoginRecord). r.time) (slice_get ps 0)) (sym more);
      last = last_is ∙ sym (last_time-push (pos 0) rs x) ∙ ap (last_time (pos 0)) (sym more);
      swept = let e = ap length stays_are in
          let l = length-append (map (after es track'.clock x) track.stays.items) (started es n track'.clock user) in
          let m = length-map track.stays.items (after es track'.clock x) in omega arith;
      tracked = subst (AreTracked es (n + 1) track'.lines.entries track'.swept) (sym stays_are) tracked;
      count = let e = ap length stays_are in
          let l = length-append (map (after es track'.clock x) track.stays.items) (started es n track'.clock user) in
          let m = length-map track.stays.items (after es track'.clock x) in
          let one = length-started es n track'.clock user in
          let few = h.count in omega arith;
      sums = sums;
    }

-- a boot and a shutdown end every stay
pub sweeps_all : (es : List Entry) (x : LoginRecord) → ends_every_stay (event_of x) ≡ true → (t : TrackedStay) → starts_stay (event_of (start_of es t)) ≡ true → ends_stay (start_of es t) x ≡ true
sweeps_all es x h t starts = by (event_of x) refl h
  where
    by : (e : Event) → event_of x ≡ e → ends_every_stay e ≡ true → ends_stay (start_of es t) x ≡ true
    by Boot e h = ends_alike (start_of es t) x Boot true e starts (λ b. refl) (λ b. refl)
    by Down e h = ends_alike (start_of es t) x Down true e starts (λ b. refl) (λ b. refl)
    by Login e h = absurd (false≢true h)
    by Logout e h = absurd (false≢true h)
    by OldTime e h = absurd (false≢true h)
    by NewTime e h = absurd (false≢true h)
    by Nothing e h = absurd (false≢true h)

-- the steps of one record: the line's latest login, the times, the stays that end, the stay that starts
pub IsTrack-step : (es : List Entry) (n : ℕ) (lines : Numbers) (lined ticked swept done : Track) (ended : List TrackedStay) (sums : EndedSums) (sweep user : ℕ) → n < length es
    → IsTrack (entry_at es n).host es n (record lined { lines = lines }) → LeadsTo lines.entries lined.lines.entries (entry_at es n).item (vec_len lined.stays)
    → ticked.clock ≡ lined.clock +ℤ shift_at (event_of (entry_at es n).item) lined.old_time (entry_at es n).item.time → ((k : ℕ) → IsWithin k lined.clock → IsWithin (k + 1) ticked.clock)
    → ticked.old_time ≡ pending_at (event_of (entry_at es n).item) (entry_at es n).item.time lined.old_time
    → ticked.first ≡ Some (unwrap_or lined.first (entry_at es n).item.time) → ticked.last ≡ (entry_at es n).item.time
    → ticked.lines ≡ lined.lines → ticked.stays ≡ lined.stays
    → ended ≡ map (after es ticked.clock (entry_at es n).item) lined.stays.items
    → swept ≡ record { stays = with_items ticked.stays ended; swept = sweep; lines = ticked.lines; old_time = ticked.old_time; clock = ticked.clock; first = ticked.first; last = ticked.last; sums = sums }
    → (sweep ≡ lined.swept) ⊎ ((sweep ≡ length lined.stays.items) × (ends_every_stay (event_of (entry_at es n).item) ≡ true))
    → done.stays.items ≡ swept.stays.items ++ started es n swept.clock user
    → done ≡ record swept { stays = done.stays; sums = done.sums }
    → HasSums es sums ended → ((who : Option (List ℕ)) → sum_of done.sums who ≡ sum_of swept.sums who) → ((place : ℕ) (name : List ℕ) → StandsAt swept.sums.users place name → StandsAt done.sums.users place name)
    → (event_of (entry_at es n).item ≡ Login → StandsAt done.sums.users user (entry_at es n).item.user) → (event_of (entry_at es n).item ≡ Boot → user ≡ NO_USER)
    → length done.sums.users.entries + vec_len swept.stays ≤ length swept.sums.users.entries + vec_len done.stays
    → IsTrack (entry_at es n).host es (n + 1) done
IsTrack-step es n old_lines lined ticked swept done ended sums sweep user lt h leads clock_is within old_time_is first_is last_is lines_are same_stays ended_are swept_is sweeps stays_are rest ended_sums same_sums kept entered boot few =
    let x : LoginRecord = (entry_at es n).item in
    let old : Track = record lined { lines = old_lines } in
    let count : ticked.stays.len ≡ length lined.stays.items = ap (λ v. v.len) same_stays ∙ lined.stays.ok.0 in
    let clock : done.clock ≡ ticked.clock = ap (λ (t : Track). t.clock) rest ∙ ap (λ (t : Track). t.clock) swept_is in
    let place : done.swept ≡ sweep = ap (λ (t : Track). t.swept) rest ∙ ap (λ (t : Track). t.swept) swept_is in
    let lines : done.lines.entries ≡ lined.lines.entries = ap (λ (t : Track). t.lines.entries) rest ∙ ap (λ (t : Track). t.lines.entries) swept_is ∙ ap (λ l. l.entries) lines_are in
    let items : swept.stays.items ≡ ended = ap (λ (t : Track). t.stays.items) swept_is ∙ with_items_is ticked.stays ended (ap length ended_are ∙ length-map lined.stays.items (after es ticked.clock x) ∙ sym count) in
    let stays : done.stays.items ≡ map (after es done.clock x) lined.stays.items ++ started es n done.clock user =
    stays_are
    ∙ ap (λ (ts : List TrackedStay). ts ++ started es n swept.clock user) (items ∙ ended_are)
    ∙ ap (λ (t : Track). map (after es ticked.clock x) lined.stays.items ++ started es n t.clock user) swept_is
    ∙ ap (λ (z : ℤ). map (after es z x) lined.stays.items ++ started es n z user) (sym clock) in
    let swept_sums : HasSums es swept.sums swept.stays.items = subst (HasSums es swept.sums) (sym items) (subst (λ s. HasSums es s ended) (sym (ap (λ (t : Track). t.sums) swept_is)) ended_sums) in
    let few_users : length done.sums.users.entries + length swept.stays.items ≤ length swept.sums.users.entries + length (swept.stays.items ++ started es n swept.clock user) =
    omega (arith, few, swept.stays.ok.0, done.stays.ok.0, ap length stays_are) in
    IsTrack-advance es n old done user lt h
    (clock ∙ clock_is)
    (subst (IsWithin (n + 1)) (sym clock) (within n h.moved))
    (ap (λ (t : Track). t.old_time) rest ∙ ap (λ (t : Track). t.old_time) swept_is ∙ old_time_is)
    (ap (λ (t : Track). t.first) rest ∙ ap (λ (t : Track). t.first) swept_is ∙ first_is)
    (ap (λ (t : Track). t.last) rest ∙ ap (λ (t : Track). t.last) swept_is ∙ last_is)
    stays
    (by_sweep place sweeps)
    (within_stays place sweeps)
    (subst (λ k. LeadsTo old_lines.entries done.lines.entries x k) lined.stays.ok.0 (subst (λ ls. LeadsTo old_lines.entries ls x (vec_len lined.stays)) (sym lines) leads))
    (subst (HasSums es done.sums) (sym stays_are) (HasSums-start es n swept.clock user swept.sums done.sums swept.stays.items swept_sums same_sums kept entered boot few_users))
  where
    by_sweep : done.swept ≡ sweep → (sweep ≡ lined.swept) ⊎ ((sweep ≡ length lined.stays.items) × (ends_every_stay (event_of (entry_at es n).item) ≡ true))
        → Sweeps es n old_lines.entries done.lines.entries lined.swept done.swept lined.stays.items done.clock user
    by_sweep e (inl same) = inl (e ∙ same)
    by_sweep e (inr all) = inr (sweeps_all es (entry_at es n).item all.1)

    within_stays : done.swept ≡ sweep → (sweep ≡ lined.swept) ⊎ ((sweep ≡ length lined.stays.items) × (ends_every_stay (event_of (entry_at es n).item) ≡ true)) → done.swept ≤ length lined.stays.items
    within_stays e (inl same) = let i = h.swept in omega arith
    within_stays e (inr all) = let i = all.0 in omega arith

pub CanStart-swept : (m : ℕ) (ticked swept : Track) (ended : List TrackedStay) (sums : EndedSums) (sweep : ℕ) → CanStart m ticked → sums.users.spare ≡ ticked.sums.users.spare
    → swept ≡ record { stays = with_items ticked.stays ended; swept = sweep; lines = ticked.lines; old_time = ticked.old_time; clock = ticked.clock; first = ticked.first; last = ticked.last; sums = sums }
    → CanStart m swept
CanStart-swept m ticked swept ended sums sweep h room is = subst (CanStart m) (sym is) (record { stays = h.stays; users = subst (λ k. m ≤ k) (sym room) h.users })
