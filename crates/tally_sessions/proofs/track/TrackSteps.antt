-- What one record more does to the tracked stays of its host.
use Rattle.std.proofs.Common.{◌≡◌, ◌≢◌, ◌⊎◌, inl, inr, ℕ, ◌<◌, List, length, Bool, true, false, Option, Some, None, IsSome, is_some, ℤ, ◌-ℤ◌, refl, sym, ap, ◌∙◌, subst}
use Rattle.std.proofs.lemmas.Bool.{false≢true}
use Rattle.std.proofs.lemmas.Slice.Eq.{bytes_eq-Decides}
use Rattle.std.specs.Map.{lookup}
use Rattle.std.specs.Option.{option_or, option_map}
use Rattle.std.specs.Prelude.{bytes_eq, cond}
use Rattle.tally_records.specs.declared.login.LoginRecord.{LoginRecord}
use Rattle.tally_records.specs.declared.login.Event.{Event}
use Rattle.tally_records.specs.declared.login.Event.TheVariants.{Login, Logout, Boot, Down, OldTime, NewTime, Nothing}
use Rattle.tally_records.specs.Event.{event_of}
use Rattle.tally_sessions.specs.declared.entry.Entry.{Entry}
use Rattle.tally_sessions.specs.declared.track.ending.Ending.{Ending}
use Rattle.tally_sessions.specs.declared.track.ending.TrackedStay.{TrackedStay}
use Rattle.tally_sessions.specs.Stays.{ends_event, ends_stay, starts_stay}
use Rattle.tally_sessions.specs.inside.Track.{is_login_event, stay_at, start_of, ending_of, end_if, after, after_from, ends_line_stay, ended_with, tracked_in, IsTracked, AreTracked}
use Rattle.tally_sessions.specs.inside.Tracking.{Tracked, advanced, advance_if, ended_by}

-- an option without a value
pub none_from : {X : Type 0} (o : Option X) → is_some o ≡ false → o ≡ None
none_from None h = refl
none_from (Some x) h = absurd (false≢true (sym h))

pub is_login_of_event : (e : Event) → is_login_event e ≡ true → e ≡ Login
is_login_of_event Login h = refl
is_login_of_event Logout h = absurd (false≢true h)
is_login_of_event Boot h = absurd (false≢true h)
is_login_of_event Down h = absurd (false≢true h)
is_login_of_event OldTime h = absurd (false≢true h)
is_login_of_event NewTime h = absurd (false≢true h)
is_login_of_event Nothing h = absurd (false≢true h)

-- what is kept of a stay goes on as the stay does
pub tracked_in-after : (host : ℕ) (es : List Entry) (now : ℤ) (x : LoginRecord) (t : TrackedStay) → tracked_in host es (after es now x t) ≡ advanced host now x (tracked_in host es t)
tracked_in-after host es now x t = by t.ended
  where
    kept : Option Ending → Tracked
    kept e = record { start = start_of es t; clock_at = t.clock_at; ended = option_map (ended_with host (start_of es t)) e }

    ending : Ending
    ending = ending_of (start_of es t) (now -ℤ t.clock_at) x

    pending : (b : Bool) → kept (end_if b ending) ≡ record (kept None) { ended = ended_by host now x (kept None) (cond b (Some x) None) }
    pending true = refl
    pending false = refl

    by : (e : Option Ending) → kept (option_or e (end_if (ends_stay (start_of es t) x) ending)) ≡ advance_if host now x (kept e) (option_map (ended_with host (start_of es t)) e)
    by (Some e) = refl
    by None = pending (ends_stay (start_of es t) x)

-- a pending stay that is closed
pub after-closes : (start : LoginRecord) (now : ℤ) (x : LoginRecord) (t : TrackedStay) (ending : Ending) → t.ended ≡ None → ends_stay start x ≡ true
    → ending ≡ ending_of start (now -ℤ t.clock_at) x → record t { ended = Some ending } ≡ after_from start now x t
after-closes start now x t ending pending ends is =
    ap (λ (e : Ending). record t { ended = Some e }) is
    ∙ ap (λ b. record t { ended = end_if b (ending_of start (now -ℤ t.clock_at) x) }) (sym ends)
    ∙ ap (λ (o : Option Ending). record t { ended = option_or o (end_if (ends_stay start x) (ending_of start (now -ℤ t.clock_at) x)) }) (sym pending)

-- a stay that has ended
pub after-ended : (es : List Entry) (now : ℤ) (x : LoginRecord) (t : TrackedStay) → IsSome t.ended → after es now x t ≡ t
after-ended es now x t h = by t.ended h
  where
    other : Option Ending
    other = end_if (ends_stay (start_of es t) x) (ending_of (start_of es t) (now -ℤ t.clock_at) x)

    by : (e : Option Ending) → IsSome e → record t { ended = option_or e other } ≡ record t { ended = e }
    by (Some e) h = refl
    by None h = absurd (false≢true h)

-- a record that does not end the stay
pub after-none : (es : List Entry) (now : ℤ) (x : LoginRecord) (t : TrackedStay) → ends_stay (start_of es t) x ≡ false → after es now x t ≡ t
after-none es now x t h =
    ap (λ b. record t { ended = option_or t.ended (end_if b (ending_of (start_of es t) (now -ℤ t.clock_at) x)) }) h ∙ by t.ended
  where
    by : (e : Option Ending) → record t { ended = option_or e None } ≡ record t { ended = e }
    by (Some e) = refl
    by None = refl

-- a record that ends the stay leaves it ended
pub after-ends : (es : List Entry) (now : ℤ) (x : LoginRecord) (t : TrackedStay) → ends_stay (start_of es t) x ≡ true → IsSome (after es now x t).ended
after-ends es now x t h = subst (λ b. IsSome (option_or t.ended (end_if b (ending_of (start_of es t) (now -ℤ t.clock_at) x)))) (sym h) (by t.ended)
  where
    by : (e : Option Ending) → IsSome (option_or e (Some (ending_of (start_of es t) (now -ℤ t.clock_at) x)))
    by (Some e) = refl
    by None = refl

-- where a stay is pending after a record, it was before it, and the record does not end it
pub after-pending : (es : List Entry) (now : ℤ) (x : LoginRecord) (t : TrackedStay) → (after es now x t).ended ≡ None → (t.ended ≡ None) × (ends_stay (start_of es t) x ≡ false)
after-pending es now x t h = by t.ended (ends_stay (start_of es t) x) h
  where
    by : (e : Option Ending) (b : Bool) → option_or e (end_if b (ending_of (start_of es t) (now -ℤ t.clock_at) x)) ≡ None → (e ≡ None) × (b ≡ false)
    by (Some e) b h = cc
    by None true h = cc
    by None false h = (refl, refl)

-- a record with this event ends each stay, or none, as the events say
pub ends_alike : (r x : LoginRecord) (e : Event) (ends : Bool) → event_of x ≡ e → starts_stay (event_of r) ≡ true → ((b : Bool) → ends_event Login e b ≡ ends) → ((b : Bool) → ends_event Boot e b ≡ ends) → ends_stay r x ≡ ends
ends_alike r x e ends is starts login boot = by (event_of r) starts
  where
    by : (s : Event) → starts_stay s ≡ true → ends_event s (event_of x) (bytes_eq r.line x.line) ≡ ends
    by Login h = ap (λ y. ends_event Login y (bytes_eq r.line x.line)) is ∙ login (bytes_eq r.line x.line)
    by Boot h = ap (λ y. ends_event Boot y (bytes_eq r.line x.line)) is ∙ boot (bytes_eq r.line x.line)
    by Logout h = absurd (false≢true h)
    by Down h = absurd (false≢true h)
    by OldTime h = absurd (false≢true h)
    by NewTime h = absurd (false≢true h)
    by Nothing h = absurd (false≢true h)

-- a login and a logout end the login on their line
pub ends_on_line : (r x : LoginRecord) (e : Event) → event_of r ≡ Login → event_of x ≡ e → (e ≡ Login) ⊎ (e ≡ Logout) → r.line ≡ x.line → ends_stay r x ≡ true
ends_on_line r x e login is on same =
    ap (λ s. ends_event s (event_of x) (bytes_eq r.line x.line)) login
    ∙ ap (λ b. ends_event Login (event_of x) b) ((bytes_eq-Decides r.line x.line).1 same)
    ∙ ap (λ s. ends_event Login s true) is ∙ by e on
  where
    by : (s : Event) → (s ≡ Login) ⊎ (s ≡ Logout) → ends_event Login s true ≡ true
    by s (inl h) = ap (λ t. ends_event Login t true) h
    by s (inr h) = ap (λ t. ends_event Login t true) h

-- a record on a line ends a stay at most where the line leads to it
pub after-off_line : (es : List Entry) (n : ℕ) (lines : List (List ℕ × ℕ)) (swept : ℕ) (stays : List TrackedStay) (now : ℤ) (x : LoginRecord) (e : Event) → AreTracked es n lines swept stays
    → event_of x ≡ e → ((b : Bool) → ends_event Login e b ≡ b) → ((b : Bool) → ends_event Boot e b ≡ false)
    → (k : ℕ) → k < length stays → lookup (bytes_eq x.line) lines ≢ Some k → after es now x (stay_at stays k) ≡ stay_at stays k
after-off_line es n lines swept stays now x e h is login boot k lt off = by (stay_at stays k) (h.at k lt)
  where
    by : (t : TrackedStay) → IsTracked es n lines swept k t → after es now x t ≡ t
    by t at = by_end t.ended refl
      where
        by_start : (s : Event) → event_of (start_of es t) ≡ s → starts_stay s ≡ true → t.ended ≡ None → ends_stay (start_of es t) x ≡ false
        by_start Login s h pending = by_line (bytes_eq (start_of es t).line x.line) refl
          where
            by_line : (b : Bool) → bytes_eq (start_of es t).line x.line ≡ b → ends_stay (start_of es t) x ≡ false
            by_line true b =
                let same = (bytes_eq-Decides (start_of es t).line x.line).0 b in
                absurd (off (subst (λ l. lookup (bytes_eq l) lines ≡ Some k) same (at.found pending s)))
            by_line false b = ap (λ y. ends_event y (event_of x) (bytes_eq (start_of es t).line x.line)) s ∙ ap (λ y. ends_event Login y (bytes_eq (start_of es t).line x.line)) is ∙ login _ ∙ b
        by_start Boot s h pending = ap (λ y. ends_event y (event_of x) (bytes_eq (start_of es t).line x.line)) s ∙ ap (λ y. ends_event Boot y (bytes_eq (start_of es t).line x.line)) is ∙ boot _
        by_start Logout s h pending = absurd (false≢true h)
        by_start Down s h pending = absurd (false≢true h)
        by_start OldTime s h pending = absurd (false≢true h)
        by_start NewTime s h pending = absurd (false≢true h)
        by_start Nothing s h pending = absurd (false≢true h)

        by_end : (o : Option Ending) → t.ended ≡ o → after es now x t ≡ t
        by_end (Some e) o = after-ended es now x t (subst IsSome (sym o) refl)
        by_end None o = after-none es now x t (by_start (event_of (start_of es t)) refl at.starts o)

-- any other record ends nothing
pub after-nothing : (es : List Entry) (n : ℕ) (lines : List (List ℕ × ℕ)) (swept : ℕ) (stays : List TrackedStay) (now : ℤ) (x : LoginRecord) → AreTracked es n lines swept stays
    → event_of x ≢ Login → event_of x ≢ Logout → event_of x ≢ Boot → event_of x ≢ Down
    → (k : ℕ) → k < length stays → after es now x (stay_at stays k) ≡ stay_at stays k
after-nothing es n lines swept stays now x h login logout boot down k lt = after-none es now x (stay_at stays k) (by (event_of x) refl)
  where
    by : (e : Event) → event_of x ≡ e → ends_stay (start_of es (stay_at stays k)) x ≡ false
    by Login e = absurd (login e)
    by Logout e = absurd (logout e)
    by Boot e = absurd (boot e)
    by Down e = absurd (down e)
    by OldTime e = ends_alike (start_of es (stay_at stays k)) x OldTime false e (h.at k lt).starts (λ b. refl) (λ b. refl)
    by NewTime e = ends_alike (start_of es (stay_at stays k)) x NewTime false e (h.at k lt).starts (λ b. refl) (λ b. refl)
    by Nothing e = ends_alike (start_of es (stay_at stays k)) x Nothing false e (h.at k lt).starts (λ b. refl) (λ b. refl)

pub some_inj : (m n : ℕ) → Some m ≡ Some n → m ≡ n
some_inj m n e = cc

pub some≢none : (m : ℕ) → Some m ≢ None
some≢none m e = cc

-- the same for a login and a logout
pub after-line_event : (es : List Entry) (n : ℕ) (lines : List (List ℕ × ℕ)) (swept : ℕ) (stays : List TrackedStay) (now : ℤ) (x : LoginRecord) (e : Event) → AreTracked es n lines swept stays
    → event_of x ≡ e → (e ≡ Login) ⊎ (e ≡ Logout)
    → (k : ℕ) → k < length stays → lookup (bytes_eq x.line) lines ≢ Some k → after es now x (stay_at stays k) ≡ stay_at stays k
after-line_event es n lines swept stays now x e h is (inl login) k lt off = after-off_line es n lines swept stays now x Login h (is ∙ login) (λ b. refl) (λ b. refl) k lt off
after-line_event es n lines swept stays now x e h is (inr logout) k lt off = after-off_line es n lines swept stays now x Logout h (is ∙ logout) (λ b. refl) (λ b. refl) k lt off

-- what has ended stays so
pub after-keeps : (es : List Entry) (now : ℤ) (x : LoginRecord) (t : TrackedStay) (e : Ending) → t.ended ≡ Some e → (after es now x t).ended ≡ Some e
after-keeps es now x t e h = ap (λ o. option_or o (end_if (ends_stay (start_of es t) x) (ending_of (start_of es t) (now -ℤ t.clock_at) x))) h

-- which events end the login on their line
pub line_event : (e : Event) → ends_line_stay e ≡ true → (e ≡ Login) ⊎ (e ≡ Logout)
line_event Login h = inl refl
line_event Logout h = inr refl
line_event Boot h = absurd (false≢true h)
line_event Down h = absurd (false≢true h)
line_event OldTime h = absurd (false≢true h)
line_event NewTime h = absurd (false≢true h)
line_event Nothing h = absurd (false≢true h)

-- an event that passes no test of ends is none that ends a stay
pub not_by_test : (test : Event → Bool) (e s : Event) → test e ≡ false → test s ≡ true → e ≢ s
not_by_test test e s h is same = false≢true (sym h ∙ ap test same ∙ is)
