-- The tracked stays of a host and the table of its lines, after one record more.
use Rattle.std.proofs.Common.{◌≡◌, ◌≢◌, ◌⊎◌, inl, inr, ℕ, ◌+◌, ◌<◌, ◌≤◌, ◌&&◌, List, [], ◌∷◌, ◌++◌, map, length, get_or, Bool, true, false, cond, Some, None, IsSome, ℤ, refl, sym, ap, ◌∙◌, arith, subst, length-append}
use Rattle.std.proofs.lemmas.Int.{ints}
use Rattle.std.proofs.lemmas.Bool.{false≢true, cases_eq}
use Rattle.std.proofs.lemmas.List.{length-map, get_or-map, get_or_append_left}
use Rattle.std.proofs.Math.Seq.{get_or-append_seam}
use Rattle.std.proofs.lemmas.Slice.Eq.{bytes_eq-Decides}
use Rattle.std.specs.Map.{lookup}
use Rattle.std.specs.Prelude.{bytes_eq}
use Rattle.tally_records.specs.declared.login.LoginRecord.{LoginRecord}
use Rattle.tally_records.specs.declared.login.Event.{Event}
use Rattle.tally_records.specs.declared.login.Event.TheVariants.{Login, Logout, Boot, Down, OldTime, NewTime, Nothing}
use Rattle.tally_records.specs.Event.{event_of}
use Rattle.tally_sessions.specs.declared.entry.Entry.{Entry}
use Rattle.tally_sessions.specs.declared.track.ending.TrackedStay.{TrackedStay}
use Rattle.tally_sessions.specs.inside.Entries.{entry_at}
use Rattle.tally_sessions.specs.Stays.{ends_event, ends_stay, starts_stay}
use Rattle.tally_sessions.specs.inside.Track.{is_login_event, no_stay, stay_at, start_of, after, IsWithin, IsTracked, IsOnLine, AreTracked, started, LeadsTo}
use Rattle.tally_sessions.proofs.track.Names.{same_both_ways}
use Rattle.tally_sessions.proofs.track.TrackSteps.{after-ended, after-ends, after-pending, is_login_of_event, some_inj}

pub IsWithin-more : (n : ℕ) (z : ℤ) → IsWithin n z → IsWithin (n + 1) z
IsWithin-more n z h = let a = h.low in let b = h.high in record { low = omega (arith, ints); high = omega (arith, ints) }

pub IsWithin-all : (n m : ℕ) (z : ℤ) → n ≤ m → IsWithin n z → IsWithin m z
IsWithin-all n m z le h = let a = h.low in let b = h.high in record { low = omega (arith, ints); high = omega (arith, ints) }

-- a login that is pending after a record is not on the line of a login
off_line : (r x : LoginRecord) → event_of r ≡ Login → ends_stay r x ≡ false → (is_login_event (event_of x) && bytes_eq x.line r.line) ≡ false
off_line r x login none = by (event_of x) (ap (λ e. ends_event e (event_of x) (bytes_eq r.line x.line)) (sym login) ∙ none)
  where
    by : (e : Event) → ends_event Login e (bytes_eq r.line x.line) ≡ false → (is_login_event e && bytes_eq x.line r.line) ≡ false
    by Login h = same_both_ways r.line x.line false h
    by Logout h = refl
    by Boot h = refl
    by Down h = refl
    by OldTime h = refl
    by NewTime h = refl
    by Nothing h = refl

module _ (es : List Entry) (n : ℕ) (lines lines' : List (List ℕ × ℕ)) (swept swept' : ℕ) (stays : List TrackedStay) (now : ℤ) (user : ℕ) where
  abbrev x : LoginRecord
  x = (entry_at es n).item

  abbrev later : List TrackedStay
  later = map (after es now x) stays ++ started es n now user

  stay_before : (k : ℕ) → k < length stays → stay_at later k ≡ after es now x (stay_at stays k)
  stay_before k lt =
      get_or_append_left (map (after es now x) stays) (started es n now user) no_stay k (omega (arith, length-map stays (after es now x)))
      ∙ get_or-map (after es now x) stays k no_stay no_stay lt

  abbrev new : TrackedStay
  new = record { entry = n; clock_at = now; ended = None; user = user; start = x.time }

  started_is : (b : Bool) → starts_stay (event_of x) ≡ b → started es n now user ≡ cond b (new ∷ []) []
  started_is b h = ap (λ t. cond t (new ∷ []) []) h

  stay_new : starts_stay (event_of x) ≡ true → stay_at later (length stays) ≡ new
  stay_new h =
      ap (λ ss. get_or (map (after es now x) stays ++ ss) (length stays) no_stay) (started_is true h)
      ∙ ap (λ k. get_or (map (after es now x) stays ++ new ∷ []) k no_stay) (sym (length-map stays (after es now x)))
      ∙ get_or-append_seam (map (after es now x) stays) new [] no_stay

  length_after : (b : Bool) → starts_stay (event_of x) ≡ b → length later ≡ length stays + length (cond b (new ∷ []) [])
  length_after b h =
      length-append (map (after es now x) stays) (started es n now user)
      ∙ ap (λ k. k + length (started es n now user)) (length-map stays (after es now x))
      ∙ ap (λ ss. length stays + length ss) (started_is b h)

  login_starts : is_login_event (event_of x) ≡ true → starts_stay (event_of x) ≡ true
  login_starts = by (event_of x)
    where
      by : (e : Event) → is_login_event e ≡ true → starts_stay e ≡ true
      by Login h = refl
      by Logout h = absurd (false≢true h)
      by Boot h = refl
      by Down h = absurd (false≢true h)
      by OldTime h = absurd (false≢true h)
      by NewTime h = absurd (false≢true h)
      by Nothing h = absurd (false≢true h)

  both : (a b : Bool) → (a && b) ≡ true → (a ≡ true) × (b ≡ true)
  both true b h = (refl, h)
  both false b h = absurd (false≢true h)

  -- the record ends every stay, or the sweep is where it was
  abbrev pub Sweeps : Type 0
  Sweeps = (swept' ≡ swept) ⊎ ((t : TrackedStay) → starts_stay (event_of (start_of es t)) ≡ true → ends_stay (start_of es t) x ≡ true)

  pub AreTracked-advance : AreTracked es n lines swept stays → IsWithin (n + 1) now → Sweeps → swept' ≤ length stays → LeadsTo lines lines' x (length stays) → AreTracked es (n + 1) lines' swept' later
  AreTracked-advance h within sweeps swept_in leads = record { at = at; on = on }
    where
      old_at : (k : ℕ) → k < length stays → IsTracked es (n + 1) lines' swept' k (after es now x (stay_at stays k))
      old_at k lt =
          let t = stay_at stays k in
          let old = h.at k lt in record {
            placed = let p = old.placed in omega arith;
            time = old.time;
            starts = old.starts;
            moved = IsWithin-more n t.clock_at old.moved;
            ended = λ below. by_sweep sweeps below;
            found = λ none login.
                let was = after-pending es now x t none in
                leads (start_of es t).line
                ∙ ap (λ b. cond b (Some (length stays)) (lookup (bytes_eq (start_of es t).line) lines)) (off_line (start_of es t) x login was.1)
                ∙ old.found was.0 login;
          }
        where
          by_sweep : Sweeps → k < swept' → IsSome (after es now x (stay_at stays k)).ended
          by_sweep (inl same) below = subst (λ (t : TrackedStay). IsSome t.ended) (sym (after-ended es now x (stay_at stays k) ((h.at k lt).ended (omega arith)))) ((h.at k lt).ended (omega arith))
          by_sweep (inr all) below = after-ends es now x (stay_at stays k) (all (stay_at stays k) (h.at k lt).starts)

      new_at : (k : ℕ) → k ≡ length stays → starts_stay (event_of x) ≡ true → IsTracked es (n + 1) lines' swept' k new
      new_at k e starts = record {
        placed = omega arith;
        time = refl;
        starts = starts;
        moved = within;
        ended = λ below. absurd (let bad : k < length stays = omega arith in omega arith);
        found = λ none login.
            leads x.line
            ∙ ap (λ ev. cond (is_login_event ev && bytes_eq x.line x.line) (Some (length stays)) (lookup (bytes_eq x.line) lines)) login
            ∙ ap (λ b. cond b (Some (length stays)) (lookup (bytes_eq x.line) lines)) ((bytes_eq-Decides x.line x.line).1 refl)
            ∙ ap Some (sym e);
      }

      by_start : (k : ℕ) → k < length later → k ≢ length stays → k < length stays
      by_start k lt other = by (starts_stay (event_of x)) refl
        where
          by : (b : Bool) → starts_stay (event_of x) ≡ b → k < length stays
          by true e = let l = length_after true e in omega arith
          by false e = let l = length_after false e in omega arith

      starts_if : (k : ℕ) → k < length later → k ≡ length stays → starts_stay (event_of x) ≡ true
      starts_if k lt e = by (starts_stay (event_of x)) refl
        where
          by : (b : Bool) → starts_stay (event_of x) ≡ b → starts_stay (event_of x) ≡ true
          by true e' = e'
          by false e' = let l = length_after false e' in absurd (let bad : k < k = omega arith in omega arith)

      at : (k : ℕ) → k < length later → IsTracked es (n + 1) lines' swept' k (stay_at later k)
      at k lt = by (cases_eq k (length stays))
        where
          by : (k ≡ length stays) ⊎ (k ≢ length stays) → IsTracked es (n + 1) lines' swept' k (stay_at later k)
          by (inl e) =
              let starts = starts_if k lt e in
              subst (IsTracked es (n + 1) lines' swept' k) (sym (ap (stay_at later) e ∙ stay_new starts)) (new_at k e starts)
          by (inr other) =
              let lt' = by_start k lt other in
              subst (IsTracked es (n + 1) lines' swept' k) (sym (stay_before k lt')) (old_at k lt')

      on : (line : List ℕ) (i : ℕ) → lookup (bytes_eq line) lines' ≡ Some i → IsOnLine es later line i
      on line i found = by (is_login_event (event_of x) && bytes_eq x.line line) refl
        where
          by : (b : Bool) → (is_login_event (event_of x) && bytes_eq x.line line) ≡ b → IsOnLine es later line i
          by true e =
              let login = (both (is_login_event (event_of x)) (bytes_eq x.line line) e).0 in
              let same = (bytes_eq-Decides x.line line).0 (both (is_login_event (event_of x)) (bytes_eq x.line line) e).1 in
              let starts = login_starts login in
              let place : length stays ≡ i = some_inj (length stays) i (sym (leads line ∙ ap (λ b. cond b (Some (length stays)) (lookup (bytes_eq line) lines)) e) ∙ found) in
              let long = length_after true starts in
              let there : stay_at later i ≡ new = ap (stay_at later) (sym place) ∙ stay_new starts in record {
                within = omega arith;
                login = ap (λ (t : TrackedStay). event_of (start_of es t)) there ∙ is_login_of_event (event_of x) login;
                same = ap (λ (t : TrackedStay). (start_of es t).line) there ∙ same;
              }
          by false e =
              let old = h.on line i (sym (leads line ∙ ap (λ b. cond b (Some (length stays)) (lookup (bytes_eq line) lines)) e) ∙ found) in
              let lt = old.within in
              let there = stay_before i lt in record {
                within = let l = length-append (map (after es now x) stays) (started es n now user) in let m = length-map stays (after es now x) in omega arith;
                login = ap (λ (t : TrackedStay). event_of (start_of es t)) there ∙ old.login;
                same = ap (λ (t : TrackedStay). (start_of es t).line) there ∙ old.same;
              }
