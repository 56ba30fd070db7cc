use Rattle.std.proofs.Common.{◌≡◌, ◌∙◌, ◌+◌, ◌++◌, ◌∷◌, [], ◌<◌, ◌≤◌, ℕ, All, Bool, true, false, cond, List, Some, length, length-append, map, sum_by, refl, sym, ap, subst, arith, to_z, of_z}
use Rattle.std.proofs.lemmas.Int.{to_z-of_z}
use Rattle.std.proofs.lemmas.List.{map-append}
use Rattle.std.proofs.lemmas.List.Elements.{All-append, All-cons, All-nil}
use Rattle.std.proofs.lemmas.List.Sums.{sum_by_push}
use Rattle.std.proofs.lemmas.Map.Entries.{length-keys_of}
use Rattle.std.proofs.lemmas.Option.{get_or_from_slice_get, slice_get_within}
use Rattle.std.specs.Int.{w32}
use Rattle.std.specs.Map.{keys_of}
use Rattle.std.specs.Prelude.{slice_get}
use Rattle.tally_clock.specs.Days.{seconds_between}
use Rattle.tally_sessions.specs.declared.connect_sums.ended.EndedSession.{EndedSession}
use Rattle.tally_sessions.specs.declared.sums.Session.{Session}
use Rattle.tally_sessions.specs.inside.Ended.{Seconds, Weight, session_of, sessions_in}
use Rattle.tally_sessions.specs.inside.Track.{covers}
use Rattle.tally_sessions.proofs.connect_sums.EndedLemmas.{have_still, same_sessions}
use Rattle.tally_sessions.proofs.connect_sums.ended.Ended.add.Goals as goal

below : (b : Bool) (n : ℕ) → n < 4294967296 → cond b n 0 ≤ 4294967295
below true n h = omega arith
below false n h = omega arith

pub returns-then-self-clause-sums : goal.returns-then-self-clause-sums
returns-then-self-clause-sums c (Seconds who) =
    c.add_seconds.ensures.sums c.args.user c.enter-place.ensures.entered who
    ∙ (λ i. c.enter-place.ensures.sums who i + cond (covers who c.args.user) (seconds_between (to_z-of_z w32 c.args.begin c.ranges.begin i) (to_z-of_z w32 c.args.end_time c.ranges.end_time i)) 0)
returns-then-self-clause-sums c (Weight weight) =
    let old = c.args.self.now in
    let users = c.add_seconds.new.sums.users.entries in
    let keys = c.add_seconds.ensures.kept in
    let kept = λ (place : ℕ) (name : List ℕ) (at : slice_get (keys_of old.sums.users.entries) place ≡ Some name). ap (λ ks. slice_get ks place) keys ∙ c.enter-place.ensures.kept place name at in
    let stands : slice_get (keys_of users) c.enter-place.result ≡ Some c.args.user = ap (λ ks. slice_get ks c.enter-place.result) keys ∙ c.enter-place.ensures.entered in
    let user = get_or_from_slice_get (keys_of users) c.enter-place.result c.args.user [] stands in
    let x : Session = record { user = c.args.user; begin = c.args.begin; end_time = c.args.end_time } in
    let own : session_of users (record { user = c.enter-place.result; begin = to_z w32 (of_z w32 c.args.begin); end_time = to_z w32 (of_z w32 c.args.end_time) }) ≡ x =
    λ i. record { user = user i; begin = to_z-of_z w32 c.args.begin c.ranges.begin i; end_time = to_z-of_z w32 c.args.end_time c.ranges.end_time i } in
    let all =
    ap (map (session_of users)) c.keep.ensures.items
    ∙ map-append (session_of users) old.sessions.items (record { user = c.enter-place.result; begin = to_z w32 (of_z w32 c.args.begin); end_time = to_z w32 (of_z w32 c.args.end_time) } ∷ [])
    ∙ (λ i. same_sessions old.sums.users.entries users kept old.sessions.items c.requires.have i ++ own i ∷ []) in
    let sum = ap (sum_by weight) all ∙ sum_by_push weight (sessions_in old) x in
    (λ i. cond (c.if-self.true i) (sum_by weight (map (session_of users) c.keep.new.sessions.items)) 0)
    ∙ sum
    ∙ (λ i. cond (sym c.if-self.true i) (sum_by weight (sessions_in old)) 0 + cond (sym c.if-self.true i) (weight x) 0)

pub returns-else-self-clause-sums : goal.returns-else-self-clause-sums
returns-else-self-clause-sums c (Seconds who) =
    c.add_seconds.ensures.sums c.args.user c.enter-place.ensures.entered who
    ∙ (λ i. c.enter-place.ensures.sums who i + cond (covers who c.args.user) (seconds_between (to_z-of_z w32 c.args.begin c.ranges.begin i) (to_z-of_z w32 c.args.end_time c.ranges.end_time i)) 0)
returns-else-self-clause-sums c (Weight weight) =
    let old = c.args.self.now in
    let x : Session = record { user = c.args.user; begin = c.args.begin; end_time = c.args.end_time } in
    (λ i. cond (c.if-self.false i) (sum_by weight (map (session_of c.add_seconds.new.sums.users.entries) old.sessions.items)) 0)
    ∙ (λ i. cond (sym c.if-self.false i) (sum_by weight (sessions_in old)) 0 + cond (sym c.if-self.false i) (weight x) 0)

pub returns-then-self-clause-grown : goal.returns-then-self-clause-grown
returns-then-self-clause-grown c =
    let old = c.args.self.now in
    let users = c.add_seconds.new.sums.users.entries in
    let keys = c.add_seconds.ensures.kept in
    let kept = λ (place : ℕ) (name : List ℕ) (at : slice_get (keys_of old.sums.users.entries) place ≡ Some name). ap (λ ks. slice_get ks place) keys ∙ c.enter-place.ensures.kept place name at in
    let stands : slice_get (keys_of users) c.enter-place.result ≡ Some c.args.user = ap (λ ks. slice_get ks c.enter-place.result) keys ∙ c.enter-place.ensures.entered in
    let len : length users ≡ length c.enter-place.new.self.users.entries = sym (length-keys_of users) ∙ ap length keys ∙ length-keys_of c.enter-place.new.self.users.entries in
    let x : EndedSession = record { user = c.enter-place.result; begin = to_z w32 (of_z w32 c.args.begin); end_time = to_z w32 (of_z w32 c.args.end_time) } in
    let P : EndedSession → Type 0 = λ s. s.user < length users in record {
      sums = λ who. omega (arith, c.add_seconds.ensures.sums c.args.user c.enter-place.ensures.entered who, c.enter-place.ensures.sums who, below (covers who c.args.user) _ c.add_seconds.ensures.few);
      users = omega (arith, c.enter-place.ensures.few, len);
      spare = omega (arith, c.enter-place.ensures.room, c.add_seconds.ensures.room);
      sessions = omega (arith, ap length c.keep.ensures.items, length-append old.sessions.items (x ∷ []));
      capacity = c.keep.ensures.capacity;
      keeps = refl;
      have = subst (All P) (sym c.keep.ensures.items)
          (All-append P old.sessions.items (x ∷ []) (have_still old.sums.users.entries users kept old.sessions.items c.requires.have)
          (All-cons P x [] (omega (arith, slice_get_within (keys_of users) c.enter-place.result c.args.user stands, length-keys_of users)) (All-nil P)));
    }

pub returns-else-self-clause-grown : goal.returns-else-self-clause-grown
returns-else-self-clause-grown c =
    let old = c.args.self.now in
    let users = c.add_seconds.new.sums.users.entries in
    let keys = c.add_seconds.ensures.kept in
    let kept = λ (place : ℕ) (name : List ℕ) (at : slice_get (keys_of old.sums.users.entries) place ≡ Some name). ap (λ ks. slice_get ks place) keys ∙ c.enter-place.ensures.kept place name at in
    let len : length users ≡ length c.enter-place.new.self.users.entries = sym (length-keys_of users) ∙ ap length keys ∙ length-keys_of c.enter-place.new.self.users.entries in record {
      sums = λ who. omega (arith, c.add_seconds.ensures.sums c.args.user c.enter-place.ensures.entered who, c.enter-place.ensures.sums who, below (covers who c.args.user) _ c.add_seconds.ensures.few);
      users = omega (arith, c.enter-place.ensures.few, len);
      spare = omega (arith, c.enter-place.ensures.room, c.add_seconds.ensures.room);
      sessions = omega arith;
      capacity = refl;
      keeps = refl;
      have = have_still old.sums.users.entries users kept old.sessions.items c.requires.have;
    }
