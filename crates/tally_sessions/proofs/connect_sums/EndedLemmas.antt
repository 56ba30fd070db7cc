-- A user more in the table: those of the sessions that are kept stand where they stood.
use Rattle.std.proofs.Common.{◌≡◌, ◌<◌, ℕ, All, List, [], ◌∷◌, Some, get_or, length, map, refl, arith}
use Rattle.std.proofs.lemmas.List.Elements.{All-cons, All-head, All-nil, All-tail}
use Rattle.std.proofs.lemmas.Map.Entries.{length-keys_of}
use Rattle.std.proofs.lemmas.Option.{get_or_from_slice_get, slice_get-get_or, slice_get_within}
use Rattle.std.specs.Map.{keys_of}
use Rattle.std.specs.Prelude.{slice_get}
use Rattle.tally_sessions.specs.declared.connect_sums.ended.EndedSession.{EndedSession}
use Rattle.tally_sessions.specs.inside.Ended.{session_of}

module _ (old new : List (List ℕ × ℕ)) (kept : (place : ℕ) (name : List ℕ) → slice_get (keys_of old) place ≡ Some name → slice_get (keys_of new) place ≡ Some name) where
  stands : (place : ℕ) → place < length old → slice_get (keys_of new) place ≡ Some (get_or (keys_of old) place [])
  stands place within = kept place (get_or (keys_of old) place []) (slice_get-get_or (keys_of old) place [] (omega (arith, within, length-keys_of old)))

  pub same_sessions : (ss : List EndedSession) → All (λ (s : EndedSession). s.user < length old) ss → map (session_of new) ss ≡ map (session_of old) ss
  same_sessions [] h = refl
  same_sessions (s ∷ ss) h =
      let P : EndedSession → Type 0 = λ t. t.user < length old in
      λ i. record { user = get_or_from_slice_get (keys_of new) s.user (get_or (keys_of old) s.user []) [] (stands s.user (All-head P s ss h)) i; begin = s.begin; end_time = s.end_time } ∷ same_sessions ss (All-tail P s ss h) i

  pub have_still : (ss : List EndedSession) → All (λ (s : EndedSession). s.user < length old) ss → All (λ (s : EndedSession). s.user < length new) ss
  have_still [] h = All-nil (λ (s : EndedSession). s.user < length new)
  have_still (s ∷ ss) h =
      let P : EndedSession → Type 0 = λ t. t.user < length old in
      let within = slice_get_within (keys_of new) s.user (get_or (keys_of old) s.user []) (stands s.user (All-head P s ss h)) in
      All-cons (λ (t : EndedSession). t.user < length new) s ss (omega (arith, within, length-keys_of new)) (have_still ss (All-tail P s ss h))
