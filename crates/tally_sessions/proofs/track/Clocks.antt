-- What one record more does to the clock of its host.
use Rattle.std.proofs.Common.{◌≡◌, List, [], ◌∷◌, ◌++◌, reverse, Option, None, ℤ, refl, ap, ◌∙◌}
use Rattle.std.specs.Prelude.{find, option_and_then}
use Rattle.std.proofs.lemmas.List.{reverse-append}
use Rattle.tally_records.specs.declared.login.LoginRecord.{LoginRecord}
use Rattle.tally_records.specs.declared.login.Event.{Event}
use Rattle.tally_records.specs.declared.login.Event.TheVariants.{Login, Logout, Boot, Down, OldTime, NewTime, Nothing}
use Rattle.tally_records.specs.Event.{event_of}
use Rattle.tally_sessions.specs.inside.Tracking.{pending_at}
use Rattle.tally_sessions.specs.Clock.{is_clock_event, old_time_at, pending_old_time}

abbrev latest : List LoginRecord → Option ℤ
latest newest_first =
    option_and_then (λ r. old_time_at (event_of r) r.time) (find (λ r. is_clock_event (event_of r)) newest_first)

latest-cons : (e : Event) (r : LoginRecord) (older : List LoginRecord) → event_of r ≡ e → latest (r ∷ older) ≡ pending_at e r.time (latest older)
latest-cons Login r older h = rw h refl
latest-cons Logout r older h = rw h refl
latest-cons Boot r older h = rw h refl
latest-cons Down r older h = rw h refl
latest-cons OldTime r older h = rw (h, h) refl
latest-cons NewTime r older h = rw (h, h) refl
latest-cons Nothing r older h = rw h refl

-- one record more, by its event
pub pending_old_time-push : (before : List LoginRecord) (r : LoginRecord) → pending_old_time (before ++ r ∷ []) ≡ pending_at (event_of r) r.time (pending_old_time before)
unfolding pending_old_time
pending_old_time-push before r =
    ap latest (reverse-append before (r ∷ [])) ∙ latest-cons (event_of r) r (reverse before) refl

-- no record, no old time
pub pending_old_time-nil : pending_old_time [] ≡ None
unfolding pending_old_time
pending_old_time-nil = refl
