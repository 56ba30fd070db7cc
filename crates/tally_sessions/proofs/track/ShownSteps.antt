-- The stays that a choice shows, from a place on, counted from the latest back.
use Rattle.std.proofs.Common.{◌≡◌, ◌∙◌, ℕ, ℤ, ◌+◌, ◌-◌, ◌<◌, ◌≤◌, Bool, true, false, cond, List, [], ◌∷◌, drop, filter, get_or, length, reverse, Option, unwrap_or, refl, ap, arith}
use Rattle.std.proofs.lemmas.List.{at_drop_more, drop_all, length-reverse}
use Rattle.std.specs.Prelude.{◌&&◌, codes}
use Rattle.tally_records.specs.Choice.{is_among, names_nothing}
use Rattle.tally_records.specs.Event.{event_of}
use Rattle.tally_records.specs.Text.{padded}
use Rattle.tally_records.specs.declared.choice.LoginChoice.{LoginChoice}
use Rattle.tally_records.specs.declared.login.LoginRecord.{LoginRecord}
use Rattle.tally_sessions.specs.Choice.{is_shown}
use Rattle.tally_sessions.specs.Stays.{is_boot_event}
use Rattle.tally_sessions.specs.Totals.{stays_of}
use Rattle.tally_sessions.specs.declared.entry.Entry.{Entry}
use Rattle.tally_sessions.specs.declared.entry.Stay.{Stay}
use Rattle.tally_sessions.specs.declared.track.Track.{Track}
use Rattle.tally_sessions.specs.declared.track.ending.Ending.{Ending}
use Rattle.tally_sessions.specs.inside.Chosen.{has_part_of, is_boot_named, is_named, is_shown_by}
use Rattle.tally_sessions.specs.inside.Track.{ended_with, stay_at, stay_now, IsTrack}
use Rattle.tally_sessions.proofs.track.StaysNow.{latest_here, same_count}

module _ (p : Stay → Bool) (host : ℕ) (es : List Entry) (a : Track) (until : Option ℤ) (k : ℕ) (h : IsTrack host es (length es) a) where
  abbrev back : List Stay
  back = reverse (stays_of host es until)

  abbrev here : Stay
  here = stay_now host es a.clock (unwrap_or until a.last) (stay_at a.stays.items (length a.stays.items - k - 1))

  count : length back ≡ length a.stays.items
  count = length-reverse (stays_of host es until) ∙ same_count host es a until h

  -- one that is shown comes first
  pub shown_here : (d : Stay) → k < length a.stays.items → p here ≡ true → filter p (drop k back) ≡ get_or back k d ∷ filter p (drop (k + 1) back)
  shown_here d lt is =
      ap (filter p) (at_drop_more (λ ss. ss) back k d (omega (arith, count, lt)))
      ∙ (λ i. cond ((ap p (latest_here host es a until k d h lt) ∙ is) i) (get_or back k d ∷ filter p (drop (k + 1) back)) (filter p (drop (k + 1) back)))

  -- one that is not shown is passed over
  pub passed_over : k < length a.stays.items → p here ≡ false → filter p (drop k back) ≡ filter p (drop (k + 1) back)
  passed_over lt is =
      ap (filter p) (at_drop_more (λ ss. ss) back k here (omega (arith, count, lt)))
      ∙ (λ i. cond ((ap p (latest_here host es a until k here h lt) ∙ is) i) (get_or back k here ∷ filter p (drop (k + 1) back)) (filter p (drop (k + 1) back)))

  -- after the last place none is
  pub none_left : length a.stays.items ≤ k → filter p (drop k back) ≡ []
  none_left le = ap (filter p) (drop_all k back (omega (arith, count, le)))

-- a stay is shown by its record and its end
pub shown_is : (choice : LoginChoice) (until : Option ℤ) (host : ℕ) (r : LoginRecord) (e : Ending)
    → is_shown choice until (ended_with host r e) ≡ is_shown_by choice r && has_part_of choice until e
shown_is choice until host r e = by (is_boot_event (event_of r))
  where
    by : (boot : Bool)
        → (is_among choice.users (cond boot (padded 32 (codes "reboot")) r.user) && cond boot (names_nothing choice.lines) (is_among choice.lines r.line)) && has_part_of choice until e
        ≡ cond boot (is_boot_named choice) (is_named choice r) && has_part_of choice until e
    by true = refl
    by false = refl
