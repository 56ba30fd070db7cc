-- A choice that names nothing leaves out no stay.
use Rattle.std.proofs.Common.{◌≡◌, ◌∙◌, ℕ, ℤ, Bool, true, false, cond, List, [], ◌∷◌, Option, filter, reverse, refl, sym, ap}
use Rattle.std.specs.List.{list_any}
use Rattle.std.specs.Prelude.{◌&&◌, ◌||◌, codes, not}
use Rattle.tally_records.specs.Choice.{every_login, is_every_login, is_name}
use Rattle.tally_records.specs.Text.{padded}
use Rattle.tally_records.specs.declared.choice.LoginChoice.{LoginChoice}
use Rattle.tally_sessions.specs.Choice.{end_in, has_part, is_over, is_shown}
use Rattle.tally_sessions.specs.ChoiceLaws.{EveryIsChosen}
use Rattle.tally_sessions.specs.Totals.{latest_stays, limited, stays_of}
use Rattle.tally_sessions.specs.declared.entry.Entry.{Entry}
use Rattle.tally_sessions.specs.declared.entry.Stay.{Stay}
use Rattle.tally_sessions.proofs.sums.EverySession.{always_is, every_chosen, every_parts, every_total, every_user}

every_shown : (until : Option ℤ) (s : Stay) → is_shown every_login until s ≡ true
every_shown until s = by s.is_boot (is_over (end_in until s) s.begin)
  where
    by : (boot over : Bool) → (cond boot true true && cond over true (not over && true)) ≡ true
    by true true = refl
    by true false = refl
    by false true = refl
    by false false = refl

all_shown : (until : Option ℤ) (stays : List Stay) → filter (is_shown every_login until) stays ≡ stays
all_shown until [] = refl
all_shown until (s ∷ stays) = (λ i. cond (every_shown until s i) (s ∷ filter (is_shown every_login until) stays) (filter (is_shown every_login until) stays)) ∙ ap (λ ss. s ∷ ss) (all_shown until stays)

-- so does each choice that leaves nothing out
shown_alike : (choice : LoginChoice) (until : Option ℤ) → is_every_login choice ≡ true → is_shown choice until ≡ is_shown every_login until
shown_alike choice until h =
    let parts = every_parts choice h in
    λ i. λ s.
    ((parts.users i || list_any (is_name (cond s.is_boot (padded 32 (codes "reboot")) s.user)) choice.users)
    && (cond s.is_boot (parts.lines i) (parts.lines i || list_any (is_name s.line) choice.lines)))
    && has_part (always_is choice.period parts.period i) s.begin (end_in until s)

pub every_stay : (choice : LoginChoice) (host : ℕ) (limit : Option ℕ) (entries : List Entry) (until : Option ℤ) → is_every_login choice ≡ true
    → latest_stays host limit choice entries until ≡ limited limit (reverse (stays_of host entries until))
every_stay choice host limit entries until h =
    ap (λ ss. limited limit (reverse ss)) (ap (λ p. filter p (stays_of host entries until)) (shown_alike choice until h) ∙ all_shown until (stays_of host entries until))

pub nothing_is_left_out : (entries : List Entry) (until : Option ℤ) → EveryIsChosen entries until
nothing_is_left_out entries until = record {
  stays = λ host limit. ap (λ ss. limited limit (reverse ss)) (all_shown until (stays_of host entries until));
  total = sym (every_total entries until);
  users = λ user. sym (every_user user entries until);
  alike = λ choice h. every_chosen choice entries until h;
}
