-- Some users and the others have all sessions of all of them.
use Rattle.std.proofs.Common.{◌≡◌, ◌∙◌, ℕ, ◌+◌, Bool, true, false, cond, List, Option, refl, sym, arith}
use Rattle.std.specs.Prelude.{◌&&◌, bytes_eq, not}
use Rattle.tally_clock.specs.Days.{seconds_between, seconds_on}
use Rattle.tally_records.specs.Choice.{is_among}
use Rattle.tally_records.specs.declared.choice.LoginChoice.{LoginChoice}
use Rattle.tally_sessions.specs.ChoiceLaws.{AreParted, UsersAddUp}
use Rattle.tally_sessions.specs.Sums.{session_in, sessions_of}
use Rattle.tally_sessions.specs.declared.entry.Stay.{Stay}
use Rattle.tally_sessions.specs.declared.sums.Session.{Session}
use Rattle.tally_sessions.proofs.sums.Additive.{of_user_is, part_of, sums_add}

parts : (f : Session → ℕ) (choice : LoginChoice) (some others : List (Option (List ℕ))) → AreParted some others choice.users → (s : Stay)
    → part_of f (record choice { users = some }) s + part_of f (record choice { users = others }) s ≡ part_of f choice s
parts f choice some others parted s =
    by (is_among some s.user) (is_among others s.user) (is_among choice.users s.user) (is_among choice.lines s.line) s.is_boot (parted s.user)
  where
    n : ℕ
    n = f (session_in choice.period s)

    by : (a b c line boot : Bool) → cond a 1 0 + cond b 1 0 ≡ cond c 1 0
        → cond ((a && line) && not boot) n 0 + cond ((b && line) && not boot) n 0 ≡ cond ((c && line) && not boot) n 0
    by true true true line boot h = absurd (omega (arith, h))
    by true true false line boot h = absurd (omega (arith, h))
    by true false true true true h = refl
    by true false true true false h = omega arith
    by true false true false boot h = refl
    by true false false line boot h = absurd (omega (arith, h))
    by false true true true true h = refl
    by false true true true false h = omega arith
    by false true true false boot h = refl
    by false true false line boot h = absurd (omega (arith, h))
    by false false true line boot h = absurd (omega (arith, h))
    by false false false line boot h = refl

pub users_add_up : UsersAddUp
users_add_up choice some others parted clock day user es until =
    let one : LoginChoice = record choice { users = some } in
    let other : LoginChoice = record choice { users = others } in
    let length : Session → ℕ = λ s. seconds_between s.begin s.end_time in
    let on : Session → ℕ = λ s. seconds_on clock day s.begin s.end_time in
    let sums : (f : Session → ℕ) → _ = λ f. sums_add f one other choice (parts f choice some others parted) es until in
    record {
      total = sums length;
      of_user = (λ i. of_user_is length user (sessions_of one es until) i + of_user_is length user (sessions_of other es until) i)
          ∙ sums (λ s. cond (bytes_eq s.user user) (length s) 0) ∙ sym (of_user_is length user (sessions_of choice es until));
      on_day = sums on;
      of_user_on_day = (λ i. of_user_is on user (sessions_of one es until) i + of_user_is on user (sessions_of other es until) i)
          ∙ sums (λ s. cond (bytes_eq s.user user) (on s) 0) ∙ sym (of_user_is on user (sessions_of choice es until));
    }
