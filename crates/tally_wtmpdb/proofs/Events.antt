-- The events of the records that are made, and what ends what.
use Rattle.std.proofs.Common.{◌≡◌, ℕ, zero, suc, ◌+◌, ◌-◌, ◌==◌, Bool, true, false, not, ◌&&◌, cond, List, [], ◌∷◌, ◌++◌, take, length, refl, ap, ◌∙◌, arith}
use Rattle.std.proofs.lemmas.Bool.{and_from, cond-true, not_from_false}
use Rattle.std.specs.List.{prefix_len}
use Rattle.std.specs.Prelude.{ℤ, pos, codes}
use Rattle.sqlite_value.specs.Order.{Row}
use Rattle.tally_records.specs.Event.{event_of, is_blank}
use Rattle.tally_records.specs.Text.{padded}
use Rattle.tally_records.specs.declared.login.Event.{Event}
use Rattle.tally_records.specs.declared.login.Event.TheVariants as event
use Rattle.tally_sessions.specs.Stays.{end_at}
use Rattle.tally_wtmpdb.proofs.ReadBack.{stays}
use Rattle.tally_wtmpdb.specs.Fields.{field, kept}
use Rattle.tally_wtmpdb.specs.Lines.{is_halt}
use Rattle.tally_wtmpdb.specs.Made.{line_of, login_record, mark_of, record_of}
use Rattle.tally_wtmpdb.specs.Rows.{is_of, is_session, tty_of, user_of}
use Rattle.tally_wtmpdb.specs.Sessions.{end_by}
use Rattle.tally_wtmpdb.specs.declared.moment.What.{What}
use Rattle.tally_wtmpdb.specs.declared.moment.What.TheVariants.{Logout, Down, Boot, Login, LogoutAtOnce}

-- ---- texts that are not blank

-- the first byte of what is kept
kept-first : (n x : ℕ) (xs : List ℕ) → (x == 0) ≡ false → kept (suc n) (x ∷ xs) ≡ x ∷ take n (take (prefix_len stays xs) xs)
unfolding kept
kept-first n x xs e =
    let next : 1 + prefix_len stays xs ≡ suc (prefix_len stays xs) = omega arith in
    ap (λ (b : Bool). take (suc n) (take (cond (not b) (1 + prefix_len stays xs) 0) (x ∷ xs))) e ∙ ap (λ (k : ℕ). take (suc n) (take k (x ∷ xs))) next

pub field-filled : (text : List ℕ) → is_blank text ≡ false → is_blank (field 32 text) ≡ false
unfolding field
field-filled [] e = absurd cc
field-filled (x ∷ xs) e = ap (λ (l : List ℕ). is_blank (padded 32 l)) (kept-first 31 x xs e) ∙ e

front-filled : (k : ℕ) (text mark : List ℕ) → is_blank text ≡ false → is_blank (kept k text ++ 35 ∷ mark) ≡ false
unfolding kept
front-filled zero text mark e = refl
front-filled (suc k) [] mark e = absurd cc
front-filled (suc k) (x ∷ xs) mark e = ap (λ (l : List ℕ). is_blank (l ++ 35 ∷ mark)) (kept-first k x xs e) ∙ e

line-filled : (marked : Bool) (row : Row) → is_blank (tty_of row) ≡ false → is_blank (line_of marked row) ≡ false
line-filled true row e = front-filled (32 - length (mark_of row)) (tty_of row) _ e
line-filled false row e = e

-- what a session has
parts : (a b c : Bool) → (a && not b && not c) ≡ true → (b ≡ false) × (c ≡ false)
parts true false false e = (refl, refl)
parts true true c e = absurd cc
parts true false true e = absurd cc
parts false b c e = absurd cc

pub filled : (row : Row) → is_session row ≡ true → (is_blank (user_of row) ≡ false) × (is_blank (tty_of row) ≡ false)
filled row e = parts (is_of (pos 3) row) (is_blank (user_of row)) (is_blank (tty_of row)) e

-- ---- events

-- the event of the record of a moment
abbrev pub event_for : What → Event
event_for Login = event.Login
event_for Logout = event.Logout
event_for LogoutAtOnce = event.Logout
event_for Boot = event.Boot
event_for Down = event.Down

login-event : (line user remote : List ℕ) (time : ℤ) → is_blank line ≡ false → is_blank user ≡ false → event_of (login_record 7 line user remote time) ≡ event.Login
unfolding event_of
login-event line user remote time l u =
    cond-true _ event.Login _ (and_from (not (is_blank (field 32 user))) (not (is_blank (field 32 line))) (not_from_false (is_blank (field 32 user)) (field-filled user u)) (not_from_false (is_blank (field 32 line)) (field-filled line l)))

logout-event : (line : List ℕ) (time : ℤ) → is_blank line ≡ false → event_of (login_record 8 line [] [] time) ≡ event.Logout
unfolding event_of
logout-event line time l = cond-true _ event.Logout _ (ap (λ b. not b && true) (field-filled line l))

boot-event : (remote : List ℕ) (time : ℤ) → event_of (login_record 2 (codes "~") (codes "reboot") remote time) ≡ event.Boot
unfolding event_of field kept
boot-event remote time = refl

down-event : (remote : List ℕ) (time : ℤ) → event_of (login_record 1 (codes "~") (codes "shutdown") remote time) ≡ event.Down
unfolding event_of field kept
down-event remote time = refl

pub event-is : (row : Row) (marked : Bool) (w : What) (time : ℤ) → (is_halt w ≡ false → is_session row ≡ true) → event_of (record_of row (line_of marked row) w time) ≡ event_for w
event-is row marked Login time h =
    let its = filled row (h refl) in login-event (line_of marked row) (user_of row) _ time (line-filled marked row its.1) its.0
event-is row marked Logout time h = logout-event (line_of marked row) time (line-filled marked row (filled row (h refl)).1)
event-is row marked LogoutAtOnce time h = logout-event (line_of marked row) time (line-filled marked row (filled row (h refl)).1)
event-is row marked Boot time h = boot-event _ time
event-is row marked Down time h = down-event _ time

-- how a record's event ends a stay is how its moment does
pub end-is : (w : What) → (w ≡ Login → ⊥) → end_at (event_for w) ≡ end_by w
end-is Login never = absurd (never refl)
end-is Logout never = refl
end-is LogoutAtOnce never = refl
end-is Boot never = refl
end-is Down never = refl

-- the line and the time of the record of a moment
pub line-is : (row : Row) (marked : Bool) (w : What) (time : ℤ) → is_halt w ≡ false → (record_of row (line_of marked row) w time).line ≡ field 32 (line_of marked row)
line-is row marked Login time e = refl
line-is row marked Logout time e = refl
line-is row marked LogoutAtOnce time e = refl
line-is row marked Boot time e = absurd cc
line-is row marked Down time e = absurd cc

pub time-is : (row : Row) (marked : Bool) (w : What) (time : ℤ) → (record_of row (line_of marked row) w time).time ≡ time
time-is row marked Login time = refl
time-is row marked Logout time = refl
time-is row marked LogoutAtOnce time = refl
time-is row marked Boot time = refl
time-is row marked Down time = refl
