-- The record of each moment, and what makes an end among records that among moments.
use Rattle.std.proofs.Common.{◌≡◌, ℕ, ◌<◌, Bool, true, false, cond, List, [], ◌∷◌, Option, Some, None, length, take, get_or, refl, sym, subst, ap, ◌∙◌}
use Rattle.std.proofs.lemmas.Option.{slice_get-get_or}
use Rattle.std.specs.List.{cons_option}
use Rattle.std.specs.Prelude.{ℤ, pos, bytes_eq, find, if◌then◌else◌, option_map}
use Rattle.sqlite_value.specs.Order.{Row}
use Rattle.tally_records.specs.Event.{event_of}
use Rattle.tally_records.specs.declared.login.Event.{Event}
use Rattle.tally_records.specs.declared.login.LoginRecord.{LoginRecord}
use Rattle.tally_sessions.specs.Stays.{end_at, ends_event, ends_stay}
use Rattle.tally_wtmpdb.proofs.Events.{end-is, event-is, event_for, time-is}
use Rattle.tally_wtmpdb.proofs.Members.{of_session}
use Rattle.tally_wtmpdb.specs.Lines.{is_halt, is_logout, is_marked, is_open, mark_after, mark_if}
use Rattle.tally_wtmpdb.specs.Made.{line_of, made_if, record_at, record_of}
use Rattle.tally_wtmpdb.specs.Moments.{AreInOrder, moments}
use Rattle.tally_wtmpdb.specs.Sessions.{end_by, second_at}
use Rattle.tally_wtmpdb.specs.declared.moment.Moment.{Moment}
use Rattle.tally_wtmpdb.specs.declared.moment.What.{What}
use Rattle.tally_wtmpdb.specs.declared.moment.What.TheVariants.{Logout, Down, Boot, Login, LogoutAtOnce}

abbrev pub no_moment : Moment
no_moment = record { micros = pos 0; what = Logout; place = 0 }

-- the i-th moment
abbrev pub moment_at : List Moment → ℕ → Moment
moment_at ms i = get_or ms i no_moment

-- ---- records

-- the record of what happens to the row at a place
abbrev pub made_at : List Row → List Moment → ℕ → What → ℤ → LoginRecord
made_at rows ms p w time = record_of (get_or rows p []) (line_of (is_marked rows ms p) (get_or rows p [])) w time

-- that of a moment
abbrev pub own_record : List Row → List Moment → Moment → LoginRecord
own_record rows ms m = made_at rows ms m.place m.what (second_at m)

-- a moment has its record, or it is the logout of a session that is not open and has none
pub record HasRecord (rows : List Row) (ms before : List Moment) (m : Moment) (o : Option LoginRecord) : Type 0 where
  pub login : m.what ≡ Login → o ≡ Some (own_record rows ms m)
  pub halt : is_halt m.what ≡ true → o ≡ Some (own_record rows ms m)
  pub logout : is_logout m.what ≡ true → o ≡ (if is_open m.place before then Some (own_record rows ms m) else None)

-- the record that is made where the line has a mark or not
abbrev with_mark : List Row → Moment → Option Bool → Option LoginRecord
with_mark rows m o = option_map (λ marked. record_of (get_or rows m.place []) (line_of marked (get_or rows m.place [])) m.what (second_at m)) o

-- a boot's record has no line of its own
no_line : (row : Row) (a b : Bool) (w : What) (time : ℤ) → is_halt w ≡ true → record_of row (line_of a row) w time ≡ record_of row (line_of b row) w time
no_line row a b Login time e = absurd cc
no_line row a b Logout time e = absurd cc
no_line row a b LogoutAtOnce time e = absurd cc
no_line row a b Boot time e = refl
no_line row a b Down time e = refl

halt_mark : (rows : List Row) (ms before : List Moment) (p : ℕ) (w : What) → is_halt w ≡ true → mark_after rows ms before p w ≡ Some false
halt_mark rows ms before p Login e = absurd cc
halt_mark rows ms before p Logout e = absurd cc
halt_mark rows ms before p LogoutAtOnce e = absurd cc
halt_mark rows ms before p Boot e = refl
halt_mark rows ms before p Down e = refl

logout_mark : (rows : List Row) (ms before : List Moment) (p : ℕ) (w : What) → is_logout w ≡ true
    → mark_after rows ms before p w ≡ (if is_open p before then Some (is_marked rows ms p) else None)
logout_mark rows ms before p Login e = absurd cc
logout_mark rows ms before p Logout e = refl
logout_mark rows ms before p LogoutAtOnce e = refl
logout_mark rows ms before p Boot e = absurd cc
logout_mark rows ms before p Down e = absurd cc

with_mark-if : (rows : List Row) (ms : List Moment) (m : Moment) (b : Bool)
    → with_mark rows m (cond b (Some (is_marked rows ms m.place)) None) ≡ cond b (Some (own_record rows ms m)) None
with_mark-if rows ms m true = refl
with_mark-if rows ms m false = refl

pub has_record : (rows : List Row) (ms : List Moment) (i : ℕ) → i < length ms → HasRecord rows ms (take i ms) (moment_at ms i) (record_at rows ms i)
has_record rows ms i within = record {
  login = λ e. is ∙ ap (λ (w : What). with_mark rows (moment_at ms i) (mark_after rows ms (take i ms) (moment_at ms i).place w)) e;
  halt = λ e.
      is ∙ ap (with_mark rows (moment_at ms i)) (halt_mark rows ms (take i ms) (moment_at ms i).place (moment_at ms i).what e)
      ∙ ap (λ (r : LoginRecord). Some r) (no_line (get_or rows (moment_at ms i).place []) false (is_marked rows ms (moment_at ms i).place) (moment_at ms i).what (second_at (moment_at ms i)) e);
  logout = λ e.
      is ∙ ap (with_mark rows (moment_at ms i)) (logout_mark rows ms (take i ms) (moment_at ms i).place (moment_at ms i).what e)
      ∙ with_mark-if rows ms (moment_at ms i) (is_open (moment_at ms i).place (take i ms));
}
  where
    is : record_at rows ms i ≡ with_mark rows (moment_at ms i) (mark_after rows ms (take i ms) (moment_at ms i).place (moment_at ms i).what)
    is =
        ap (λ (o : Option Moment). made_if rows (mark_if rows ms (take i ms) o) o) (slice_get-get_or ms i no_moment within)

-- the event of the record of a moment
pub own-event : (rows : List Row) (ms : List Moment) → AreInOrder (moments rows) ms → (i : ℕ) → i < length ms
    → event_of (own_record rows ms (moment_at ms i)) ≡ event_for (moment_at ms i).what
own-event rows ms order i within =
    event-is (get_or rows (moment_at ms i).place []) (is_marked rows ms (moment_at ms i).place) (moment_at ms i).what (second_at (moment_at ms i)) (λ e. of_session rows ms order i no_moment within e)

-- ---- the same end

-- a record that ends a stay is that of the moment that ends it
abbrev pub SameEnd : Option LoginRecord → Option Moment → Type 0
SameEnd None None = Unit {0}
SameEnd None (Some m) = ⊥
SameEnd (Some x) None = ⊥
SameEnd (Some x) (Some m) = (end_at (event_of x) ≡ end_by m.what) × (x.time ≡ second_at m)

found_by : (a b : Bool) (x : LoginRecord) (m : Moment) (o : Option LoginRecord) (e : Option Moment) → a ≡ true → b ≡ true → SameEnd (Some x) (Some m)
    → SameEnd (cond a (Some x) o) (cond b (Some m) e)
found_by true true x m o e f g same = same
found_by true false x m o e f g same = absurd cc
found_by false b x m o e f g same = absurd cc

passed_by : (a b : Bool) (x : LoginRecord) (m : Moment) (o : Option LoginRecord) (e : Option Moment) → a ≡ false → b ≡ false → SameEnd o e
    → SameEnd (cond a (Some x) o) (cond b (Some m) e)
passed_by false false x m o e f g same = same
passed_by false true x m o e f g same = absurd cc
passed_by true b x m o e f g same = absurd cc

-- the first of records and the first of moments, with one more before them
pub found : (p : LoginRecord → Bool) (q : Moment → Bool) (o : Option LoginRecord) (x : LoginRecord) (m : Moment) (xs : List LoginRecord) (ms : List Moment)
    → o ≡ Some x → p x ≡ true → q m ≡ true → SameEnd (Some x) (Some m) → SameEnd (find p (cons_option o xs)) (find q (m ∷ ms))
found p q o x m xs ms is f g same =
    subst (λ (o : Option LoginRecord). SameEnd (find p (cons_option o xs)) (find q (m ∷ ms))) (sym is) (found_by (p x) (q m) x m (find p xs) (find q ms) f g same)

pub passed : (p : LoginRecord → Bool) (q : Moment → Bool) (o : Option LoginRecord) (x : LoginRecord) (m : Moment) (xs : List LoginRecord) (ms : List Moment)
    → o ≡ Some x → p x ≡ false → q m ≡ false → SameEnd (find p xs) (find q ms) → SameEnd (find p (cons_option o xs)) (find q (m ∷ ms))
passed p q o x m xs ms is f g same =
    subst (λ (o : Option LoginRecord). SameEnd (find p (cons_option o xs)) (find q (m ∷ ms))) (sym is) (passed_by (p x) (q m) x m (find p xs) (find q ms) f g same)

left_out : (q : Moment → Bool) (b : Bool) (r : Option LoginRecord) (m : Moment) (ms : List Moment) → b ≡ false → SameEnd r (find q ms) → SameEnd r (cond b (Some m) (find q ms))
left_out q false r m ms g same = same
left_out q true r m ms g same = absurd cc

pub missed : (p : LoginRecord → Bool) (q : Moment → Bool) (o : Option LoginRecord) (m : Moment) (xs : List LoginRecord) (ms : List Moment)
    → o ≡ None → q m ≡ false → SameEnd (find p xs) (find q ms) → SameEnd (find p (cons_option o xs)) (find q (m ∷ ms))
missed p q o m xs ms is g same =
    subst (λ (o : Option LoginRecord). SameEnd (find p (cons_option o xs)) (find q (m ∷ ms))) (sym is) (left_out q (q m) (find p xs) m ms g same)

-- how the record of a moment ends what it ends
pub own_end : (rows : List Row) (ms : List Moment) → AreInOrder (moments rows) ms → (i : ℕ) → i < length ms → ((moment_at ms i).what ≡ Login → ⊥)
    → SameEnd (Some (own_record rows ms (moment_at ms i))) (Some (moment_at ms i))
own_end rows ms order i within never = (
  ap end_at (own-event rows ms order i within) ∙ end-is (moment_at ms i).what never,
  time-is (get_or rows (moment_at ms i).place []) (is_marked rows ms (moment_at ms i).place) (moment_at ms i).what (second_at (moment_at ms i)),
)

-- whether a stay is ended, by the events and the lines
pub ends_by : (r x : LoginRecord) (a b : Event) (same : Bool) → event_of r ≡ a → event_of x ≡ b → bytes_eq r.line x.line ≡ same → ends_stay r x ≡ ends_event a b same
ends_by r x a b same e f g =
    ap (λ (a : Event). ends_event a (event_of x) (bytes_eq r.line x.line)) e ∙ ap (λ (b : Event). ends_event a b (bytes_eq r.line x.line)) f ∙ ap (λ (s : Bool). ends_event a b s) g

-- a moment is one of three
pub data Kind (w : What) : Type 0 where
  logs_in : w ≡ Login → is_halt w ≡ false → Kind w
  logs_out : is_logout w ≡ true → is_halt w ≡ false → (w ≡ Login → ⊥) → Kind w
  halts : is_halt w ≡ true → (w ≡ Login → ⊥) → Kind w

pub kind : (w : What) → Kind w
kind Login = logs_in refl refl
kind Logout = logs_out refl refl (λ e. absurd cc)
kind LogoutAtOnce = logs_out refl refl (λ e. absurd cc)
kind Boot = halts refl (λ e. absurd cc)
kind Down = halts refl (λ e. absurd cc)
