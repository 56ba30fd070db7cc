-- That the first of the later records that ends a session is that of its end among the moments.
use Rattle.std.proofs.Common.{◌≡◌, ℕ, zero, suc, ◌+◌, ◌<◌, ◌≤◌, ◌==◌, Bool, true, false, not, ◌&&◌, ◌||◌, cond, List, [], ◌∷◌, ◌++◌, Some, None, length, take, drop, get_or, refl, sym, subst, ap, ◌∙◌, arith}
use Rattle.std.proofs.lemmas.Bool.{both_ways, eqb-true, or_left, or_right}
use Rattle.std.proofs.lemmas.List.{drop_all, drop_more}
use Rattle.std.proofs.lemmas.List.Folds.{list_any-append}
use Rattle.std.proofs.lemmas.Slice.Eq.{bytes_eq-Decides}
use Rattle.std.specs.List.{cons_option, list_any, range_with_len}
use Rattle.std.specs.Prelude.{bytes_eq, filter_map, find}
use Rattle.sqlite_value.specs.Order.{Row}
use Rattle.tally_records.specs.Event.{event_of}
use Rattle.tally_records.specs.declared.login.Event.TheVariants as event
use Rattle.tally_records.specs.declared.login.LoginRecord.{LoginRecord}
use Rattle.tally_sessions.specs.Stays.{ends_event, ends_stay}
use Rattle.tally_wtmpdb.proofs.Events.{event_for, line-is}
use Rattle.tally_wtmpdb.proofs.Kept.{alike, other_any}
use Rattle.tally_wtmpdb.proofs.Members.{of_session}
use Rattle.tally_wtmpdb.proofs.Opened.{open_logins-login, open_logins-logout}
use Rattle.tally_wtmpdb.proofs.OwnLines.{line_at, lines_differ}
use Rattle.tally_wtmpdb.proofs.Passing.{next_taken, not_open}
use Rattle.tally_wtmpdb.specs.Lines.{ends, is_halt, is_logout, is_marked, is_of_row, is_open, open_logins}
use Rattle.tally_wtmpdb.specs.Made.{record_at}
use Rattle.tally_wtmpdb.specs.Moments.{AreInOrder, moments}
use Rattle.tally_wtmpdb.specs.Rows.{is_session}
use Rattle.tally_wtmpdb.specs.Sessions.{HaveIds, second_at}
use Rattle.tally_wtmpdb.specs.declared.moment.Moment.{Moment}
use Rattle.tally_wtmpdb.specs.declared.moment.What.{What}
use Rattle.tally_wtmpdb.specs.declared.moment.What.TheVariants.{Logout, Down, Boot, Login, LogoutAtOnce}
use Rattle.tally_wtmpdb.proofs.OwnRecords.{HasRecord, Kind, SameEnd, ends_by, found, halts, has_record, kind, logs_in, logs_out, missed, moment_at, no_moment, own-event, own_end, own_record, passed}

halt_ends : (w : What) (same : Bool) → is_halt w ≡ true → ends_event event.Login (event_for w) same ≡ true
halt_ends Login same e = absurd cc
halt_ends Logout same e = absurd cc
halt_ends LogoutAtOnce same e = absurd cc
halt_ends Boot same e = refl
halt_ends Down same e = refl

line_ends : (w : What) (same : Bool) → is_halt w ≡ false → ends_event event.Login (event_for w) same ≡ same
line_ends Login same e = refl
line_ends Logout same e = refl
line_ends LogoutAtOnce same e = refl
line_ends Boot same e = absurd cc
line_ends Down same e = absurd cc

-- the session of the row at a place is open
abbrev IsOpen : List Moment → ℕ → ℕ → Type 0
IsOpen ms p k = list_any (is_of_row p) (open_logins (take k ms)) ≡ true

apart_from : (ms : List Moment) (p q : ℕ) (l : List Moment) → list_any (is_of_row p) l ≡ true → list_any (is_of_row q) l ≡ false → p ≡ q → ⊥
apart_from ms p q l e f same = both_ways (list_any (is_of_row q) l) f (sym (ap (λ k. list_any (is_of_row k) l) same) ∙ e)

record Started (rows : List Row) (ms : List Moment) (p : ℕ) (r : LoginRecord) : Type 0 where
  starts : event_of r ≡ event.Login
  line : r.line ≡ line_at rows ms p
  session : is_session (get_or rows p []) ≡ true

-- the line of another moment's record is another where its session is open beside it
other_line : (rows : List Row) (ms : List Moment) → HaveIds rows → AreInOrder (moments rows) ms → (p : ℕ) (r : LoginRecord) → Started rows ms p r → (i k : ℕ) → i < length ms → k ≤ length ms
    → is_halt (moment_at ms i).what ≡ false → IsOpen ms p k → IsOpen ms (moment_at ms i).place k → (p ≡ (moment_at ms i).place → ⊥)
    → ends_stay r (own_record rows ms (moment_at ms i)) ≡ false
other_line rows ms ids order p r started i k within upto no_halt here there differ =
    let m = moment_at ms i in
    let line : (own_record rows ms m).line ≡ line_at rows ms m.place = line-is (get_or rows m.place []) (is_marked rows ms m.place) m.what (second_at m) no_halt in
    let lines : bytes_eq r.line (own_record rows ms m).line ≡ false =
    ap (λ (l : List ℕ). bytes_eq l (own_record rows ms m).line) started.line ∙ ap (λ (l : List ℕ). bytes_eq (line_at rows ms p) l) line
    ∙ lines_differ rows ms ids order k p m.place upto started.session (of_session rows ms order i no_moment within no_halt) here there differ in
    ends_by r (own_record rows ms m) event.Login (event_for m.what) false started.starts (own-event rows ms order i within) lines ∙ line_ends m.what false no_halt

-- its own logout has its line
own_line : (rows : List Row) (ms : List Moment) → AreInOrder (moments rows) ms → (p : ℕ) (r : LoginRecord) → Started rows ms p r → (i : ℕ) → i < length ms
    → is_halt (moment_at ms i).what ≡ false → (moment_at ms i).place ≡ p → ends_stay r (own_record rows ms (moment_at ms i)) ≡ true
own_line rows ms order p r started i within no_halt same =
    let m = moment_at ms i in
    let line : r.line ≡ (own_record rows ms m).line =
    started.line ∙ sym (ap (line_at rows ms) same) ∙ sym (line-is (get_or rows m.place []) (is_marked rows ms m.place) m.what (second_at m) no_halt) in
    ends_by r (own_record rows ms m) event.Login (event_for m.what) true started.starts (own-event rows ms order i within) ((bytes_eq-Decides r.line (own_record rows ms m).line).1 line)
    ∙ line_ends m.what true no_halt

-- a moment ends a session or does not
no_end : (p : ℕ) (m : Moment) → m.what ≡ Login → ends p m ≡ false
no_end p m e = ap (λ w. is_halt w || (is_logout w && is_of_row p m)) e

end_if : (p : ℕ) (m : Moment) → is_logout m.what ≡ true → is_halt m.what ≡ false → ends p m ≡ is_of_row p m
end_if p m e f = ap (λ b. b || (is_logout m.what && is_of_row p m)) f ∙ ap (λ b. b && is_of_row p m) e

sure_end : (p : ℕ) (m : Moment) → is_halt m.what ≡ true → ends p m ≡ true
sure_end p m e = ap (λ b. b || (is_logout m.what && is_of_row p m)) e

-- a session stays open
abbrev opens : List Moment → ℕ → Type 0
opens ms j = open_logins (take (j + 1) ms) ≡ open_logins (take j ms) ++ moment_at ms j ∷ []

stays_open : (ms : List Moment) (p j : ℕ) → opens ms j → IsOpen ms p j → IsOpen ms p (j + 1)
stays_open ms p j more here =
    ap (list_any (is_of_row p)) more ∙ list_any-append (is_of_row p) (open_logins (take j ms)) (moment_at ms j ∷ [])
    ∙ or_left (list_any (is_of_row p) (open_logins (take j ms))) (list_any (is_of_row p) (moment_at ms j ∷ [])) here

new_open : (ms : List Moment) (j : ℕ) → opens ms j → IsOpen ms (moment_at ms j).place (j + 1)
new_open ms j more =
    let p = (moment_at ms j).place in
    ap (list_any (is_of_row p)) more ∙ list_any-append (is_of_row p) (open_logins (take j ms)) (moment_at ms j ∷ [])
    ∙ or_right (list_any (is_of_row p) (open_logins (take j ms))) (list_any (is_of_row p) (moment_at ms j ∷ [])) (or_left (is_of_row p (moment_at ms j)) false (alike p p refl))

other_stays : (ms : List Moment) (p j : ℕ) → j < length ms → is_logout (moment_at ms j).what ≡ true → ((moment_at ms j).place == p) ≡ false → IsOpen ms p j → IsOpen ms p (j + 1)
other_stays ms p j within e other here =
    ap (list_any (is_of_row p)) (next_taken ms j no_moment within ∙ open_logins-logout (take j ms) (moment_at ms j) e)
    ∙ other_any (moment_at ms j) p (open_logins (take j ms)) ∙ ap (λ b. not b && list_any (is_of_row p) (open_logins (take j ms))) other ∙ here

session_end : (rows : List Row) (ms : List Moment) → HaveIds rows → AreInOrder (moments rows) ms → (p : ℕ) (r : LoginRecord) → Started rows ms p r → (n j : ℕ) → j + n ≡ length ms
    → IsOpen ms p j → SameEnd (find (ends_stay r) (filter_map (record_at rows ms) (range_with_len j n))) (find (ends p) (drop j ms))
session_end rows ms ids order p r started zero j all here =
    subst (λ (l : List Moment). SameEnd None (find (ends p) l)) (sym (drop_all j ms (omega (arith, all)))) tt
session_end rows ms ids order p r started (suc n) j all here =
    subst (λ (l : List Moment). SameEnd (find (ends_stay r) (cons_option (record_at rows ms j) rest)) (find (ends p) l)) (sym (drop_more ms j no_moment within))
    (by (kind m.what) (session_end rows ms ids order p r started n (j + 1) (omega (arith, all))))
  where
    m : Moment
    m = moment_at ms j

    rest : List LoginRecord
    rest = filter_map (record_at rows ms) (range_with_len (j + 1) n)

    later : List Moment
    later = drop (j + 1) ms

    within : j < length ms
    within = omega (arith, all)

    has : HasRecord rows ms (take j ms) (moment_at ms j) (record_at rows ms j)
    has = has_record rows ms j within

    logged_out : is_logout (moment_at ms j).what ≡ true → is_halt (moment_at ms j).what ≡ false → ((moment_at ms j).what ≡ Login → ⊥) → (own : Bool) → ((moment_at ms j).place == p) ≡ own
        → (still : Bool) → is_open (moment_at ms j).place (take j ms) ≡ still
        → (IsOpen ms p (j + 1) → SameEnd (find (ends_stay r) rest) (find (ends p) later))
        → SameEnd (find (ends_stay r) (cons_option (record_at rows ms j) rest)) (find (ends p) (m ∷ later))
    logged_out e f g true own true still next =
        found (ends_stay r) (ends p) (record_at rows ms j) (own_record rows ms m) m rest later (has.logout e ∙ ap (λ b. cond b (Some (own_record rows ms m)) None) still)
        (own_line rows ms order p r started j within f (eqb-true (moment_at ms j).place p own)) (end_if p m e f ∙ own) (own_end rows ms order j within g)
    logged_out e f g true own false still next =
        absurd (both_ways (list_any (is_of_row (moment_at ms j).place) (open_logins (take j ms))) still (ap (λ k. list_any (is_of_row k) (open_logins (take j ms))) (eqb-true (moment_at ms j).place p own) ∙ here))
    logged_out e f g false own true still next =
        passed (ends_stay r) (ends p) (record_at rows ms j) (own_record rows ms m) m rest later (has.logout e ∙ ap (λ b. cond b (Some (own_record rows ms m)) None) still)
        (other_line rows ms ids order p r started j j within (omega (arith, within)) f here still (λ same. both_ways ((moment_at ms j).place == p) own (alike (moment_at ms j).place p (sym same))))
        (end_if p m e f ∙ own) (next (other_stays ms p j within e own here))
    logged_out e f g false own false still next =
        missed (ends_stay r) (ends p) (record_at rows ms j) m rest later (has.logout e ∙ ap (λ b. cond b (Some (own_record rows ms m)) None) still)
        (end_if p m e f ∙ own) (next (other_stays ms p j within e own here))

    by : Kind (moment_at ms j).what → (IsOpen ms p (j + 1) → SameEnd (find (ends_stay r) rest) (find (ends p) later))
        → SameEnd (find (ends_stay r) (cons_option (record_at rows ms j) rest)) (find (ends p) (m ∷ later))
    by (logs_in e f) next =
        let more : opens ms j = next_taken ms j no_moment within ∙ open_logins-login (take j ms) (moment_at ms j) e in
        passed (ends_stay r) (ends p) (record_at rows ms j) (own_record rows ms m) m rest later (has.login e)
        (other_line rows ms ids order p r started j (j + 1) within (omega (arith, within)) f (stays_open ms p j more here) (new_open ms j more)
        (apart_from ms p (moment_at ms j).place (open_logins (take j ms)) here (not_open rows ms j no_moment order within e)))
        (no_end p m e) (next (stays_open ms p j more here))
    by (logs_out e f g) next = logged_out e f g ((moment_at ms j).place == p) refl (is_open (moment_at ms j).place (take j ms)) refl next
    by (halts e g) next =
        found (ends_stay r) (ends p) (record_at rows ms j) (own_record rows ms m) m rest later (has.halt e)
        (ends_by r (own_record rows ms m) event.Login (event_for m.what) (bytes_eq r.line (own_record rows ms m).line) started.starts (own-event rows ms order j within) refl
        ∙ halt_ends m.what (bytes_eq r.line (own_record rows ms m).line) e)
        (sure_end p m e) (own_end rows ms order j within g)

-- the first of the later records that ends a session is that of its own logout, a boot or a shutdown, whichever is first
pub session_ends : (rows : List Row) (ms : List Moment) → HaveIds rows → AreInOrder (moments rows) ms → (n i : ℕ) → i + suc n ≡ length ms → (moment_at ms i).what ≡ Login
    → SameEnd (find (ends_stay (own_record rows ms (moment_at ms i))) (filter_map (record_at rows ms) (range_with_len (i + 1) n))) (find (ends (moment_at ms i).place) (drop (i + 1) ms))
session_ends rows ms ids order n i all e =
    let within : i < length ms = omega (arith, all) in
    let no_halt : is_halt (moment_at ms i).what ≡ false = ap is_halt e in
    let more : opens ms i = next_taken ms i no_moment within ∙ open_logins-login (take i ms) (moment_at ms i) e in
    session_end rows ms ids order (moment_at ms i).place (own_record rows ms (moment_at ms i)) (record {
      starts = own-event rows ms order i within ∙ ap event_for e;
      line = line-is (get_or rows (moment_at ms i).place []) (is_marked rows ms (moment_at ms i).place) (moment_at ms i).what (second_at (moment_at ms i)) no_halt;
      session = of_session rows ms order i no_moment within no_halt;
    }) n (i + 1) (omega (arith, all)) (new_open ms i more)
