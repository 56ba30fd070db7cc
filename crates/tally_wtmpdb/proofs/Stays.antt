-- That the stays of the records that are made are those that the rows mean.
use Rattle.std.proofs.Common.{◌≡◌, ℕ, zero, suc, ◌+◌, ◌<◌, Bool, true, false, ◌&&◌, cond, List, [], ◌∷◌, ◌++◌, Option, Some, None, length, take, drop, get_or, refl, sym, subst, ap, ◌∙◌, append_assoc, arith}
use Rattle.std.proofs.lemmas.Bool.{and_parts}
use Rattle.std.proofs.lemmas.Int.{clamps, ints}
use Rattle.std.proofs.lemmas.List.{drop_all, drop_more}
use Rattle.std.specs.Int.{int_div_euclid}
use Rattle.std.specs.List.{cons_option, range_with_len}
use Rattle.std.specs.Prelude.{ℤ, pos, neg_ℤ, ◌+ℤ◌, int_le, filter_map, find, unwrap_or}
use Rattle.sqlite_value.specs.Order.{Row}
use Rattle.tally_clock.specs.Days.{seconds_between}
use Rattle.tally_records.specs.Event.{event_of}
use Rattle.tally_records.specs.declared.login.Event.{Event}
use Rattle.tally_records.specs.declared.login.Event.TheVariants as kinds
use Rattle.tally_records.specs.declared.login.LoginRecord.{LoginRecord}
use Rattle.tally_sessions.specs.Clock.{moved, pending_old_time, shift_at}
use Rattle.tally_sessions.specs.Stays.{begin_of, clamped, during, end_of, end_time_at, end_time_of, ends_stay, first_end, is_boot_event, last_time, seconds_of, starts_stay, stay_of, stays_from, up_to_first}
use Rattle.tally_sessions.specs.declared.entry.End.{End}
use Rattle.tally_sessions.specs.declared.entry.Stay.{Stay}
use Rattle.tally_wtmpdb.proofs.BootEnds.{boot_ends}
use Rattle.tally_wtmpdb.proofs.Ends.{session_ends}
use Rattle.tally_wtmpdb.proofs.OwnRecords.{HasRecord, SameEnd, has_record, moment_at, no_moment, own-event, own_record}
use Rattle.tally_wtmpdb.proofs.Events.{event_for, time-is}
use Rattle.tally_wtmpdb.specs.Lines.{is_halt, is_logout, is_marked, is_open}
use Rattle.tally_wtmpdb.specs.Made.{line_of, record_at, record_of, records_of}
use Rattle.tally_wtmpdb.specs.Moments.{AreInOrder, moments}
use Rattle.tally_wtmpdb.specs.Rows.{second_of}
use Rattle.tally_wtmpdb.specs.Sessions.{HaveIds, stay_at, stay_if, stays_among, end_among, end_how, end_second, ends_begun, lasting, last_second, second_at, stays_of_rows}
use Rattle.tally_wtmpdb.specs.declared.moment.Moment.{Moment}
use Rattle.tally_wtmpdb.specs.declared.moment.What.{What}
use Rattle.tally_wtmpdb.specs.declared.moment.What.TheVariants.{Logout, Down, Boot, Login, LogoutAtOnce}

-- ---- no clock is changed

-- records that change no clock
abbrev IsCalm : LoginRecord → Type 0
IsCalm x = (old : Option ℤ) (time : ℤ) → shift_at (event_of x) old time ≡ pos 0

abbrev AreCalm : List LoginRecord → Type 0
AreCalm [] = Unit {0}
AreCalm (x ∷ xs) = IsCalm x × AreCalm xs

calm_for : (w : What) (old : Option ℤ) (time : ℤ) → shift_at (event_for w) old time ≡ pos 0
calm_for Login old time = refl
calm_for Logout old time = refl
calm_for LogoutAtOnce old time = refl
calm_for Boot old time = refl
calm_for Down old time = refl

moved_calm : (past xs : List LoginRecord) → AreCalm xs → moved past xs ≡ pos 0
moved_calm past [] h = refl
moved_calm past (x ∷ xs) h =
    ap (λ (z : ℤ). z +ℤ moved (past ++ x ∷ []) xs) (h.0 (pending_old_time past) x.time) ∙ ap (λ (z : ℤ). pos 0 +ℤ z) (moved_calm (past ++ x ∷ []) xs h.1)

calm_if : (b : Bool) (x : LoginRecord) (xs : List LoginRecord) → IsCalm x → AreCalm xs → AreCalm (cond b (x ∷ []) (x ∷ xs))
calm_if true x xs h g = (h, tt)
calm_if false x xs h g = (h, g)

calm_during : (p : LoginRecord → Bool) (xs : List LoginRecord) → AreCalm xs → AreCalm (up_to_first p xs)
calm_during p [] h = tt
calm_during p (x ∷ xs) h = calm_if (p x) x (up_to_first p xs) h.0 (calm_during p xs h.1)

-- a record that is made is that of its moment
own_calm : (rows : List Row) (ms : List Moment) → AreInOrder (moments rows) ms → (i : ℕ) → i < length ms → IsCalm (own_record rows ms (moment_at ms i))
own_calm rows ms order i within old time = ap (λ (e : Event). shift_at e old time) (own-event rows ms order i within) ∙ calm_for (moment_at ms i).what old time

calm_cons : (o : Option LoginRecord) (x : LoginRecord) (xs : List LoginRecord) → (b : Bool) → o ≡ cond b (Some x) None → IsCalm x → AreCalm xs → AreCalm (cons_option o xs)
calm_cons o x xs true e h g = subst (λ (o : Option LoginRecord). AreCalm (cons_option o xs)) (sym e) (h, g)
calm_cons o x xs false e h g = subst (λ (o : Option LoginRecord). AreCalm (cons_option o xs)) (sym e) g

-- whether a moment has a record
made : (rows : List Row) (ms : List Moment) (i : ℕ) → i < length ms → (b : Bool) × (record_at rows ms i ≡ cond b (Some (own_record rows ms (moment_at ms i))) None)
made rows ms i within = by (moment_at ms i).what refl
  where
    has : HasRecord rows ms (take i ms) (moment_at ms i) (record_at rows ms i)
    has = has_record rows ms i within

    by : (w : What) → (moment_at ms i).what ≡ w → (b : Bool) × (record_at rows ms i ≡ cond b (Some (own_record rows ms (moment_at ms i))) None)
    by Login e = (true, has.login e)
    by Logout e = (is_open (moment_at ms i).place (take i ms), has.logout (ap is_logout e))
    by LogoutAtOnce e = (is_open (moment_at ms i).place (take i ms), has.logout (ap is_logout e))
    by Boot e = (true, has.halt (ap is_halt e))
    by Down e = (true, has.halt (ap is_halt e))

calm_records : (rows : List Row) (ms : List Moment) → AreInOrder (moments rows) ms → (n i : ℕ) → i + n ≡ length ms → AreCalm (filter_map (record_at rows ms) (range_with_len i n))
calm_records rows ms order zero i all = tt
calm_records rows ms order (suc n) i all =
    let within : i < length ms = omega (arith, all) in
    let one = made rows ms i within in
    calm_cons (record_at rows ms i) (own_record rows ms (moment_at ms i)) (filter_map (record_at rows ms) (range_with_len (i + 1) n)) one.0 one.1 (own_calm rows ms order i within)
    (calm_records rows ms order n (i + 1) (omega (arith, all)))

-- ---- times

within_range : (x : ℤ) → int_le (neg_ℤ (pos 2147483648)) x ≡ true → int_le x (pos 2147483647) ≡ true → clamped (x +ℤ pos 0) ≡ x
within_range x e f = grind (arith, ints, clamps, e, f)

seconds_stay : (micros : ℤ) → clamped (unwrap_or (second_of micros) (pos 0) +ℤ pos 0) ≡ unwrap_or (second_of micros) (pos 0)
seconds_stay micros = by (int_le (neg_ℤ (pos 2147483648)) second && int_le second (pos 2147483647)) refl
  where
    second : ℤ
    second = int_div_euclid micros (pos 1000000)

    by : (b : Bool) → (int_le (neg_ℤ (pos 2147483648)) second && int_le second (pos 2147483647)) ≡ b
        → clamped (unwrap_or (cond b (Some second) None) (pos 0) +ℤ pos 0) ≡ unwrap_or (cond b (Some second) None) (pos 0)
    by true e = let two = and_parts (int_le (neg_ℤ (pos 2147483648)) second) (int_le second (pos 2147483647)) e in within_range second two.0 two.1
    by false e = refl

-- the time of the last record is that after any
last_at : (time : ℤ) (xs : List LoginRecord) (r : LoginRecord) (ys : List LoginRecord) → last_time time (xs ++ r ∷ ys) ≡ last_time r.time ys
last_at time [] r ys = refl
last_at time (x ∷ xs) r ys = last_at x.time xs r ys

-- ---- the stay of a record

end_of-same : (o : Option LoginRecord) (e : Option Moment) → SameEnd o e → end_of o ≡ end_how e
end_of-same None None same = refl
end_of-same None (Some m) same = absurd same
end_of-same (Some x) None same = absurd same
end_of-same (Some x) (Some m) same = same.0

end_time-same : (o : Option LoginRecord) (e : Option Moment) (last other : ℤ) (until : Option ℤ) → SameEnd o e → last ≡ other → end_time_at o last until ≡ end_second e other until
end_time-same None None last other until same l = ap (unwrap_or until) l
end_time-same None (Some m) last other until same l = absurd same
end_time-same (Some x) None last other until same l = absurd same
end_time-same (Some x) (Some m) last other until same l = same.1

stay-is : (host : ℕ) (before : List LoginRecord) (r : LoginRecord) (after : List LoginRecord) (until : Option ℤ) (is_boot : Bool) (start end_time : ℤ) (end : End)
    → is_boot_event (event_of r) ≡ is_boot → r.time ≡ start → begin_of before r after ≡ start → end_of (first_end r after) ≡ end → end_time_of r after until ≡ end_time
    → stay_of host before r after until ≡ lasting host is_boot r.user r.line r.remote start end end_time
unfolding seconds_of
stay-is host before r after until is_boot start end_time end boot time begins ends_so at = λ i. record {
  host = host;
  is_boot = boot i;
  user = r.user;
  line = r.line;
  remote = r.remote;
  start = time i;
  begin = begins i;
  end = ends_so i;
  end_time = at i;
  length = seconds_between (begins i) (at i);
}

-- where a record's stay begins, with no change of the clock
begin-is : (before : List LoginRecord) (r : LoginRecord) (after : List LoginRecord) (micros : ℤ) → AreCalm after → r.time ≡ unwrap_or (second_of micros) (pos 0)
    → begin_of before r after ≡ unwrap_or (second_of micros) (pos 0)
begin-is before r after micros calm e =
    ap (λ (z : ℤ). clamped (r.time +ℤ z)) (moved_calm (before ++ r ∷ []) (during r after) (calm_during (ends_stay r) after calm))
    ∙ ap (λ (t : ℤ). clamped (t +ℤ pos 0)) e ∙ seconds_stay micros

-- ---- all stays

-- the records from a moment on
abbrev rest_of : List Row → List Moment → ℕ → ℕ → List LoginRecord
rest_of rows ms i n = filter_map (record_at rows ms) (range_with_len i n)

-- what a record and a moment add
goes_on : (host : ℕ) (before : List LoginRecord) (o : Option LoginRecord) (x : LoginRecord) (after : List LoginRecord) (until : Option ℤ) (b : Bool) (e : Event) (stays : List Stay)
    → o ≡ cond b (Some x) None → event_of x ≡ e → starts_stay e ≡ false
    → ((more : List LoginRecord) → more ++ after ≡ before ++ cons_option o after → stays_from host more after until ≡ stays)
    → stays_from host before (cons_option o after) until ≡ stays
goes_on host before o x after until true e stays is event none next =
    ap (λ (o : Option LoginRecord). stays_from host before (cons_option o after) until) is
    ∙ ap (λ (e : Event). cond (starts_stay e) (stay_of host before x after until ∷ stays_from host (before ++ x ∷ []) after until) (stays_from host (before ++ x ∷ []) after until)) event
    ∙ ap (λ (b : Bool). cond b (stay_of host before x after until ∷ stays_from host (before ++ x ∷ []) after until) (stays_from host (before ++ x ∷ []) after until)) none
    ∙ next (before ++ x ∷ []) (append_assoc before (x ∷ []) after ∙ sym (ap (λ (o : Option LoginRecord). before ++ cons_option o after) is))
goes_on host before o x after until false e stays is event none next =
    ap (λ (o : Option LoginRecord). stays_from host before (cons_option o after) until) is
    ∙ next before (sym (ap (λ (o : Option LoginRecord). before ++ cons_option o after) is))

starts_one : (host : ℕ) (before : List LoginRecord) (o : Option LoginRecord) (x : LoginRecord) (after : List LoginRecord) (until : Option ℤ) (e : Event) (stay : Stay) (stays : List Stay)
    → o ≡ Some x → event_of x ≡ e → starts_stay e ≡ true → stay_of host before x after until ≡ stay
    → ((more : List LoginRecord) → more ++ after ≡ before ++ cons_option o after → stays_from host more after until ≡ stays)
    → stays_from host before (cons_option o after) until ≡ stay ∷ stays
starts_one host before o x after until e stay stays is event some one next =
    ap (λ (o : Option LoginRecord). stays_from host before (cons_option o after) until) is
    ∙ ap (λ (e : Event). cond (starts_stay e) (stay_of host before x after until ∷ stays_from host (before ++ x ∷ []) after until) (stays_from host (before ++ x ∷ []) after until)) event
    ∙ ap (λ (b : Bool). cond b (stay_of host before x after until ∷ stays_from host (before ++ x ∷ []) after until) (stays_from host (before ++ x ∷ []) after until)) some
    ∙ (λ i. one i ∷ next (before ++ x ∷ []) (append_assoc before (x ∷ []) after ∙ sym (ap (λ (o : Option LoginRecord). before ++ cons_option o after) is)) i)

stays_are : (host : ℕ) (rows : List Row) (ms : List Moment) (until : Option ℤ) → HaveIds rows → AreInOrder (moments rows) ms → (n i : ℕ) → i + n ≡ length ms → (before : List LoginRecord)
    → before ++ rest_of rows ms i n ≡ records_of rows ms (length ms)
    → stays_from host before (rest_of rows ms i n) until ≡ stays_among host rows ms until (drop i ms)
stays_are host rows ms until ids order zero i all before whole = sym (ap (stays_among host rows ms until) (drop_all i ms (omega (arith, all))))
stays_are host rows ms until ids order (suc n) i all before whole =
    by (moment_at ms i).what refl (λ more same. stays_are host rows ms until ids order n (i + 1) (omega (arith, all)) more (same ∙ whole))
    ∙ sym (ap (stays_among host rows ms until) (drop_more ms i no_moment within))
  where
    m : Moment
    m = moment_at ms i

    x : LoginRecord
    x = own_record rows ms (moment_at ms i)

    row : Row
    row = get_or rows (moment_at ms i).place []

    marked : Bool
    marked = is_marked rows ms (moment_at ms i).place

    after : List LoginRecord
    after = rest_of rows ms (i + 1) n

    later : List Moment
    later = drop (i + 1) ms

    within : i < length ms
    within = omega (arith, all)

    has : HasRecord rows ms (take i ms) (moment_at ms i) (record_at rows ms i)
    has = has_record rows ms i within

    event : event_of x ≡ event_for (moment_at ms i).what
    event = own-event rows ms order i within

    time : x.time ≡ second_at m
    time = time-is row marked m.what (second_at m)

    begins : begin_of before x after ≡ second_at m
    begins = begin-is before x after m.micros (calm_records rows ms order n (i + 1) (omega (arith, all))) time

    last : record_at rows ms i ≡ Some x → last_time x.time after ≡ last_second rows ms
    last is = sym (last_at (pos 0) before x after) ∙ ap (λ (o : Option LoginRecord). last_time (pos 0) (before ++ cons_option o after)) (sym is) ∙ ap (last_time (pos 0)) whole

    -- the stay of a record that starts one
    one : (is_boot : Bool) → record_at rows ms i ≡ Some x → is_boot_event (event_of x) ≡ is_boot → SameEnd (first_end x after) (end_among m later)
        → stay_of host before x after until ≡ lasting host is_boot x.user x.line x.remote (second_at m) (end_how (end_among m later)) (end_second (end_among m later) (last_second rows ms) until)
    one is_boot is boot same =
        stay-is host before x after until is_boot (second_at m) (end_second (end_among m later) (last_second rows ms) until) (end_how (end_among m later)) boot time begins
        (end_of-same (first_end x after) (end_among m later) same) (end_time-same (first_end x after) (end_among m later) (last_time x.time after) (last_second rows ms) until same (last is))

    -- what the moment begins, by what it is
    begun : (w : What) → (moment_at ms i).what ≡ w
        → stay_at host rows ms until m later ≡ stay_if host marked row w (second_at m) (end_how (end_among m later)) (end_second (end_among m later) (last_second rows ms) until)
    begun w e = ap (λ (w : What). stay_if host marked row w (second_at m) (end_how (end_among m later)) (end_second (end_among m later) (last_second rows ms) until)) e

    -- what the record of a login or a boot holds
    held : (w : What) → (moment_at ms i).what ≡ w → x ≡ record_of row (line_of marked row) w (second_at m)
    held w e = ap (λ (w : What). record_of row (line_of marked row) w (second_at m)) e

    none : (w : What) → (moment_at ms i).what ≡ w → is_logout w ≡ true → starts_stay (event_for w) ≡ false
        → stay_if host marked row w (second_at m) (end_how (end_among m later)) (end_second (end_among m later) (last_second rows ms) until) ≡ None
        → ((more : List LoginRecord) → more ++ after ≡ before ++ cons_option (record_at rows ms i) after → stays_from host more after until ≡ stays_among host rows ms until later)
        → stays_from host before (cons_option (record_at rows ms i) after) until ≡ stays_among host rows ms until (m ∷ later)
    none w e logout quiet nothing next =
        goes_on host before (record_at rows ms i) x after until (is_open m.place (take i ms)) (event_for w) (stays_among host rows ms until later) (has.logout (ap is_logout e ∙ logout)) (event ∙ ap event_for e) quiet next
        ∙ sym (ap (λ (o : Option Stay). cons_option o (stays_among host rows ms until later)) (begun w e ∙ nothing))

    by : (w : What) → (moment_at ms i).what ≡ w
        → ((more : List LoginRecord) → more ++ after ≡ before ++ cons_option (record_at rows ms i) after → stays_from host more after until ≡ stays_among host rows ms until later)
        → stays_from host before (cons_option (record_at rows ms i) after) until ≡ stays_among host rows ms until (m ∷ later)
    by Login e next =
        let same : SameEnd (first_end x after) (end_among m later) =
        subst (λ (w : What). SameEnd (first_end x after) (find (ends_begun w m.place) later)) (sym e) (session_ends rows ms ids order n i all e) in
        starts_one host before (record_at rows ms i) x after until kinds.Login
        (lasting host false x.user x.line x.remote (second_at m) (end_how (end_among m later)) (end_second (end_among m later) (last_second rows ms) until)) (stays_among host rows ms until later)
        (has.login e) (event ∙ ap event_for e) refl (one false (has.login e) (ap is_boot_event (event ∙ ap event_for e)) same) next
        ∙ ap (λ (r : LoginRecord). lasting host false r.user r.line r.remote (second_at m) (end_how (end_among m later)) (end_second (end_among m later) (last_second rows ms) until) ∷ stays_among host rows ms until later) (held Login e)
        ∙ sym (ap (λ (o : Option Stay). cons_option o (stays_among host rows ms until later)) (begun Login e))
    by Boot e next =
        let same : SameEnd (first_end x after) (end_among m later) =
        subst (λ (w : What). SameEnd (first_end x after) (find (ends_begun w m.place) later)) (sym e) (boot_ends rows ms order x (event ∙ ap event_for e) n (i + 1) (omega (arith, all))) in
        starts_one host before (record_at rows ms i) x after until kinds.Boot
        (lasting host true x.user x.line x.remote (second_at m) (end_how (end_among m later)) (end_second (end_among m later) (last_second rows ms) until)) (stays_among host rows ms until later)
        (has.halt (ap is_halt e)) (event ∙ ap event_for e) refl (one true (has.halt (ap is_halt e)) (ap is_boot_event (event ∙ ap event_for e)) same) next
        ∙ ap (λ (r : LoginRecord). lasting host true r.user r.line r.remote (second_at m) (end_how (end_among m later)) (end_second (end_among m later) (last_second rows ms) until) ∷ stays_among host rows ms until later) (held Boot e)
        ∙ sym (ap (λ (o : Option Stay). cons_option o (stays_among host rows ms until later)) (begun Boot e))
    by Logout e next = none Logout e refl refl refl next
    by LogoutAtOnce e next = none LogoutAtOnce e refl refl refl next
    by Down e next =
        goes_on host before (record_at rows ms i) x after until true kinds.Down (stays_among host rows ms until later) (has.halt (ap is_halt e)) (event ∙ ap event_for e) refl next
        ∙ sym (ap (λ (o : Option Stay). cons_option o (stays_among host rows ms until later)) (begun Down e))

pub stays-are : (host : ℕ) (rows : List Row) (ms : List Moment) (until : Option ℤ) → HaveIds rows → AreInOrder (moments rows) ms
    → stays_from host [] (records_of rows ms (length ms)) until ≡ stays_of_rows host rows ms until
stays-are host rows ms until ids order = stays_are host rows ms until ids order (length ms) 0 (omega arith) [] refl
