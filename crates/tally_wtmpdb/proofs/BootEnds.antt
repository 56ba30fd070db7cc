-- That the first of the later records that ends what was booted is that of its end among the moments.
use Rattle.std.proofs.Common.{◌≡◌, ℕ, zero, suc, ◌+◌, ◌<◌, Bool, true, false, cond, List, ◌∷◌, Some, None, length, take, drop, refl, sym, subst, ap, ◌∙◌, arith}
use Rattle.std.proofs.lemmas.List.{drop_all, drop_more}
use Rattle.std.specs.List.{cons_option, range_with_len}
use Rattle.std.specs.Prelude.{bytes_eq, filter_map, find}
use Rattle.sqlite_value.specs.Order.{Row}
use Rattle.tally_records.specs.Event.{event_of}
use Rattle.tally_records.specs.declared.login.Event.TheVariants as event
use Rattle.tally_records.specs.declared.login.LoginRecord.{LoginRecord}
use Rattle.tally_sessions.specs.Stays.{ends_event, ends_stay}
use Rattle.tally_wtmpdb.proofs.Events.{event_for}
use Rattle.tally_wtmpdb.specs.Lines.{is_halt, is_logout, is_open}
use Rattle.tally_wtmpdb.specs.Made.{record_at}
use Rattle.tally_wtmpdb.specs.Moments.{AreInOrder, moments}
use Rattle.tally_wtmpdb.specs.declared.moment.Moment.{Moment}
use Rattle.tally_wtmpdb.specs.declared.moment.What.{What}
use Rattle.tally_wtmpdb.specs.declared.moment.What.TheVariants.{Logout, Down, Boot, Login, LogoutAtOnce}
use Rattle.tally_wtmpdb.proofs.OwnRecords.{HasRecord, Kind, SameEnd, ends_by, found, halts, has_record, kind, logs_in, logs_out, missed, moment_at, no_moment, own-event, own_end, own_record, passed}

boot_stops : (w : What) (same : Bool) → is_halt w ≡ true → ends_event event.Boot (event_for w) same ≡ true
boot_stops Login same e = absurd cc
boot_stops Logout same e = absurd cc
boot_stops LogoutAtOnce same e = absurd cc
boot_stops Boot same e = refl
boot_stops Down same e = refl

boot_goes_on : (w : What) (same : Bool) → is_halt w ≡ false → ends_event event.Boot (event_for w) same ≡ false
boot_goes_on Login same e = refl
boot_goes_on Logout same e = refl
boot_goes_on LogoutAtOnce same e = refl
boot_goes_on Boot same e = absurd cc
boot_goes_on Down same e = absurd cc

pub boot_ends : (rows : List Row) (ms : List Moment) → AreInOrder (moments rows) ms → (r : LoginRecord) → event_of r ≡ event.Boot → (n j : ℕ) → j + n ≡ length ms
    → SameEnd (find (ends_stay r) (filter_map (record_at rows ms) (range_with_len j n))) (find (λ m. is_halt m.what) (drop j ms))
boot_ends rows ms order r booted zero j all =
    subst (λ (l : List Moment). SameEnd None (find (λ m. is_halt m.what) l)) (sym (drop_all j ms (omega (arith, all)))) tt
boot_ends rows ms order r booted (suc n) j all =
    subst (λ (l : List Moment). SameEnd (find (ends_stay r) (cons_option (record_at rows ms j) rest)) (find (λ m. is_halt m.what) l)) (sym (drop_more ms j no_moment within))
    (by (kind (moment_at ms j).what) (boot_ends rows ms order r booted n (j + 1) (omega (arith, all))))
  where
    m : Moment
    m = moment_at ms j

    rest : List LoginRecord
    rest = filter_map (record_at rows ms) (range_with_len (j + 1) n)

    later : List Moment
    later = drop (j + 1) ms

    within : j < length ms
    within = omega (arith, all)

    has : HasRecord rows ms (take j ms) (moment_at ms j) (record_at rows ms j)
    has = has_record rows ms j within

    halts_it : (b : Bool) → is_halt (moment_at ms j).what ≡ b → ends_stay r (own_record rows ms (moment_at ms j)) ≡ b
    halts_it true e =
        ends_by r (own_record rows ms m) event.Boot (event_for m.what) (bytes_eq r.line (own_record rows ms m).line) booted (own-event rows ms order j within) refl
        ∙ boot_stops m.what (bytes_eq r.line (own_record rows ms m).line) e
    halts_it false e =
        ends_by r (own_record rows ms m) event.Boot (event_for m.what) (bytes_eq r.line (own_record rows ms m).line) booted (own-event rows ms order j within) refl
        ∙ boot_goes_on m.what (bytes_eq r.line (own_record rows ms m).line) e

    logged_out : is_logout (moment_at ms j).what ≡ true → is_halt (moment_at ms j).what ≡ false → (still : Bool) → is_open (moment_at ms j).place (take j ms) ≡ still
        → SameEnd (find (ends_stay r) rest) (find (λ m. is_halt m.what) later)
        → SameEnd (find (ends_stay r) (cons_option (record_at rows ms j) rest)) (find (λ m. is_halt m.what) (m ∷ later))
    logged_out e f true still next =
        passed (ends_stay r) (λ m. is_halt m.what) (record_at rows ms j) (own_record rows ms m) m rest later (has.logout e ∙ ap (λ b. cond b (Some (own_record rows ms m)) None) still)
        (halts_it false f) f next
    logged_out e f false still next =
        missed (ends_stay r) (λ m. is_halt m.what) (record_at rows ms j) m rest later (has.logout e ∙ ap (λ b. cond b (Some (own_record rows ms m)) None) still) f next

    by : Kind (moment_at ms j).what → SameEnd (find (ends_stay r) rest) (find (λ m. is_halt m.what) later)
        → SameEnd (find (ends_stay r) (cons_option (record_at rows ms j) rest)) (find (λ m. is_halt m.what) (m ∷ later))
    by (logs_in e f) next = passed (ends_stay r) (λ m. is_halt m.what) (record_at rows ms j) (own_record rows ms m) m rest later (has.login e) (halts_it false f) f next
    by (logs_out e f g) next = logged_out e f (is_open (moment_at ms j).place (take j ms)) refl next
    by (halts e g) next =
        found (ends_stay r) (λ m. is_halt m.what) (record_at rows ms j) (own_record rows ms m) m rest later (has.halt e) (halts_it true e) e (own_end rows ms order j within g)
