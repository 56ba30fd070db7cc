-- Moments as fields of a table, which need no quotes.
use Rattle.std.proofs.Common.{◌≡◌, ℕ, ℤ, ◌++◌, List, [], refl, pos, ◌/◌, ◌%◌, arith, inl, inr}
use Rattle.std.specs.Prelude.{int_le, unsigned_abs, codes}
use Rattle.std.proofs.lemmas.Bool.{cases_Bool}
use Rattle.std.proofs.lemmas.List.{append_assoc}
use Rattle.csv.specs.Writing.{default_writer, field_text}
use Rattle.tally_check_text.specs.Moments.{ahead_of, date, day_at, day_of_month, iso_moment, month_of, recorded, second_at, year_of}
use Rattle.tally_print.specs.StayTable.{zone}
use Rattle.tally_print.specs.Text.{time_of_day, two}
use Rattle.tally_print.proofs.PlainLemmas.{IsPlain, plain_cons, plain_field, plain_two}

plain_zone : (offset : ℤ) → IsPlain (zone offset)
unfolding zone
plain_zone offset =
    let digits : IsPlain (two (unsigned_abs offset / 3600) ++ (codes ":" ++ two (unsigned_abs offset / 60 % 60))) =
    plain_two (unsigned_abs offset / 3600) _ (plain_cons 58 _ (omega arith) (plain_two (unsigned_abs offset / 60 % 60) [] (record { is = refl }))) in
    elim (cases_Bool (int_le (pos 0) offset)) [
      | inl east ↦ rw east (record { is = digits.is })
      | inr west ↦ rw west (plain_cons 45 _ (omega arith) digits)
    ]

plain_time_before : (second : ℕ) (rest : List ℕ) → IsPlain rest → IsPlain (time_of_day second ++ rest)
unfolding time_of_day
plain_time_before second rest e =
    plain_two (second / 3600) _ (plain_cons 58 _ (omega arith) (plain_two (second / 60 % 60) _ (plain_cons 58 _ (omega arith) (plain_two (second % 60) _ e))))

plain_date_before : (day : ℤ) (rest : List ℕ) → IsPlain rest → IsPlain (date day ++ rest)
unfolding date
plain_date_before day rest e =
    plain_two (year_of day / 100) _ (plain_two (year_of day % 100) _ (plain_cons 45 _ (omega arith)
    (plain_two (month_of day) _ (plain_cons 45 _ (omega arith) (plain_two (day_of_month day) _ e)))))

plain_iso : (clock : ℤ → ℤ) (time : ℤ) → IsPlain (iso_moment clock time)
unfolding iso_moment
plain_iso clock time =
    let offset = ahead_of clock (recorded time) in
    let tail = plain_cons 84 _ (omega arith) (plain_time_before (second_at clock time) (zone offset) (plain_zone offset)) in
    let whole = plain_date_before (day_at clock time) _ tail in
    simp append_assoc whole

pub iso_as_field : (clock : ℤ → ℤ) (time : ℤ) → field_text default_writer (iso_moment clock time) ≡ iso_moment clock time
iso_as_field clock time = plain_field (iso_moment clock time) (plain_iso clock time)
