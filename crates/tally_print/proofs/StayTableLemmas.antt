-- The text of a row of a stay.
use Rattle.std.proofs.Common.{◌≡◌, ℕ, ℤ, ◌+◌, ◌∷◌, ◌++◌, List, [], refl, ◌∙◌, ap, pos, ◌/◌, ◌%◌, arith, inl, inr}
use Rattle.std.specs.Prelude.{decimal, int_le, unsigned_abs, codes}
use Rattle.std.specs.Fmt.{signed_decimal}
use Rattle.std.proofs.lemmas.Bool.{cases_Bool}
use Rattle.std.proofs.lemmas.List.{append_assoc, append-nil}
use Rattle.std.proofs.lemmas.Grind.{flat_map-append}
use Rattle.csv.specs.Writing.{default_writer, field_text, row_text}
use Rattle.tally_clock.specs.Days.{day_of}
use Rattle.tally_sessions.specs.declared.entry.Stay.{Stay}
use Rattle.tally_print.specs.StayTable.{end_fields, end_word, iso_moment, line_field, part_fields, start_fields, stay_fields, user_field, who_fields, zone}
use Rattle.tally_records.specs.declared.period.Period.{Period}
use Rattle.tally_sessions.specs.Choice.{seconds_within}
use Rattle.tally_print.specs.Tables.{Row}
use Rattle.tally_print.specs.inside.Tables.{before_last}
use Rattle.tally_print.specs.Text.{second_of_day, shown, time_of_day, two}
use Rattle.tally_print.proofs.PlainLemmas.{IsPlain, number_as_field, number_shows, plain_cons, plain_date_before, plain_field, plain_two, signed_as_field}
use Rattle.tally_print.proofs.RowLemmas.{row_text_last}

plain_zone : (offset : ℤ) → IsPlain (zone offset)
unfolding zone
plain_zone offset =
    let digits : IsPlain (two (unsigned_abs offset / 3600) ++ (codes ":" ++ two (unsigned_abs offset / 60 % 60))) =
    plain_two (unsigned_abs offset / 3600) _ (plain_cons 58 _ (omega arith) (plain_two (unsigned_abs offset / 60 % 60) [] (record { is = refl }))) in
    elim (cases_Bool (int_le (pos 0) offset)) [
      | inl east ↦ rw east (record { is = digits.is })
      | inr west ↦ rw west (plain_cons 45 _ (omega arith) digits)
    ]

plain_time_before : (second : ℕ) (rest : List ℕ) → IsPlain rest → IsPlain (time_of_day second ++ rest)
unfolding time_of_day
plain_time_before second rest e =
    plain_two (second / 3600) _ (plain_cons 58 _ (omega arith) (plain_two (second / 60 % 60) _ (plain_cons 58 _ (omega arith) (plain_two (second % 60) _ e))))

plain_iso : (time : ℤ) (clock : ℤ → ℤ) → IsPlain (iso_moment time clock)
unfolding iso_moment
plain_iso time clock =
    let tail = plain_cons 84 _ (omega arith) (plain_time_before (second_of_day clock time) (zone (clock time)) (plain_zone (clock time))) in
    let whole = plain_date_before (day_of clock time) _ tail in
    simp append_assoc whole

pub iso_as_field : (time : ℤ) (clock : ℤ → ℤ) → field_text default_writer (iso_moment time clock) ≡ iso_moment time clock
iso_as_field time clock = plain_field (iso_moment time clock) (plain_iso time clock)

who_text : (stay : Stay) → before_last (who_fields stay) ≡ (decimal (stay.host + 1) ++ 44 ∷ [] ++ field_text default_writer (user_field stay) ++ 44 ∷ [] ++ (field_text default_writer (line_field stay) ++ 44 ∷ [] ++ (field_text default_writer (shown stay.remote) ++ 44 ∷ [])))
unfolding who_fields
who_text stay = rw (number_as_field (stay.host + 1)) (simp (append_assoc, append-nil))

start_text : (clock : ℤ → ℤ) (stay : Stay) → before_last (start_fields clock stay) ≡ (signed_decimal stay.start ++ 44 ∷ [] ++ iso_moment stay.start clock ++ 44 ∷ [] ++ (signed_decimal stay.begin ++ 44 ∷ []))
unfolding start_fields
start_text clock stay = rw (signed_as_field stay.start, iso_as_field stay.start clock, signed_as_field stay.begin) (simp (append_assoc, append-nil))

ending_text : (clock : ℤ → ℤ) (stay : Stay) → before_last (end_fields clock stay) ≡ (field_text default_writer (end_word stay.end) ++ 44 ∷ [] ++ signed_decimal stay.end_time ++ 44 ∷ [] ++ iso_moment stay.end_time clock ++ 44 ∷ [])
unfolding end_fields
ending_text clock stay = rw (signed_as_field stay.end_time, iso_as_field stay.end_time clock) (simp (append_assoc, append-nil))

three_and_last : (a b d : Row) (n : ℕ) → row_text default_writer (((a ++ b) ++ d) ++ decimal n ∷ []) ≡ ((before_last a ++ before_last b) ++ before_last d) ++ (decimal n ++ 10 ∷ [])
three_and_last a b d n =
    row_text_last ((a ++ b) ++ d) (decimal n) (number_shows n)
    ∙ ap (λ (t : List ℕ). before_last ((a ++ b) ++ d) ++ (t ++ 10 ∷ [])) (number_as_field n)
    ∙ rw (flat_map-append (λ field. field_text default_writer field ++ 44 ∷ []) (a ++ b) d, flat_map-append (λ field. field_text default_writer field ++ 44 ∷ []) a b) refl

opened : (clock : ℤ → ℤ) (stay : Stay) → stay_fields clock stay ≡ who_fields stay ++ start_fields clock stay ++ end_fields clock stay ++ decimal stay.length ∷ []
unfolding stay_fields
opened clock stay = refl

five_parts : (a b d e f : List ℕ) → (((a ++ b) ++ d) ++ e) ++ f ≡ a ++ (((b ++ d) ++ e) ++ f)
five_parts a b d e f = simp append_assoc

joined : (clock : ℤ → ℤ) (stay : Stay) → row_text default_writer (stay_fields clock stay) ≡ ((before_last (who_fields stay) ++ before_last (start_fields clock stay)) ++ before_last (end_fields clock stay)) ++ (decimal stay.length ++ 10 ∷ [])
joined clock stay =
    ap (row_text default_writer) (opened clock stay) ∙ three_and_last (who_fields stay) (start_fields clock stay) (end_fields clock stay) stay.length

-- the parts of a row, one after the other, on a line
pub stay_row_text : (line : List ℕ) (clock : ℤ → ℤ) (stay : Stay)
    → (((line ++ (decimal (stay.host + 1) ++ 44 ∷ [] ++ field_text default_writer (user_field stay) ++ 44 ∷ [] ++ (field_text default_writer (line_field stay) ++ 44 ∷ [] ++ (field_text default_writer (shown stay.remote) ++ 44 ∷ []))))
    ++ (signed_decimal stay.start ++ 44 ∷ [] ++ iso_moment stay.start clock ++ 44 ∷ [] ++ (signed_decimal stay.begin ++ 44 ∷ [])))
    ++ (field_text default_writer (end_word stay.end) ++ 44 ∷ [] ++ signed_decimal stay.end_time ++ 44 ∷ [] ++ iso_moment stay.end_time clock ++ 44 ∷ []))
    ++ (decimal stay.length ++ 10 ∷ []) ≡ line ++ row_text default_writer (stay_fields clock stay)
stay_row_text line clock stay =
    rw (joined clock stay, who_text stay, start_text clock stay, ending_text clock stay) (five_parts line _ _ _ _)

-- the parts of a row with the seconds in a period
before_stay : (clock : ℤ → ℤ) (stay : Stay) → before_last (stay_fields clock stay)
    ≡ ((before_last (who_fields stay) ++ before_last (start_fields clock stay)) ++ before_last (end_fields clock stay)) ++ (decimal stay.length ++ 44 ∷ [])
before_stay clock stay =
    let comma : List ℕ → List ℕ = λ field. field_text default_writer field ++ 44 ∷ [] in
    ap before_last (opened clock stay)
    ∙ rw (
      flat_map-append comma ((who_fields stay ++ start_fields clock stay) ++ end_fields clock stay) (decimal stay.length ∷ []),
      flat_map-append comma (who_fields stay ++ start_fields clock stay) (end_fields clock stay),
      flat_map-append comma (who_fields stay) (start_fields clock stay),
      number_as_field stay.length,
      append-nil (decimal stay.length ++ 44 ∷ []),
    ) refl

six_parts : (a b d e f g : List ℕ) → ((((a ++ b) ++ d) ++ e) ++ f) ++ g ≡ a ++ ((((b ++ d) ++ e) ++ f) ++ g)
six_parts a b d e f g = simp append_assoc

pub part_row_text : (line : List ℕ) (clock : ℤ → ℤ) (period : Period) (stay : Stay)
    → ((((line ++ (decimal (stay.host + 1) ++ 44 ∷ [] ++ field_text default_writer (user_field stay) ++ 44 ∷ [] ++ (field_text default_writer (line_field stay) ++ 44 ∷ [] ++ (field_text default_writer (shown stay.remote) ++ 44 ∷ []))))
    ++ (signed_decimal stay.start ++ 44 ∷ [] ++ iso_moment stay.start clock ++ 44 ∷ [] ++ (signed_decimal stay.begin ++ 44 ∷ [])))
    ++ (field_text default_writer (end_word stay.end) ++ 44 ∷ [] ++ signed_decimal stay.end_time ++ 44 ∷ [] ++ iso_moment stay.end_time clock ++ 44 ∷ []))
    ++ (decimal stay.length ++ 44 ∷ [])) ++ (decimal (seconds_within period stay) ++ 10 ∷ []) ≡ line ++ row_text default_writer (part_fields clock period stay)
unfolding part_fields
part_row_text line clock period stay =
    let n = seconds_within period stay in
    rw (
      row_text_last (stay_fields clock stay) (decimal n) (number_shows n),
      number_as_field n,
      before_stay clock stay,
      who_text stay,
      start_text clock stay,
      ending_text clock stay,
    ) (six_parts line _ _ _ _ _)
