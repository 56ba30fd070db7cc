-- Texts that need no quotes: numbers, dates and moments.
use Rattle.std.proofs.Common.{◌≡◌, ℕ, ℤ, zero, suc, ◌+◌, ◌/◌, ◌%◌, ◌≤◌, ◌∷◌, ◌++◌, List, [], length, false, refl, eqb, arith, inl, inr, pos, negsuc, subst}
use Rattle.std.specs.Prelude.{decimal, nat_lt}
use Rattle.std.specs.Fmt.{digit_glyph, digits, digits_onto, signed_decimal}
use Rattle.std.proofs.lemmas.Bool.{cases_Bool}
use Rattle.std.proofs.lemmas.Bool.Decides.{nat_tests}
use Rattle.std.proofs.lemmas.List.{append-nil}
use Rattle.csv.specs.Writing.{default_writer, field_text, is_blank, needs_byte, needs_quotes}
use Rattle.tally_print.specs.Text.{two, date}
use Rattle.tally_print.specs.Civil.{year_of, month_of, day_of_month}

-- a text with no mark of the format
pub record IsPlain (text : List ℕ) : Type 0 where
  pub is : needs_quotes default_writer text ≡ false

-- a byte above the comma needs no quotes
needs_high : (b : ℕ) → 45 ≤ b → needs_byte default_writer b ≡ false
needs_high b high =
    let comma : eqb b 44 ≡ false = grind (arith, nat_tests) in
    let quote : eqb b 34 ≡ false = grind (arith, nat_tests) in
    let r : eqb b 13 ≡ false = grind (arith, nat_tests) in
    let n : eqb b 10 ≡ false = grind (arith, nat_tests) in
    rw (comma, quote, r, n) refl

-- such a byte in front of a text that needs none
pub plain_cons : (b : ℕ) (rest : List ℕ) → 45 ≤ b → IsPlain rest → IsPlain (b ∷ rest)
plain_cons b rest high e = record { is = rw (needs_high b high) e.is }

pub plain_two : (n : ℕ) (rest : List ℕ) → IsPlain rest → IsPlain (two n ++ rest)
plain_two n rest e = plain_cons (48 + n / 10) ((48 + n % 10) ∷ rest) (omega arith) (plain_cons (48 + n % 10) rest (omega arith) e)

glyph_is_high : (d : ℕ) → 45 ≤ digit_glyph false d
glyph_is_high d = elim (cases_Bool (nat_lt d 10)) [
  | inl low ↦ rw low (omega arith)
  | inr high ↦ rw high (omega arith)
]

plain_onto : (k n : ℕ) (acc : List ℕ) → IsPlain acc → IsPlain (digits_onto k 10 false n acc)
plain_onto zero n acc e = e
plain_onto (suc k) n acc e =
    let more = plain_cons (digit_glyph false (n % 10)) acc (glyph_is_high (n % 10)) e in
    elim (cases_Bool (eqb (n / 10) 0)) [
      | inl last ↦ rw last more
      | inr next ↦ rw next (plain_onto k (n / 10) (digit_glyph false (n % 10) ∷ acc) more)
    ]

long_onto : (k n : ℕ) (acc : List ℕ) → length acc ≤ length (digits_onto k 10 false n acc)
long_onto zero n acc = omega arith
long_onto (suc k) n acc = elim (cases_Bool (eqb (n / 10) 0)) [
  | inl last ↦ rw last (omega arith)
  | inr next ↦
      let more = long_onto k (n / 10) (digit_glyph false (n % 10) ∷ acc) in
      rw next (omega (arith, more))
]

pub plain_decimal : (n : ℕ) → IsPlain (decimal n)
unfolding digits
plain_decimal n = plain_onto 64 n [] (record { is = refl })

decimal_has_a_digit : (n : ℕ) → 1 ≤ length (decimal n)
unfolding digits
decimal_has_a_digit n = elim (cases_Bool (eqb (n / 10) 0)) [
  | inl last ↦ rw last (omega arith)
  | inr next ↦ rw next (long_onto 63 (n / 10) (digit_glyph false (n % 10) ∷ []))
]

pub plain_signed : (z : ℤ) → IsPlain (signed_decimal z)
plain_signed (pos n) = plain_decimal n
plain_signed (negsuc n) = plain_cons 45 (decimal (suc n)) (omega arith) (plain_decimal (suc n))

pub plain_date_before : (day : ℤ) (rest : List ℕ) → IsPlain rest → IsPlain (date day ++ rest)
unfolding date
plain_date_before day rest e =
    plain_two (year_of day / 100) _ (plain_two (year_of day % 100) _ (plain_cons 45 _ (omega arith)
    (plain_two (month_of day) _ (plain_cons 45 _ (omega arith) (plain_two (day_of_month day) _ e)))))

pub plain_date : (day : ℤ) → IsPlain (date day)
plain_date day = subst IsPlain (append-nil (date day)) (plain_date_before day [] (record { is = refl }))

-- a text that needs no quotes stands as it is
pub plain_field : (text : List ℕ) → IsPlain text → field_text default_writer text ≡ text
plain_field text e = rw e.is refl

-- a number is never blank
pub number_shows : (n : ℕ) → is_blank default_writer (decimal n ∷ []) ≡ false
unfolding is_blank
number_shows n =
    let some = decimal_has_a_digit n in
    let e : eqb (length (decimal n)) 0 ≡ false = grind (arith, nat_tests) in
    let plain = (plain_decimal n).is in
    rw (plain, e) refl

pub date_as_field : (day : ℤ) → field_text default_writer (date day) ≡ date day
date_as_field day = plain_field (date day) (plain_date day)

pub number_as_field : (n : ℕ) → field_text default_writer (decimal n) ≡ decimal n
number_as_field n = plain_field (decimal n) (plain_decimal n)

pub signed_as_field : (z : ℤ) → field_text default_writer (signed_decimal z) ≡ signed_decimal z
signed_as_field z = plain_field (signed_decimal z) (plain_signed z)
