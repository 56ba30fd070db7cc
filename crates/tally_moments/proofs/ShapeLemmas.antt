-- Texts and what they begin with.
use Rattle.std.proofs.Common.{◌≡◌, ◌≢◌, ◌∙◌, ℕ, ◌<◌, ◌^◌, ◌==◌, ◌&&◌, Bool, true, false, cond, not, List, [], ◌∷◌, length, drop, Option, Some, None, Result, Ok, Err, ℤ, pos, refl, ap, sym, arith, rules, nat_lt, w64}
use Rattle.std.specs.Prelude.{option_map, unwrap_or, MatchOption}
use Rattle.std.specs.Result.{OkIff, result_ok}
use Rattle.std.specs.Borrow.{Bor}
use Rattle.std.specs.Str.Parse.{without_leading_plus}
use Rattle.std.proofs.lemmas.Bool.Decides.{nat_tests}
use Rattle.std.specs.Char.{is_ascii_digit}
use Rattle.std.specs.List.{list_all}
use Rattle.std.specs.Str.Parse.{ParsesSigned, digits_value}
use Rattle.std.proofs.lemmas.Str.Parse.{IsNumeralModel, numerals_by_value, parse_signed_digits}
use Rattle.tally_moments.specs.Shapes.{after, is_digits, number_of}

-- what a text is split into by a byte that it begins with
abbrev pub Splits : ℕ → List ℕ → Option (Bor (List ℕ)) → Type 0
Splits byte text found = MatchOption found ((rest : List ℕ) → text ≢ byte ∷ rest) (λ rest. text ≡ byte ∷ rest.now)

after_some : (byte : ℕ) (rest : List ℕ) → after byte (byte ∷ rest) ≡ Some rest
after_some byte rest = let same : (byte == byte) ≡ true = grind (arith, nat_tests) in rw same refl

after_none : (byte : ℕ) (text : List ℕ) → ((rest : List ℕ) → text ≢ byte ∷ rest) → None ≡ after byte text
after_none byte [] none = refl
after_none byte (x ∷ xs) none = go (x == byte) refl
  where
    go : (b : Bool) → (x == byte) ≡ b → None ≡ cond b (Some xs) None
    go true is = absurd (none xs (ap (λ y. y ∷ xs) (grind (arith, nat_tests, is))))
    go false is = refl

-- what follows a byte is what a split leaves
pub after_is : (byte : ℕ) (text : List ℕ) (found : Option (Bor (List ℕ))) → Splits byte text found → option_map (λ (s : Bor (List ℕ)). s.now) found ≡ after byte text
after_is byte text None none = after_none byte text none
after_is byte text (Some rest) is = sym (ap (after byte) is ∙ after_some byte rest.now)

-- a text without a plus that it begins with
pub without_plus_is : (text : Bor (List ℕ)) (found : Option (Bor (List ℕ))) → Splits 43 text.now found → (unwrap_or found text).now ≡ without_leading_plus text.now
without_plus_is text None none = go text.now none
  where
    go : (bs : List ℕ) → ((rest : List ℕ) → bs ≢ 43 ∷ rest) → bs ≡ without_leading_plus bs
    go [] none = refl
    go (x ∷ xs) none = test (x == 43) refl
      where
        test : (b : Bool) → (x == 43) ≡ b → x ∷ xs ≡ drop (cond b 1 0) (x ∷ xs)
        test true is = absurd (none xs (ap (λ y. y ∷ xs) (grind (arith, nat_tests, is))))
        test false is = refl
without_plus_is text (Some rest) is = sym (ap without_leading_plus is)

-- ---- numbers

are_digits : IsNumeralModel (λ ds. list_all is_ascii_digit ds ≡ true) (digits_value 10)
are_digits = numerals_by_value _ (search rules)

both_parts : (a b : Bool) → (a && b) ≡ true → (a ≡ true) × (b ≡ true)
both_parts true b e = (refl, e)
both_parts false b e = cc

-- the number that digits write is what is read of them
pub number_is : {E : Type 0} (text : List ℕ) (r : Result ℤ E) → ParsesSigned w64 10 text r → is_digits text ≡ true → result_ok r ≡ option_map pos (number_of text)
number_is {E} text r read digits = go r (parse_signed_digits are_digits w64 text r read (both_parts (not (length text == 0)) (list_all is_ascii_digit text) digits).1)
  where
    some : 0 < length text
    some = let filled = (both_parts (not (length text == 0)) (list_all is_ascii_digit text) digits).0 in grind (arith, nat_tests)

    go : (r : Result ℤ E) → OkIff r ((0 < length text) × (digits_value 10 text < 2 ^ 63)) (pos (digits_value 10 text)) → result_ok r ≡ option_map pos (number_of text)
    go (Ok x) is =
        let fits : nat_lt (digits_value 10 text) (2 ^ 63) ≡ true = grind (arith, nat_tests, is.0.1) in
        rw (digits, fits) (ap Some is.1)
    go (Err e) not_is =
        let over : nat_lt (digits_value 10 text) (2 ^ 63) ≡ false = grind (arith, nat_tests, not_is, some) in
        rw (digits, over) refl
