-- Reading a line of passwd(5): its fields one by one, and the number that digits write.
use Rattle.std.proofs.Common.{◌≡◌, ◌≢◌, ℕ, ◌+◌, ◌-◌, ◌*◌, ◌<◌, ◌≤◌, min, Bool, true, false, cond, ◌&&◌, ◌==◌, eqb, ltb, List, [], ◌∷◌, length, take, drop, Option, None, Some, refl, sym, ap, subst, ◌∙◌, arith}
use Rattle.std.proofs.lemmas.Bool.{false≢true, le-ltb, ltb-true, ltb-false, lt-ltb}
use Rattle.std.proofs.lemmas.Bool.Decides.{nat_tests}
use Rattle.std.proofs.lemmas.List.{length-drop, take_all}
use Rattle.std.proofs.lemmas.List.Splits.{slice_split_first, slice_split_none, length-slice_split}
use Rattle.std.proofs.lemmas.List.Sums.{fails_before_first}
use Rattle.std.specs.Char.{digit_value}
use Rattle.std.specs.List.{count_by, position, position_or_len, slice_split}
use Rattle.std.specs.Str.Parse.{digits_value}
use Rattle.tally_usage.specs.Names.{fields_of, is_uid}
use Rattle.std.specs.Borrow.{Bor}
use Rattle.tally_usage.specs.inside.Names.{fields_left, user_of}

-- ---- the first field

-- where a part ends, it is the first of the parts
pub split_found : (p : ℕ → Bool) (xs : List ℕ) (at : ℕ) → position p xs ≡ Some at → slice_split p xs ≡ take at xs ∷ slice_split p (drop (at + 1) xs)
split_found p xs at e = by (ltb (position_or_len p xs) (length xs)) refl e
  where
    by : (b : Bool) → ltb (position_or_len p xs) (length xs) ≡ b → cond b (Some (position_or_len p xs)) None ≡ Some at → slice_split p xs ≡ take at xs ∷ slice_split p (drop (at + 1) xs)
    by true within found =
        let same : position_or_len p xs ≡ at = cc in
        subst (λ n. slice_split p xs ≡ take n xs ∷ slice_split p (drop (n + 1) xs)) same (slice_split_first p xs 0 (ltb-true _ _ within))
    by false within found = absurd (let f : None ≡ Some at = found in cc)

-- where none ends, the list is the one part
pub split_whole : (p : ℕ → Bool) (xs : List ℕ) → position p xs ≡ None → slice_split p xs ≡ xs ∷ []
split_whole p xs e = by (ltb (position_or_len p xs) (length xs)) refl e
  where
    by : (b : Bool) → ltb (position_or_len p xs) (length xs) ≡ b → cond b (Some (position_or_len p xs)) None ≡ None → slice_split p xs ≡ xs ∷ []
    by true within found = absurd (let f : Some (position_or_len p xs) ≡ None = found in cc)
    by false within found =
        let all = ltb-false _ _ within in
        slice_split_none p xs (λ k d l. fails_before_first p xs k d (omega arith))

pub rest_whole : (xs : List ℕ) (n : ℕ) → take (length xs - n) (drop n xs) ≡ drop n xs
rest_whole xs n = take_all _ (drop n xs) (omega (arith, length-drop n xs))

-- the fields of a text whose first field is known, where a colon ends it
pub after_field : (text field : List ℕ) (o : Option (Bor (List ℕ))) (rest : Bor (List ℕ)) → fields_of text ≡ field ∷ fields_left o → o ≡ Some rest → fields_of text ≡ field ∷ fields_of rest.now
after_field text field o rest e some = e ∙ ap (λ o. field ∷ fields_left o) some

pub some_length : (xs : List ℕ) → (length xs == 0) ≡ false → 0 < length xs
some_length xs e = grind (arith, nat_tests)

-- ---- the number that digits write

decimal_digit : (c : ℕ) → 48 ≤ c → c ≤ 57 → digit_value c ≡ c - 48
decimal_digit c low high = grind (arith, nat_tests)

-- one digit more, where numbers past a bound are all that bound
pub bounded_step : (most v w n c : ℕ) → 48 ≤ c → c ≤ 57 → n ≡ min v most → w ≡ v * 10 + digit_value c → min (n * 10 + (c - 48)) most ≡ min w most
bounded_step most v w n c low high is_n is_w = omega (arith, decimal_digit c low high)

-- ---- the fields of a user

both_or_none : (a b c : Bool) (user : ℕ × List ℕ) → b ≡ false → cond (a && b && c) (Some user) None ≡ None
both_or_none true true c user e = absurd (false≢true (sym e))
both_or_none true false c user e = refl
both_or_none false b c user e = refl

-- the first field is empty
pub user-no_name : (line name second number : List ℕ) (more : List (List ℕ)) → fields_of line ≡ name ∷ second ∷ number ∷ more → length name ≡ 0 → None ≡ user_of (fields_of line)
user-no_name line name second number more e empty =
    sym (ap user_of e ∙ both_or_none (length (name ∷ second ∷ number ∷ more) == 7) (ltb 0 (length name)) (is_uid number) (digits_value 10 number, name) (le-ltb 0 (length name) (omega arith)))

-- there are more or fewer than seven
pub user-not_seven : (line name second number rest : List ℕ) → fields_of line ≡ name ∷ second ∷ number ∷ fields_of rest → count_by (λ byte. byte == 58) rest ≢ 3 → None ≡ user_of (fields_of line)
user-not_seven line name second number rest e other =
    let fields = name ∷ second ∷ number ∷ fields_of rest in
    let count : length fields ≢ 7 = λ seven. other (omega (arith, seven, length-slice_split (λ byte. byte == 58) rest)) in
    sym (ap user_of e ∙ ap (λ b. cond (b && ltb 0 (length name) && is_uid number) (Some (digits_value 10 number, name)) None) (let f : eqb (length fields) 7 ≡ false = grind (arith, nat_tests) in f))

-- there are seven, with a name and a number
pub user-whole : (line name second number rest : List ℕ) (uid : ℕ) → fields_of line ≡ name ∷ second ∷ number ∷ fields_of rest → count_by (λ byte. byte == 58) rest ≡ 3 → 0 < length name
    → Some uid ≡ cond (is_uid number) (Some (digits_value 10 number)) None → Some (uid, name) ≡ user_of (fields_of line)
user-whole line name second number rest uid e three named says = by (is_uid number) refl says
  where
    by : (b : Bool) → is_uid number ≡ b → Some uid ≡ cond b (Some (digits_value 10 number)) None → Some (uid, name) ≡ user_of (fields_of line)
    by true is_number same =
        let fields = name ∷ second ∷ number ∷ fields_of rest in
        let uid_is : uid ≡ digits_value 10 number = cc in
        let seven : eqb (length fields) 7 ≡ true = (let n : length fields ≡ 7 = omega (arith, length-slice_split (λ byte. byte == 58) rest) in grind (arith, nat_tests)) in
        sym (ap user_of e ∙ (λ i. cond (seven i && lt-ltb 0 (length name) named i && is_number i) (Some (digits_value 10 number, name)) None) ∙ (λ i. Some (sym uid_is i, name)))
    by false is_number same = absurd (let f : Some uid ≡ None = same in cc)
