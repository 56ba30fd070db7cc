-- Lines with a mark: that each has a `#`, and that their rows' numbers can be read back from them.
use Rattle.std.proofs.Common.{◌≡◌, ℕ, zero, suc, ◌+◌, ◌-◌, ◌%◌, ◌<◌, ◌≤◌, ◌^◌, ◌==◌, Bool, true, false, not, ◌||◌, cond, List, [], ◌∷◌, ◌++◌, length, take, replicate, refl, sym, ap, ◌∙◌, arith, append_assoc}
use Rattle.std.proofs.lemmas.Bool.{or_from, or_right}
use Rattle.std.proofs.lemmas.Bool.Decides.{nat_tests}
use Rattle.std.proofs.lemmas.Fmt.{decimal_by_steps, length_signed_le, signed_decimal_injective}
use Rattle.std.proofs.lemmas.List.{length-append, take_all}
use Rattle.std.proofs.lemmas.List.Folds.{list_any-append}
use Rattle.std.specs.Fmt.{decimal, signed_decimal}
use Rattle.std.specs.Int.{w64}
use Rattle.std.specs.List.{list_any, prefix_len}
use Rattle.std.specs.Prelude.{ℤ, pos, negsuc, FitsSigned}
use Rattle.sqlite_value.specs.Order.{Row}
use Rattle.tally_records.specs.Text.{padded}
use Rattle.tally_wtmpdb.proofs.ReadBack.{HasNoNul, cut_again, front-no_nul, kept-short, stays, take-no_nul}
use Rattle.tally_wtmpdb.specs.Fields.{field, kept}
use Rattle.tally_wtmpdb.specs.Made.{mark_of, marked_line}
use Rattle.tally_wtmpdb.specs.Rows.{id_of, tty_of}

-- ---- texts without a NUL

join-no_nul : (xs ys : List ℕ) → HasNoNul xs → HasNoNul ys → HasNoNul (xs ++ ys)
join-no_nul [] ys h g = g
join-no_nul (x ∷ xs) ys h g = (h.0, join-no_nul xs ys h.1 g)

whole : (t : List ℕ) → HasNoNul t → take (prefix_len stays t) t ≡ t
whole [] h = refl
whole (x ∷ xs) h =
    let next : 1 + prefix_len stays xs ≡ suc (prefix_len stays xs) = omega arith in
    ap (λ (b : Bool). take (cond b (1 + prefix_len stays xs) 0) (x ∷ xs)) h.0 ∙ ap (λ (n : ℕ). take n (x ∷ xs)) next ∙ ap (λ (t : List ℕ). x ∷ t) (whole xs h.1)

-- such a text that fits is kept whole
kept_whole : (n : ℕ) (t : List ℕ) → HasNoNul t → length t ≤ n → kept n t ≡ t
unfolding kept
kept_whole n t h fits = ap (λ (l : List ℕ). take n l) (whole t h) ∙ take_all n t fits

no_nul : (n : ℕ) (text : List ℕ) → HasNoNul (kept n text)
unfolding kept
no_nul n text = take-no_nul n _ (front-no_nul text)

-- ---- digits

abbrev is_hash : ℕ → Bool
is_hash b = b == 35

-- bytes of a number are no NUL and no `#`
abbrev IsPlain : List ℕ → Type 0
IsPlain ds = HasNoNul ds × (list_any is_hash ds ≡ false)

digit_stays : (k : ℕ) → k < 10 → stays (48 + k) ≡ true
digit_stays k h = grind (arith, nat_tests, h)

digit_no_hash : (k : ℕ) → k < 10 → is_hash (48 + k) ≡ false
digit_no_hash k h = grind (arith, nat_tests, h)

one_digit : (k : ℕ) → k < 10 → IsPlain ((48 + k) ∷ [])
one_digit k h = ((digit_stays k h, tt), or_from (is_hash (48 + k)) false (digit_no_hash k h) refl)

more_digits : (n : ℕ) (ds : List ℕ) → 10 ≤ n → IsPlain ds → IsPlain (ds ++ ((48 + n % 10) ∷ []))
more_digits n ds h plain =
    let last = one_digit (n % 10) (omega arith) in
    (join-no_nul ds _ plain.0 last.0, list_any-append is_hash ds ((48 + n % 10) ∷ []) ∙ or_from (list_any is_hash ds) (list_any is_hash ((48 + n % 10) ∷ [])) plain.1 last.1)

plain_decimal : (n : ℕ) → n < 2 ^ 64 → IsPlain (decimal n)
plain_decimal n h = decimal_by_steps (λ k ds. IsPlain ds) one_digit (λ k ds low plain. more_digits k ds low plain) n h

plain_number : (z : ℤ) → FitsSigned w64 z → IsPlain (signed_decimal z)
plain_number (pos n) fits = plain_decimal n (omega (arith, fits.sfits))
plain_number (negsuc n) fits = let rest = plain_decimal (suc n) (omega (arith, fits.sfits)) in ((refl, rest.0), rest.1)

-- ---- what stands after the last `#`

abbrev after_hash : List ℕ → List ℕ
after_hash [] = []
after_hash (x ∷ xs) = cond (list_any is_hash xs || not (is_hash x)) (after_hash xs) xs

has_hash : (a d : List ℕ) → list_any is_hash (a ++ 35 ∷ d) ≡ true
has_hash a d = list_any-append is_hash a (35 ∷ d) ∙ or_right (list_any is_hash a) true refl

after_hash-last : (a d : List ℕ) → list_any is_hash d ≡ false → after_hash (a ++ 35 ∷ d) ≡ d
after_hash-last [] d none = ap (λ (b : Bool). cond (b || false) (after_hash d) d) none
after_hash-last (x ∷ a) d none = ap (λ (b : Bool). cond (b || not (is_hash x)) (after_hash (a ++ 35 ∷ d)) (a ++ 35 ∷ d)) (has_hash a d) ∙ after_hash-last a d none

no_hash-zeros : (n : ℕ) → list_any is_hash (replicate n 0) ≡ false
no_hash-zeros zero = refl
no_hash-zeros (suc n) = no_hash-zeros n

-- ---- lines with a mark

length-mark : (row : Row) → FitsSigned w64 (id_of row) → length (mark_of row) ≤ 21
length-mark row fits = omega (arith, length_signed_le 19 (id_of row) (omega (arith, fits.sfits)) fits.sfits)

-- what stands before the mark
abbrev front : Row → List ℕ
front row = kept (32 - length (mark_of row)) (tty_of row)

abbrev number : Row → List ℕ
number row = signed_decimal (id_of row)

-- such a line ends with the row's number, and then zeros
pub marked-is : (row : Row) → FitsSigned w64 (id_of row) → field 32 (marked_line row) ≡ front row ++ 35 ∷ (number row ++ replicate (32 - length (marked_line row)) 0)
unfolding field
marked-is row fits =
    let short : length (marked_line row) ≤ 32 = omega (arith, length-append (front row) (mark_of row), kept-short (32 - length (mark_of row)) (tty_of row), length-mark row fits) in
    let clean : HasNoNul (marked_line row) = join-no_nul (front row) (mark_of row) (no_nul (32 - length (mark_of row)) (tty_of row)) (refl, (plain_number (id_of row) fits).0) in
    ap (padded 32) (kept_whole 32 (marked_line row) clean short) ∙ append_assoc (front row) (mark_of row) (replicate (32 - length (marked_line row)) 0)

-- it has a `#`
pub marked-hash : (row : Row) → FitsSigned w64 (id_of row) → list_any (λ b. b == 35) (field 32 (marked_line row)) ≡ true
marked-hash row fits = ap (list_any is_hash) (marked-is row fits) ∙ has_hash (front row) (number row ++ replicate (32 - length (marked_line row)) 0)

-- the number, with zeros after it
tail_is : (row : Row) → FitsSigned w64 (id_of row) → after_hash (field 32 (marked_line row)) ≡ number row ++ replicate (32 - length (marked_line row)) 0
tail_is row fits =
    ap after_hash (marked-is row fits)
    ∙ after_hash-last (front row) (number row ++ replicate (32 - length (marked_line row)) 0)
    (list_any-append is_hash (number row) (replicate (32 - length (marked_line row)) 0)
    ∙ or_from (list_any is_hash (number row)) (list_any is_hash (replicate (32 - length (marked_line row)) 0)) (plain_number (id_of row) fits).1 (no_hash-zeros (32 - length (marked_line row))))

abbrev up_to_nul : List ℕ → List ℕ
up_to_nul l = take (prefix_len stays l) l

number_back : (row : Row) → FitsSigned w64 (id_of row) → up_to_nul (after_hash (field 32 (marked_line row))) ≡ number row
number_back row fits = ap up_to_nul (tail_is row fits) ∙ cut_again (number row) (32 - length (marked_line row)) (plain_number (id_of row) fits).0

-- rows with one line with a mark have one number
pub same_id : (a b : Row) → FitsSigned w64 (id_of a) → FitsSigned w64 (id_of b) → field 32 (marked_line a) ≡ field 32 (marked_line b) → id_of a ≡ id_of b
same_id a b fa fb e =
    signed_decimal_injective (id_of a) (id_of b) fa.sfits fb.sfits
    (sym (number_back a fa) ∙ ap (λ (l : List ℕ). up_to_nul (after_hash l)) e ∙ number_back b fb)
