-- The text of a name from the lanes of its first 16 bytes.
use Rattle.std.proofs.Common.{◌≡◌, ℕ, zero, suc, ◌+◌, ◌-◌, ◌%◌, ◌^◌, ◌<◌, ◌≤◌, Bool, true, false, cond, eqb, ltb, ◌==◌, not, List, [], ◌∷◌, ◌++◌, inl, inr, length, length-append, take, map, get_or, replicate, w8, append_assoc, refl, sym, ap, subst, ◌∙◌, arith}
use Rattle.std.specs.List.{position_or_len, range_with_len}
use Rattle.std.proofs.lemmas.Bool.{cases_lt}
use Rattle.std.proofs.lemmas.Bool.Decides.{nat_tests}
use Rattle.std.proofs.Math.Seq.{take-length, take-suc}
use Rattle.std.proofs.lemmas.List.{append-nil, drop-replicate, get_or-append_right, length-take-le, replicate-append-replicate}
use Rattle.std.proofs.lemmas.List.Sums.{fails_before_first, prefix_len-le-length}
use Rattle.std.proofs.lemmas.Simd.{bitmask_splat, first_set_mask_l, get_or-replicate}
use lib.Lanes.{mask_l, sel_l, top, zip2}
use Rattle.tally_records.specs.Text.{text_of}
use Rattle.tally_records.specs.inside.Names.{lowest_bit}
use Rattle.tally_records.proofs.Texts.{text_of_is}
use Rattle.tally_records.proofs.Compact.TextWords.{text_cut, text_front}

-- the place of the first NUL
abbrev end_of : List ℕ → ℕ
end_of bytes = position_or_len (λ b. b == 0) bytes

-- whether a lane stands before an end, as the code has it
abbrev is_before : ℕ → ℕ → Bool
is_before end place = top 7 (cond (ltb place end) 255 0)

before_yes : (b : Bool) → b ≡ true → top 7 (cond b 255 0) ≡ true
before_yes true h = refl
before_yes false h = cc

before_no : (b : Bool) → b ≡ false → top 7 (cond b 255 0) ≡ false
before_no true h = cc
before_no false h = refl

-- lanes before an end are kept, and those from it on are 0
none_kept : (end a : ℕ) (xs : List ℕ) → end ≤ a → sel_l (map (is_before end) (range_with_len a (length xs))) xs (replicate (length xs) 0) ≡ replicate (length xs) 0
none_kept end a [] l = refl
none_kept end a (x ∷ xs) l =
    let no : is_before end a ≡ false = before_no (ltb a end) (grind (arith, nat_tests)) in
    λ i. cond (no i) x 0 ∷ none_kept end (a + 1) xs (omega arith) i

lanes_kept : (e end a : ℕ) (xs : List ℕ) → a + e ≡ end → e ≤ length xs
    → sel_l (map (is_before end) (range_with_len a (length xs))) xs (replicate (length xs) 0) ≡ take e xs ++ replicate (length xs - e) 0
lanes_kept zero end a xs at l = none_kept end a xs (omega arith) ∙ ap (λ (n : ℕ). replicate n 0) (omega arith)
lanes_kept (suc e) end a [] at l = absurd (omega arith)
lanes_kept (suc e) end a (x ∷ xs) at l =
    let yes : is_before end a ≡ true = before_yes (ltb a end) (grind (arith, nat_tests)) in
    let left : length xs - e ≡ length (x ∷ xs) - suc e = omega arith in
    let rest = lanes_kept e end (a + 1) xs (omega arith) (omega arith) in
    λ i. cond (yes i) x 0 ∷ (rest ∙ ap (λ (n : ℕ). take e xs ++ replicate n 0) left) i

-- the text of a list, by its end
text_by_end : (n : ℕ) (bytes : List ℕ) → text_of n bytes ≡ take (end_of bytes) bytes ++ replicate (n - end_of bytes) 0
text_by_end n bytes =
    sym (text_of_is n bytes (end_of bytes) refl (prefix_len-le-length _ bytes))
    ∙ ap (λ (zs : List ℕ). take (end_of bytes) bytes ++ zs) (drop-replicate (end_of bytes) n 0)

-- what the code makes of 16 bytes
pub text_from_lanes : (bytes : List ℕ) (end : ℕ) → length bytes ≡ 16
    → end ≡ lowest_bit (mask_l (map (top 7) (zip2 (λ (a b : ℕ). cond (eqb a b) 255 0) bytes (replicate 16 0))) % 2 ^ 64)
    → sel_l (map (is_before end) (range_with_len 0 16)) bytes (replicate 16 0) ≡ text_of 16 bytes
text_from_lanes bytes end long found =
    let at : end ≡ end_of bytes = found ∙ ap lowest_bit (bitmask_splat w8 (λ (a b : ℕ). eqb a b) bytes 16 0 long (omega arith)) ∙ first_set_mask_l (λ (b : ℕ). eqb b 0) bytes 16 long (omega arith) in
    let within : end_of bytes ≤ length bytes = prefix_len-le-length _ bytes in
    let kept : sel_l (map (is_before end) (range_with_len 0 16)) bytes (replicate 16 0) ≡ take end bytes ++ replicate (16 - end) 0 =
    subst (λ (n : ℕ). sel_l (map (is_before end) (range_with_len 0 n)) bytes (replicate n 0) ≡ take end bytes ++ replicate (n - end) 0) long (lanes_kept end end 0 bytes (omega arith) (omega arith)) in
    kept ∙ ap (λ (e : ℕ). take e bytes ++ replicate (16 - e) 0) at ∙ sym (text_by_end 16 bytes)

-- one zero more
pub text_of-one_more : (bytes : List ℕ) → length bytes ≡ 16 → text_of 16 bytes ++ (0 ∷ []) ≡ text_of 17 bytes
text_of-one_more bytes long =
    let e = end_of bytes in
    let within : e ≤ length bytes = prefix_len-le-length _ bytes in
    let sum : 16 - e + 1 ≡ 17 - e = omega arith in
    ap (λ (t : List ℕ). t ++ (0 ∷ [])) (text_by_end 16 bytes)
    ∙ append_assoc (take e bytes) (replicate (16 - e) 0) (0 ∷ [])
    ∙ ap (λ (zs : List ℕ). take e bytes ++ zs) (replicate-append-replicate (16 - e) 1 0 ∙ ap (λ (n : ℕ). replicate n 0) sum)
    ∙ sym (text_by_end 17 bytes)

-- the end is within the first 16 bytes, or none of them is NUL
last_is_zero : (bytes : List ℕ) → length bytes ≡ 16 → end_of bytes < 16 → get_or (text_of 16 bytes) 15 0 ≡ 0
last_is_zero bytes long l =
    let e = end_of bytes in
    let len : length (take e bytes) ≡ e = length-take-le e bytes (omega arith) in
    ap (λ (t : List ℕ). get_or t 15 0) (text_by_end 16 bytes)
    ∙ get_or-append_right (take e bytes) (replicate (16 - e) 0) e 15 0 len (omega arith)
    ∙ get_or-replicate (16 - e) (15 - e) 0 0 (omega arith)

whole_text : (bytes : List ℕ) → length bytes ≡ 16 → 16 ≤ end_of bytes → text_of 16 bytes ≡ bytes
whole_text bytes long l =
    let within : end_of bytes ≤ length bytes = prefix_len-le-length _ bytes in
    let all : end_of bytes ≡ length bytes = omega arith in
    let none : 16 - end_of bytes ≡ 0 = omega arith in
    text_by_end 16 bytes ∙ (λ i. take (all i) bytes ++ replicate (none i) 0) ∙ append-nil (take (length bytes) bytes) ∙ take-length bytes

last_of_whole : (bytes : List ℕ) → length bytes ≡ 16 → 16 ≤ end_of bytes → get_or (text_of 16 bytes) 15 0 ≡ 0 → ⊥
last_of_whole bytes long l none =
    let no : (get_or bytes 15 0 == 0) ≡ false = fails_before_first (λ b. b == 0) bytes 15 0 (omega arith) in
    let is : get_or bytes 15 0 ≡ 0 = sym (ap (λ (t : List ℕ). get_or t 15 0) (whole_text bytes long l)) ∙ none in
    grind (arith, nat_tests)

one_byte : (b : ℕ) → text_of 1 (b ∷ []) ≡ b ∷ []
one_byte b = text_by_end 1 (b ∷ []) ∙ by (b == 0) refl
  where
    by : (t : Bool) → (b == 0) ≡ t → take (cond (not t) 1 0) (b ∷ []) ++ replicate (1 - cond (not t) 1 0) 0 ≡ b ∷ []
    by true z = let is : 0 ≡ b = grind (arith, nat_tests) in λ i. is i ∷ []
    by false z = refl

-- 17 bytes, of which the first 16 have a NUL or not
text_is_cut : (bytes : List ℕ) (b : ℕ) → length bytes ≡ 16 → end_of bytes < 16 → text_of 16 bytes ++ (0 ∷ []) ≡ text_of 17 (bytes ++ (b ∷ []))
text_is_cut bytes b long l =
    let e = end_of bytes in
    let size : length (bytes ++ (b ∷ [])) ≡ 17 = omega (arith, length-append bytes (b ∷ [])) in
    let left : 17 - e ≡ length bytes + 1 - e = omega arith in
    text_of-one_more bytes long ∙ text_by_end 17 bytes ∙ ap (λ (n : ℕ). take e bytes ++ replicate n 0) left
    ∙ sym (text_cut bytes (b ∷ []) e refl (omega arith)) ∙ ap (λ (n : ℕ). text_of n (bytes ++ (b ∷ []))) size

text_is_whole : (bytes : List ℕ) (b : ℕ) → length bytes ≡ 16 → 16 ≤ end_of bytes → text_of 16 bytes ++ (b ∷ []) ≡ text_of 17 (bytes ++ (b ∷ []))
text_is_whole bytes b long l =
    let size : length (bytes ++ (b ∷ [])) ≡ 17 = omega (arith, length-append bytes (b ∷ [])) in
    let within : end_of bytes ≤ length bytes = prefix_len-le-length _ bytes in
    ap (λ (t : List ℕ). t ++ (b ∷ [])) (whole_text bytes long l) ∙ ap (λ (t : List ℕ). bytes ++ t) (sym (one_byte b))
    ∙ sym (text_front bytes (b ∷ []) (omega arith)) ∙ ap (λ (n : ℕ). text_of n (bytes ++ (b ∷ []))) size

cut_text : (bytes : List ℕ) (b : ℕ) → length bytes ≡ 16 → get_or (text_of 16 bytes) 15 0 ≡ 0 → text_of 16 bytes ++ (0 ∷ []) ≡ text_of 17 (bytes ++ (b ∷ []))
cut_text bytes b long none = elim (cases_lt (end_of bytes) 16) [ inl l ↦ text_is_cut bytes b long l | inr l ↦ absurd (last_of_whole bytes long l none) ]

full_text : (bytes : List ℕ) (b : ℕ) → length bytes ≡ 16 → (get_or (text_of 16 bytes) 15 0 ≡ 0 → ⊥) → text_of 16 bytes ++ (b ∷ []) ≡ text_of 17 (bytes ++ (b ∷ []))
full_text bytes b long filled = elim (cases_lt (end_of bytes) 16) [ inl l ↦ absurd (filled (last_is_zero bytes long l)) | inr l ↦ text_is_whole bytes b long l ]

-- a field of 16 bytes, and one of 17 by the last byte of its front
pub name_of_16 : (field : List ℕ) → length field ≡ 16 → text_of 16 (take 16 field) ++ (0 ∷ []) ≡ text_of 17 field
name_of_16 field long =
    let whole : take 16 field ≡ field = ap (λ (n : ℕ). take n field) (sym long) ∙ take-length field in
    ap (λ (bytes : List ℕ). text_of 16 bytes ++ (0 ∷ [])) whole ∙ text_of-one_more field long

parts_of_17 : (field : List ℕ) → length field ≡ 17 → take 16 field ++ (get_or field 16 0 ∷ []) ≡ field
parts_of_17 field long = sym (take-suc field 16 0 (omega arith)) ∙ ap (λ (n : ℕ). take n field) (sym long) ∙ take-length field

pub name_of_17_cut : (field : List ℕ) → length field ≡ 17 → get_or (text_of 16 (take 16 field)) 15 0 ≡ 0 → text_of 16 (take 16 field) ++ (0 ∷ []) ≡ text_of 17 field
name_of_17_cut field long none =
    cut_text (take 16 field) (get_or field 16 0) (length-take-le 16 field (omega arith)) none ∙ ap (λ (bytes : List ℕ). text_of 17 bytes) (parts_of_17 field long)

pub name_of_17_full : (field : List ℕ) → length field ≡ 17 → (get_or (text_of 16 (take 16 field)) 15 0 ≡ 0 → ⊥) → text_of 16 (take 16 field) ++ (get_or field 16 0 ∷ []) ≡ text_of 17 field
name_of_17_full field long filled =
    full_text (take 16 field) (get_or field 16 0) (length-take-le 16 field (omega arith)) filled ∙ ap (λ (bytes : List ℕ). text_of 17 bytes) (parts_of_17 field long)
