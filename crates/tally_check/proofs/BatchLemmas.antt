-- Good records make a batch.
use Rattle.std.proofs.Common.{◌≡◌, ℕ, suc, ◌+◌, ◌*◌, ◌/◌, ◌%◌, ◌<◌, ◌≤◌, Bool, true, false, List, [], ◌∷◌, ◌++◌, get_or, length, cond, filter, take, drop, Option, Some, None, Result, Ok, ok_or, refl, sym, ap, ◌∙◌, arith}
use Rattle.std.proofs.Math.Seq.{drop-append_seam, take-append_seam}
use Rattle.std.proofs.lemmas.Bool.Decides.{nat_tests}
use Rattle.std.proofs.lemmas.List.Sums.{count_by-le-length, length-filter}
use Rattle.std.specs.List.{cons_option, flat_map, list_all}
use Rattle.std.specs.Prelude.{◌&&◌, is_some}
use Rattle.std.specs.Simd.{first_chunks}
use Rattle.tally_check.specs.Logins.{good_login, is_good, logins_in}
use Rattle.tally_check.specs.Seen.{are_zeros}
use Rattle.tally_records.specs.Decoding.{decoded, first_decoded}
use Rattle.tally_records.specs.LoginRecord.{login_of, login_result, login_type}
use Rattle.tally_records.specs.Records.{Logins, as_batch, logins_of}
use Rattle.tally_records.specs.declared.fault.BatchFault.{BatchFault}
use Rattle.tally_records.specs.declared.fault.RecordFault.TheVariants.{LoginType}
use Rattle.tally_records.specs.declared.login.LoginRecord.{LoginRecord}

-- each block has the size of a record
abbrev pub AreBlocks : List (List ℕ) → Type 0
AreBlocks blocks = (i : ℕ) → i < length blocks → length (get_or blocks i []) ≡ 384

chunks-flat : (blocks : List (List ℕ)) → AreBlocks blocks → first_chunks 384 (length blocks) (flat_map (λ x. x) blocks) ≡ blocks
chunks-flat [] are = refl
chunks-flat (b ∷ blocks) are =
    let size : length b ≡ 384 = are 0 (omega arith) in
    let rest = chunks-flat blocks (λ i within. are (suc i) (omega (arith, within))) in
    let front : take 384 (b ++ flat_map (λ x. x) blocks) ≡ b = ap (λ (n : ℕ). take n (b ++ flat_map (λ x. x) blocks)) (sym size) ∙ take-append_seam b (flat_map (λ x. x) blocks) in
    let back : drop 384 (b ++ flat_map (λ x. x) blocks) ≡ flat_map (λ x. x) blocks = ap (λ (n : ℕ). drop n (b ++ flat_map (λ x. x) blocks)) (sym size) ∙ drop-append_seam b (flat_map (λ x. x) blocks) in
    ap (λ (x : List ℕ). x ∷ first_chunks 384 (length blocks) (drop 384 (b ++ flat_map (λ x. x) blocks))) front
    ∙ ap (λ (xs : List ℕ). b ∷ first_chunks 384 (length blocks) xs) back
    ∙ ap (λ (bs : List (List ℕ)). b ∷ bs) rest

good_is : (b : List ℕ) (r : LoginRecord) → good_login b ≡ Some r → login_of b ≡ Some r
good_is b r is = by (are_zeros b) refl
  where
    by : (z : Bool) → are_zeros b ≡ z → login_of b ≡ Some r
    by true zeros = grind (arith, nat_tests)
    by false zeros = grind (arith, nat_tests)

first_good : (n : ℕ) (b : List ℕ) (blocks : List (List ℕ)) (o : Option LoginRecord) → good_login b ≡ o → (is_some o && list_all is_good blocks) ≡ true
    → (list_all is_good blocks ≡ true → decoded login_result (n + 1) blocks ≡ Ok (logins_in blocks)) → decoded login_result n (b ∷ blocks) ≡ Ok (cons_option o (logins_in blocks))
first_good n b blocks None is good rest = cc
first_good n b blocks (Some r) is good rest =
    ap (λ (o : Option LoginRecord). first_decoded n (ok_or o (LoginType (login_type b))) (decoded login_result (n + 1) blocks)) (good_is b r is)
    ∙ ap (λ (rs : Result (List LoginRecord) BatchFault). first_decoded n (Ok r) rs) (rest good)

decoded-good : (n : ℕ) (blocks : List (List ℕ)) → list_all is_good blocks ≡ true → decoded login_result n blocks ≡ Ok (logins_in blocks)
decoded-good n [] good = refl
decoded-good n (b ∷ blocks) good = first_good n b blocks (good_login b) refl good (decoded-good (n + 1) blocks)

batch_of-whole : (bytes : List ℕ) → length bytes % 384 ≡ 0 → length bytes / 384 ≤ 1024 → logins_of bytes ≡ as_batch Logins (decoded login_result 0 (first_chunks 384 (length bytes / 384) bytes))
batch_of-whole bytes whole few = grind (arith, nat_tests)

batch_of-right : (bytes : List ℕ) (count : ℕ) → length bytes ≡ count * 384 → count ≤ 1024 → logins_of bytes ≡ as_batch Logins (decoded login_result 0 (first_chunks 384 count bytes))
batch_of-right bytes count size few =
    batch_of-whole bytes (omega arith) (omega arith)
    ∙ ap (λ (n : ℕ). as_batch Logins (decoded login_result 0 (first_chunks 384 n bytes))) (omega arith)

-- the batch of their bytes
pub good_batch : (blocks : List (List ℕ)) → AreBlocks blocks → list_all is_good blocks ≡ true → length blocks ≤ 1024 → length (flat_map (λ x. x) blocks) ≡ length blocks * 384
    → logins_of (flat_map (λ x. x) blocks) ≡ Ok (Logins (logins_in blocks))
good_batch blocks are good few size =
    batch_of-right (flat_map (λ x. x) blocks) (length blocks) size few
    ∙ ap (λ (bs : List (List ℕ)). as_batch Logins (decoded login_result 0 bs)) (chunks-flat blocks are)
    ∙ ap (as_batch Logins) (decoded-good 0 blocks good)

-- ---- those of some records that are good

all-good : (blocks : List (List ℕ)) → list_all is_good (filter is_good blocks) ≡ true
all-good [] = refl
all-good (b ∷ blocks) = by (is_good b) refl (all-good blocks)
  where
    by : (good : Bool) → is_good b ≡ good → list_all is_good (filter is_good blocks) ≡ true → list_all is_good (cond good (b ∷ filter is_good blocks) (filter is_good blocks)) ≡ true
    by true is rest = ap (λ (g : Bool). g && list_all is_good (filter is_good blocks)) is ∙ rest
    by false is rest = rest

pub good-only : (blocks good : List (List ℕ)) → good ≡ filter is_good blocks → list_all is_good good ≡ true
good-only blocks good is = ap (list_all is_good) is ∙ all-good blocks

pub good-few : (blocks good : List (List ℕ)) → good ≡ filter is_good blocks → length good ≤ length blocks
good-few blocks good is = omega (arith, ap length is, length-filter is_good blocks, count_by-le-length is_good blocks)

same-logins : (blocks : List (List ℕ)) → logins_in (filter is_good blocks) ≡ logins_in blocks
same-logins [] = refl
same-logins (b ∷ blocks) = by (good_login b) refl (same-logins blocks)
  where
    by : (o : Option LoginRecord) → good_login b ≡ o → logins_in (filter is_good blocks) ≡ logins_in blocks → logins_in (cond (is_some o) (b ∷ filter is_good blocks) (filter is_good blocks)) ≡ cons_option o (logins_in blocks)
    by None is rest = rest
    by (Some r) is rest = ap (λ (o : Option LoginRecord). cons_option o (logins_in (filter is_good blocks))) is ∙ ap (λ (rs : List LoginRecord). r ∷ rs) rest

pub good-logins : (blocks good : List (List ℕ)) → good ≡ filter is_good blocks → logins_in good ≡ logins_in blocks
good-logins blocks good is = ap logins_in is ∙ same-logins blocks
