-- That the bytes of a record that is made are read back as that record.
use Rattle.std.proofs.Common.{◌≡◌, ℕ, zero, suc, ◌+◌, ◌-◌, ◌*◌, ◌/◌, ◌%◌, ◌<◌, ◌≤◌, ◌^◌, Bool, true, false, cond, not, ◌==◌, List, [], ◌∷◌, ◌++◌, length, take, drop, replicate, refl, sym, subst, ap, ◌∙◌, arith, append_assoc}
use Rattle.std.proofs.lemmas.List.{length-append, length-replicate, length-take}
use Rattle.std.proofs.Math.Seq.{drop-append_seam, take-append_seam}
use Rattle.std.specs.List.{before_first, prefix_len}
use Rattle.std.specs.Int.{w16, cast_signed}
use Rattle.std.specs.Prelude.{unsigned_abs}
use Rattle.tally_records.specs.LoginRecord.{is_login_type}
use Rattle.tally_records.specs.Text.{padded, text_of}
use Rattle.tally_wtmpdb.specs.Fields.{field, kept}

abbrev pub stays : ℕ → Bool
stays b = not (b == 0)

-- no byte is 0
abbrev pub HasNoNul : List ℕ → Type 0
HasNoNul [] = Unit {0}
HasNoNul (x ∷ xs) = (stays x ≡ true) × HasNoNul xs

front_of : (x : ℕ) (xs : List ℕ) (b : Bool) → stays x ≡ b → HasNoNul (take (prefix_len stays xs) xs) → HasNoNul (take (cond b (1 + prefix_len stays xs) 0) (x ∷ xs))
front_of x xs true e h =
    let next : suc (prefix_len stays xs) ≡ 1 + prefix_len stays xs = omega arith in
    subst (λ (k : ℕ). HasNoNul (take k (x ∷ xs))) next (e, h)
front_of x xs false e h = tt

pub front-no_nul : (xs : List ℕ) → HasNoNul (take (prefix_len stays xs) xs)
front-no_nul [] = tt
front-no_nul (x ∷ xs) = front_of x xs (stays x) refl (front-no_nul xs)

pub take-no_nul : (n : ℕ) (xs : List ℕ) → HasNoNul xs → HasNoNul (take n xs)
take-no_nul zero xs h = tt
take-no_nul (suc n) [] h = tt
take-no_nul (suc n) (x ∷ xs) h = (h.0, take-no_nul n xs h.1)

-- zeros after such a text are cut off again
pub cut_again : (t : List ℕ) (k : ℕ) → HasNoNul t → take (prefix_len stays (t ++ replicate k 0)) (t ++ replicate k 0) ≡ t
cut_again [] zero h = refl
cut_again [] (suc k) h = refl
cut_again (x ∷ xs) k h =
    let rest = xs ++ replicate k 0 in
    let next : 1 + prefix_len stays rest ≡ suc (prefix_len stays rest) = omega arith in
    ap (λ (b : Bool). take (cond b (1 + prefix_len stays rest) 0) (x ∷ rest)) h.0 ∙ ap (λ (n : ℕ). take n (x ∷ rest)) next ∙ ap (λ (t : List ℕ). x ∷ t) (cut_again xs k h.1)

pub kept-short : (n : ℕ) (text : List ℕ) → length (kept n text) ≤ n
unfolding kept
kept-short n text = omega (arith, length-take n (before_first (λ b. b == 0) text))

pub length-field : (n : ℕ) (text : List ℕ) → length (field n text) ≡ n
unfolding field
length-field n text = length-append (kept n text) (replicate (n - length (kept n text)) 0) ∙ omega (arith, kept-short n text, length-replicate {A = ℕ})

pub text_of-field : (n : ℕ) (text : List ℕ) → text_of n (field n text) ≡ field n text
unfolding field kept text_of
text_of-field n text = ap (padded n) (cut_again (kept n text) (n - length (kept n text)) (take-no_nul n _ (front-no_nul text)))

-- the part of so many bytes after others
pub part : (h x rest all : List ℕ) (k n : ℕ) → all ≡ h ++ (x ++ rest) → length h ≡ k → length x ≡ n → take n (drop k all) ≡ x
part h x rest all k n e f g =
    ap (λ (l : List ℕ). take n (drop k l)) e ∙ ap (λ (j : ℕ). take n (drop j (h ++ (x ++ rest)))) (sym f) ∙ ap (take n) (drop-append_seam h (x ++ rest))
    ∙ ap (λ (j : ℕ). take j (x ++ rest)) (sym g) ∙ take-append_seam x rest

-- the bytes of a record, in their parts
abbrev pub joined : (h l z u r y t w : List ℕ) → List ℕ
joined h l z u r y t w = h ++ l ++ z ++ u ++ r ++ y ++ t ++ w

pub line_in : (h l z u r y t w : List ℕ) → joined h l z u r y t w ≡ h ++ (l ++ (z ++ (u ++ (r ++ (y ++ (t ++ w))))))
line_in h l z u r y t w = simp append_assoc

pub user_in : (h l z u r y t w : List ℕ) → joined h l z u r y t w ≡ (h ++ l ++ z) ++ (u ++ (r ++ (y ++ (t ++ w))))
user_in h l z u r y t w = simp append_assoc

pub remote_in : (h l z u r y t w : List ℕ) → joined h l z u r y t w ≡ (h ++ l ++ z ++ u) ++ (r ++ (y ++ (t ++ w)))
remote_in h l z u r y t w = simp append_assoc

pub time_in : (h l z u r y t w : List ℕ) → joined h l z u r y t w ≡ (h ++ l ++ z ++ u ++ r ++ y) ++ (t ++ w)
time_in h l z u r y t w = simp append_assoc

pub length-three : (h l z : List ℕ) → length (h ++ l ++ z) ≡ length h + length l + length z
length-three h l z = length-append (h ++ l) z ∙ ap (λ (k : ℕ). k + length z) (length-append h l)

pub length-four : (h l z u : List ℕ) → length (h ++ l ++ z ++ u) ≡ length h + length l + length z + length u
length-four h l z u = length-append (h ++ l ++ z) u ∙ ap (λ (k : ℕ). k + length u) (length-three h l z)

pub length-six : (h l z u r y : List ℕ) → length (h ++ l ++ z ++ u ++ r ++ y) ≡ length h + length l + length z + length u + length r + length y
length-six h l z u r y =
    length-append (h ++ l ++ z ++ u ++ r) y ∙ ap (λ (k : ℕ). k + length y) (length-append (h ++ l ++ z ++ u) r ∙ ap (λ (k : ℕ). k + length r) (length-four h l z u))

-- what stands after the parts before the time
pub after_parts : (h l z u r y t w : List ℕ) (k : ℕ) → length (h ++ l ++ z ++ u ++ r ++ y) ≡ k → drop k (joined h l z u r y t w) ≡ t ++ w
after_parts h l z u r y t w k e =
    ap (drop k) (time_in h l z u r y t w) ∙ ap (λ (j : ℕ). drop j ((h ++ l ++ z ++ u ++ r ++ y) ++ (t ++ w))) (sym e) ∙ drop-append_seam (h ++ l ++ z ++ u ++ r ++ y) (t ++ w)

-- a type below 10 is read as it was written
pub kind_read : (kind : ℕ) → kind < 10 → (is_login_type (cast_signed w16 (kind + 256 * 0)) ≡ true) × (unsigned_abs (cast_signed w16 (kind + 256 * 0)) ≡ kind)
kind_read zero h = (refl, refl)
kind_read (suc zero) h = (refl, refl)
kind_read (suc (suc zero)) h = (refl, refl)
kind_read (suc (suc (suc zero))) h = (refl, refl)
kind_read (suc (suc (suc (suc zero)))) h = (refl, refl)
kind_read (suc (suc (suc (suc (suc zero))))) h = (refl, refl)
kind_read (suc (suc (suc (suc (suc (suc zero)))))) h = (refl, refl)
kind_read (suc (suc (suc (suc (suc (suc (suc zero))))))) h = (refl, refl)
kind_read (suc (suc (suc (suc (suc (suc (suc (suc zero)))))))) h = (refl, refl)
kind_read (suc (suc (suc (suc (suc (suc (suc (suc (suc zero))))))))) h = (refl, refl)
kind_read (suc (suc (suc (suc (suc (suc (suc (suc (suc (suc k)))))))))) h = absurd (omega arith)

-- the number that four bytes are of
pub number_read : (n : ℕ) → n < 2 ^ 32 → (n % 256 + 256 * (n / 256 % 256)) + 65536 * (n / 65536 % 256 + 256 * (n / 16777216 % 256)) ≡ n
number_read n h = omega arith
