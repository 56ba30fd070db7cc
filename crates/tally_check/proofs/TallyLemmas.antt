-- What is counted of bytes, a block more.
use Rattle.std.proofs.Common.{◌≡◌, ◌∙◌, ℕ, zero, suc, ◌+◌, ◌-◌, ◌*◌, ◌/◌, ◌%◌, ◌≤◌, true, List, ◌∷◌, ◌++◌, Result, Ok, Err, OnOk, length, take, drop, ap, sym, refl, arith}
use Rattle.std.proofs.Math.Nat.{suc-mul}
use Rattle.std.proofs.Math.Seq.{drop-append_seam, take-append_seam}
use Rattle.std.proofs.lemmas.List.{drop-drop, drop-take, length-append, length-map, map-append, take-take}
use Rattle.std.proofs.lemmas.List.Elements.{filter_map-append}
use Rattle.std.specs.Simd.{first_chunks}
use Rattle.tally_check.proofs.StepLemmas.{length-logins_in}
use Rattle.tally_check.specs.Kinds.{has_logins, has_procs, most_bytes}
use Rattle.tally_check.specs.Logins.{good_login, logins_in}
use Rattle.tally_check.specs.declared.kind.Guess.{Guess}
use Rattle.tally_check.specs.declared.kind.Guess.TheVariants as guess
use Rattle.tally_check.specs.declared.notes.LoginNotes.{LoginNotes}
use Rattle.tally_check.specs.inside.Tallies.{AreLoginsOf, IsKept, kept_of}
use Rattle.tally_kinds.specs.Records.{records}
use Rattle.tally_records.specs.declared.login.LoginRecord.{LoginRecord}
use Rattle.tally_sessions.specs.Hosts.{posted_by}
use Rattle.tally_sessions.specs.State.{State}
use Rattle.tally_sessions.specs.declared.entry.Entry.{Entry}

-- ---- records of blocks

-- pieces in two parts
chunks-add : (k a b : ℕ) (xs : List ℕ) → first_chunks k (a + b) xs ≡ first_chunks k a xs ++ first_chunks k b (drop (a * k) xs)
chunks-add k zero b xs =
    let none : 0 * k ≡ 0 = omega arith in
    let same : 0 + b ≡ b = omega arith in
    ap (λ n. first_chunks k n xs) same ∙ ap (λ n. first_chunks k b (drop n xs)) (sym none)
chunks-add k (suc a) b xs =
    let next : suc a + b ≡ suc (a + b) = omega arith in
    let past : k + a * k ≡ suc a * k = omega (arith, suc-mul a k) in
    ap (λ n. first_chunks k n xs) next
    ∙ ap (λ l. take k xs ∷ l) (chunks-add k a b (drop k xs)
    ∙ ap (λ l. first_chunks k a (drop k xs) ++ first_chunks k b l) (drop-drop (a * k) k xs ∙ ap (λ n. drop n xs) past))

-- pieces of a front that has them all
chunks-take : (k a n : ℕ) (xs : List ℕ) → a * k ≤ n → first_chunks k a (take n xs) ≡ first_chunks k a xs
chunks-take k zero n xs fits = refl
chunks-take k (suc a) n xs fits =
    let parts : suc a * k ≡ a * k + k = suc-mul a k in
    let whole : n ≡ k + (n - k) = omega (arith, fits, parts) in
    let left : drop k (take n xs) ≡ take (n - k) (drop k xs) = ap (λ m. drop k (take m xs)) whole ∙ drop-take k (n - k) xs in
    ap (λ l. l ∷ first_chunks k a (drop k (take n xs))) (take-take k n xs (omega (arith, fits, parts)))
    ∙ ap (λ l. take k xs ∷ l) (ap (first_chunks k a) left ∙ chunks-take k a (n - k) (drop k xs) (omega (arith, fits, parts)))

length-chunks : (k n : ℕ) (xs : List ℕ) → length (first_chunks k n xs) ≡ n
length-chunks k zero xs = refl
length-chunks k (suc n) xs = (let rest = length-chunks k n (drop k xs) in omega (arith, rest))

join : (k j m : ℕ) (a b : List ℕ) → length a ≡ j * k → length a / k ≡ j → length b / k ≡ m → length (a ++ b) / k ≡ j + m → records k (a ++ b) ≡ records k a ++ records k b
join k j m a b size front back both =
    let first : first_chunks k j (a ++ b) ≡ first_chunks k j a = sym (chunks-take k j (length a) (a ++ b) (omega (arith, size))) ∙ ap (first_chunks k j) (take-append_seam a b) in
    let rest : drop (j * k) (a ++ b) ≡ b = ap (λ (n : ℕ). drop n (a ++ b)) (sym size) ∙ drop-append_seam a b in
    ap (λ (n : ℕ). first_chunks k n (a ++ b)) both
    ∙ chunks-add k j m (a ++ b)
    ∙ ap (λ (l : List (List ℕ)). l ++ first_chunks k m (drop (j * k) (a ++ b))) first
    ∙ ap (λ (l : List ℕ). first_chunks k j a ++ first_chunks k m l) rest
    ∙ ap (λ (n : ℕ). first_chunks k n a ++ first_chunks k m b) (sym front)
    ∙ ap (λ (n : ℕ). records k a ++ first_chunks k n b) (sym back)

pub logins-join : (a b : List ℕ) → length a % 393216 ≡ 0 → records 384 (a ++ b) ≡ records 384 a ++ records 384 b
logins-join a b whole = join 384 (length a / 384) (length b / 384) a b (omega (arith, whole)) refl refl (omega (arith, whole, length-append a b))

pub procs-join : (a b : List ℕ) → length a % 393216 ≡ 0 → records 64 (a ++ b) ≡ records 64 a ++ records 64 b
procs-join a b whole = join 64 (length a / 64) (length b / 64) a b (omega (arith, whole)) refl refl (omega (arith, whole, length-append a b))

pub login-count : (a : List ℕ) → length (records 384 a) ≡ length a / 384
login-count a = length-chunks 384 (length a / 384) a

pub proc-count : (a : List ℕ) → length (records 64 a) ≡ length a / 64
proc-count a = length-chunks 64 (length a / 64) a

-- ---- room

pub login-room : (g : Guess) → has_logins g ≡ true → most_bytes g ≡ 402653184
login-room guess.Logins has = refl
login-room guess.Damaged has = refl
login-room guess.Processes has = cc
login-room (guess.Other other) has = cc

pub proc-room : (g : Guess) → has_procs g ≡ true → most_bytes g ≤ 17179869184
proc-room guess.Processes has = omega arith
proc-room guess.Damaged has = omega arith
proc-room guess.Logins has = cc
proc-room (guess.Other other) has = cc

pub few-kept : (rs : List (List ℕ)) (kept : State) → kept ≡ kept_of rs → length kept.entries ≤ length rs
few-kept rs kept is =
    let posted : length (posted_by 0 (logins_in rs)) ≡ length (logins_in rs) = length-map (logins_in rs) _ in
    omega (arith, ap (λ (s : State). length s.entries) is, posted, length-logins_in rs)

pub kept-join : (rs more : List (List ℕ)) → record (kept_of rs) { entries = (kept_of rs).entries ++ posted_by 0 (logins_in more) } ≡ kept_of (rs ++ more)
kept-join rs more =
    ap (λ (es : List Entry). record (kept_of rs) { entries = es })
    (sym (ap (posted_by 0) (filter_map-append good_login rs more) ∙ map-append (λ (r : LoginRecord). record { host = 0; item = r }) (logins_in rs) (logins_in more)))

pub kept-few : (rs : List (List ℕ)) (notes : LoginNotes) (kept : State) → length rs ≤ 1048576 → AreLoginsOf rs notes kept → IsKept kept
kept-few rs notes kept few are = record {
  host = ap (λ (s : State). s.hosts) are.posted;
  few = omega (arith, few, few-kept rs kept are.posted);
}

-- ---- results

pub on_ok : {T E : Type 0} {P Q : Type 0} (r : Result T E) → (P → Q) → OnOk r P → OnOk r Q
on_ok (Ok value) f p = f p
on_ok (Err fault) f p = tt
