-- The records of an input, from those of its blocks.
use Rattle.std.proofs.Common.{◌≡◌, ◌∙◌, ◌≤◌, ◌+◌, ◌-◌, ◌*◌, ◌/◌, ◌++◌, ◌∷◌, [], inl, inr, ℕ, zero, suc, List, map, take, drop, length, ap, sym, refl, arith, append_assoc, append-nil, length-take-le}
use Rattle.std.specs.List.{filter_map, flat_map}
use Rattle.std.specs.Simd.{first_chunks}
use Rattle.std.proofs.Math.Nat.{suc-mul}
use Rattle.std.proofs.lemmas.Bool.{cases_lt}
use Rattle.std.proofs.lemmas.Grind.{flat_map-append}
use Rattle.std.proofs.lemmas.List.{drop_all, drop-drop, drop-take, length-drop, map-append, take_all, take-take}
use Rattle.std.proofs.lemmas.List.Elements.{filter_map-append}
use Rattle.tally_records.specs.FailedLogin.{failed_of}
use Rattle.tally_records.specs.LoginRecord.{login_of}
use Rattle.tally_records.specs.ProcRecord.{proc_of}
use Rattle.tally_records.specs.Records.{Records, logins_in, procs_in}
use Rattle.tally_records.specs.declared.batch.Kind.{Kind}
use Rattle.tally_records.specs.declared.batch.Kind.TheVariants.{Login, FailedLogin, Proc}
use Rattle.tally_desk.specs.Batches.{AreJoined, records_in, whole_pieces}
use Rattle.tally_desk.specs.Blocks.{block_size}

-- pieces in two parts
first_chunks-add : (k a b : ℕ) (xs : List ℕ) → first_chunks k (a + b) xs ≡ first_chunks k a xs ++ first_chunks k b (drop (a * k) xs)
first_chunks-add k zero b xs =
    let none : 0 * k ≡ 0 = omega arith in
    let same : 0 + b ≡ b = omega arith in
    ap (λ n. first_chunks k n xs) same ∙ ap (λ n. first_chunks k b (drop n xs)) (sym none)
first_chunks-add k (suc a) b xs =
    let next : suc a + b ≡ suc (a + b) = omega arith in
    let past : k + a * k ≡ suc a * k = omega (arith, suc-mul a k) in
    ap (λ n. first_chunks k n xs) next
    ∙ ap (λ l. take k xs ∷ l) (first_chunks-add k a b (drop k xs)
    ∙ ap (λ l. first_chunks k a (drop k xs) ++ first_chunks k b l) (drop-drop (a * k) k xs ∙ ap (λ n. drop n xs) past))

-- pieces of a front that has them all
first_chunks-take : (k a n : ℕ) (xs : List ℕ) → a * k ≤ n → first_chunks k a (take n xs) ≡ first_chunks k a xs
first_chunks-take k zero n xs fits = refl
first_chunks-take k (suc a) n xs fits =
    let parts : suc a * k ≡ a * k + k = suc-mul a k in
    let whole : n ≡ k + (n - k) = omega (arith, fits, parts) in
    let left : drop k (take n xs) ≡ take (n - k) (drop k xs) = ap (λ m. drop k (take m xs)) whole ∙ drop-take k (n - k) xs in
    ap (λ l. l ∷ first_chunks k a (drop k (take n xs))) (take-take k n xs (omega (arith, fits, parts)))
    ∙ ap (λ l. take k xs ∷ l) (ap (first_chunks k a) left ∙ first_chunks-take k a (n - k) (drop k xs) (omega (arith, fits, parts)))

split_long : (k j n : ℕ) (bytes : List ℕ) → n ≡ j * k → n ≤ length bytes → n / k ≡ j → length bytes / k ≡ j + (length bytes - n) / k
    → whole_pieces k bytes ≡ whole_pieces k (take n bytes) ++ whole_pieces k (drop n bytes)
split_long k j n bytes is long front count =
    let size : length (take n bytes) / k ≡ j = ap (λ m. m / k) (length-take-le n bytes long) ∙ front in
    let first : whole_pieces k (take n bytes) ≡ first_chunks k j bytes =
    ap (λ m. first_chunks k m (take n bytes)) size ∙ first_chunks-take k j n bytes (omega (arith, is)) in
    let rest : whole_pieces k (drop n bytes) ≡ first_chunks k ((length bytes - n) / k) (drop (j * k) bytes) =
    ap (λ m. first_chunks k (m / k) (drop n bytes)) (length-drop n bytes) ∙ ap (λ m. first_chunks k ((length bytes - n) / k) (drop m bytes)) is in
    ap (λ m. first_chunks k m bytes) count ∙ first_chunks-add k j ((length bytes - n) / k) bytes
    ∙ ap (λ l. l ++ first_chunks k ((length bytes - n) / k) (drop (j * k) bytes)) (sym first) ∙ ap (λ l. whole_pieces k (take n bytes) ++ l) (sym rest)

split_short : (k n : ℕ) (bytes : List ℕ) → length bytes ≤ n → whole_pieces k [] ≡ []
    → whole_pieces k bytes ≡ whole_pieces k (take n bytes) ++ whole_pieces k (drop n bytes)
split_short k n bytes short none =
    sym (append-nil (whole_pieces k bytes))
    ∙ ap (λ l. whole_pieces k l ++ []) (sym (take_all n bytes short))
    ∙ ap (λ l. whole_pieces k (take n bytes) ++ l) (sym (ap (whole_pieces k) (drop_all n bytes short) ∙ none))

login_pieces : (bytes : List ℕ) → whole_pieces 384 bytes ≡ whole_pieces 384 (take 393216 bytes) ++ whole_pieces 384 (drop 393216 bytes)
login_pieces bytes = elim (cases_lt (length bytes) 393216) [
  | inl short ↦ split_short 384 393216 bytes (omega arith) refl
  | inr long ↦ split_long 384 1024 393216 bytes refl long refl (omega arith)
]

proc_pieces : (bytes : List ℕ) → whole_pieces 64 bytes ≡ whole_pieces 64 (take 65536 bytes) ++ whole_pieces 64 (drop 65536 bytes)
proc_pieces bytes = elim (cases_lt (length bytes) 65536) [
  | inl short ↦ split_short 64 65536 bytes (omega arith) refl
  | inr long ↦ split_long 64 1024 65536 bytes refl long refl (omega arith)
]

-- a block's records, and those after it
logins_split : (kind : Kind) (rest : List ℕ) → logins_in (records_in kind rest)
    ≡ logins_in (records_in kind (take (block_size kind) rest)) ++ logins_in (records_in kind (drop (block_size kind) rest))
unfolding records_in
logins_split Login rest = ap (filter_map login_of) (login_pieces rest) ∙ filter_map-append login_of (whole_pieces 384 (take 393216 rest)) (whole_pieces 384 (drop 393216 rest))
logins_split FailedLogin rest = ap (filter_map failed_of) (login_pieces rest) ∙ filter_map-append failed_of (whole_pieces 384 (take 393216 rest)) (whole_pieces 384 (drop 393216 rest))
logins_split Proc rest = refl

procs_split : (kind : Kind) (rest : List ℕ) → procs_in (records_in kind rest)
    ≡ procs_in (records_in kind (take (block_size kind) rest)) ++ procs_in (records_in kind (drop (block_size kind) rest))
unfolding records_in
procs_split Login rest = refl
procs_split FailedLogin rest = refl
procs_split Proc rest = ap (filter_map proc_of) (proc_pieces rest) ∙ filter_map-append proc_of (whole_pieces 64 (take 65536 rest)) (whole_pieces 64 (drop 65536 rest))

no_logins : (kind : Kind) → logins_in (records_in kind []) ≡ []
unfolding records_in
no_logins Login = refl
no_logins FailedLogin = refl
no_logins Proc = refl

no_procs : (kind : Kind) → procs_in (records_in kind []) ≡ []
unfolding records_in
no_procs Login = refl
no_procs FailedLogin = refl
no_procs Proc = refl

-- the records of some blocks and of the rest are all
pub record Covers (kind : Kind) (bytes : List ℕ) (done : List (List ℕ)) (rest : List ℕ) : Type 0 where
  pub logins : flat_map logins_in (map (records_in kind) done) ++ logins_in (records_in kind rest) ≡ logins_in (records_in kind bytes)
  pub procs : flat_map procs_in (map (records_in kind) done) ++ procs_in (records_in kind rest) ≡ procs_in (records_in kind bytes)

covers_more_of : {X : Type 0} (part : Records → List X) (read : List ℕ → Records) (done : List (List ℕ)) (block rest left : List ℕ) (all : List X)
    → part (read rest) ≡ part (read block) ++ part (read left)
    → flat_map part (map read done) ++ part (read rest) ≡ all
    → flat_map part (map read (done ++ block ∷ [])) ++ part (read left) ≡ all
covers_more_of part read done block rest left all split covered =
    ap (λ l. flat_map part l ++ part (read left)) (map-append read done (block ∷ []))
    ∙ ap (λ l. l ++ part (read left)) (flat_map-append part (map read done) (read block ∷ []) ∙ ap (λ l. flat_map part (map read done) ++ l) (append-nil (part (read block))))
    ∙ append_assoc (flat_map part (map read done)) (part (read block)) (part (read left))
    ∙ ap (λ l. flat_map part (map read done) ++ l) (sym split)
    ∙ covered

pub covers_none : (kind : Kind) (bytes : List ℕ) → Covers kind bytes [] bytes
covers_none kind bytes = record { logins = refl; procs = refl }

pub covers_more : (kind : Kind) (bytes : List ℕ) (done : List (List ℕ)) (rest : List ℕ) → Covers kind bytes done rest
    → Covers kind bytes (done ++ take (block_size kind) rest ∷ []) (drop (block_size kind) rest)
covers_more kind bytes done rest covered = record {
  logins = covers_more_of logins_in (records_in kind) done (take (block_size kind) rest) rest (drop (block_size kind) rest) _ (logins_split kind rest) covered.logins;
  procs = covers_more_of procs_in (records_in kind) done (take (block_size kind) rest) rest (drop (block_size kind) rest) _ (procs_split kind rest) covered.procs;
}

pub covers_all : (kind : Kind) (bytes : List ℕ) (done : List (List ℕ)) → Covers kind bytes done [] → AreJoined (map (records_in kind) done) (records_in kind bytes)
covers_all kind bytes done covered = record {
  logins = sym (append-nil (flat_map logins_in (map (records_in kind) done))) ∙ ap (λ l. flat_map logins_in (map (records_in kind) done) ++ l) (sym (no_logins kind)) ∙ covered.logins;
  procs = sym (append-nil (flat_map procs_in (map (records_in kind) done))) ∙ ap (λ l. flat_map procs_in (map (records_in kind) done) ++ l) (sym (no_procs kind)) ∙ covered.procs;
}
