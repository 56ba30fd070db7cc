-- What is noted, one record more.
use Rattle.std.proofs.Common.{◌≡◌, ℕ, ◌+◌, ◌<◌, ◌≤◌, ◌^◌, List, [], ◌∷◌, ◌++◌, get_or, length, map, take, subst, sym, ap, ◌∙◌, arith}
use Rattle.std.proofs.lemmas.List.{append-nil, append_assoc, length-append, length-map, length-take-le, map-append, take_more}
use Rattle.std.proofs.lemmas.List.Sums.{count_by-le-length}
use Rattle.std.specs.List.{count_by}
use Rattle.tally_check.proofs.CountLemmas.{count-push, counts-push, few-counts, types-push}
use Rattle.tally_check.proofs.StepLemmas.{few-steps, walk-push}
use Rattle.tally_check.specs.Counts.{counts_of}
use Rattle.tally_check.specs.Findings.{types_in}
use Rattle.tally_check.specs.Seen.{is_of_kind, is_typed, seen_login, seen_proc}
use Rattle.tally_check.specs.declared.notes.LoginNotes.{LoginNotes}
use Rattle.tally_check.specs.declared.notes.ProcNotes.{ProcNotes}
use Rattle.tally_check.specs.declared.seen.Seen.{Seen}
use Rattle.tally_check.specs.inside.Notes.{AreFewLogins, AreFewProcs, login_notes, proc_notes, with_login, with_proc}

login-push : (rs : List (List ℕ)) (b : List ℕ) → with_login (login_notes rs) b ≡ login_notes (rs ++ b ∷ [])
login-push rs b =
    let seen : map seen_login (rs ++ b ∷ []) ≡ map seen_login rs ++ seen_login b ∷ [] = map-append seen_login rs (b ∷ []) in
    let counts = ap counts_of seen ∙ counts-push (map seen_login rs) (seen_login b) in
    let typed = ap (count_by is_typed) seen ∙ count-push is_typed (map seen_login rs) (seen_login b) in
    let types = ap types_in seen ∙ types-push (map seen_login rs) (seen_login b) in
    λ i. record {
      counts = sym counts i;
      typed = sym typed i;
      types = sym types i;
      walk = walk-push rs b i;
    }

proc-push : (rs : List (List ℕ)) (b : List ℕ) → with_proc (proc_notes rs) b ≡ proc_notes (rs ++ b ∷ [])
proc-push rs b =
    let seen : map seen_proc (rs ++ b ∷ []) ≡ map seen_proc rs ++ seen_proc b ∷ [] = map-append seen_proc rs (b ∷ []) in
    let counts = ap counts_of seen ∙ counts-push (map seen_proc rs) (seen_proc b) in
    let typed = ap (count_by is_typed) seen ∙ count-push is_typed (map seen_proc rs) (seen_proc b) in
    let two = ap (count_by (is_of_kind 2)) seen ∙ count-push (is_of_kind 2) (map seen_proc rs) (seen_proc b) in
    let three = ap (count_by (is_of_kind 3)) seen ∙ count-push (is_of_kind 3) (map seen_proc rs) (seen_proc b) in
    λ i. record {
      counts = sym counts i;
      typed = sym typed i;
      version_2 = sym two i;
      version_3 = sym three i;
    }

-- ---- over a loop

next : (before xs : List (List ℕ)) (k : ℕ) (d : List ℕ) → k < length xs → (before ++ take k xs) ++ get_or xs k d ∷ [] ≡ before ++ take (k + 1) xs
next before xs k d within = append_assoc before (take k xs) (get_or xs k d ∷ []) ∙ ap (λ (l : List (List ℕ)). before ++ l) (sym (take_more xs k d within))

pub login-next : (before xs : List (List ℕ)) (k : ℕ) (d : List ℕ) (notes new : LoginNotes) → k < length xs → notes ≡ login_notes (before ++ take k xs) → new ≡ with_login notes (get_or xs k d)
    → new ≡ login_notes (before ++ take (k + 1) xs)
login-next before xs k d notes new within was is =
    is ∙ ap (λ (n : LoginNotes). with_login n (get_or xs k d)) was ∙ login-push (before ++ take k xs) (get_or xs k d) ∙ ap login_notes (next before xs k d within)

pub proc-next : (before xs : List (List ℕ)) (k : ℕ) (d : List ℕ) (notes new : ProcNotes) → k < length xs → notes ≡ proc_notes (before ++ take k xs) → new ≡ with_proc notes (get_or xs k d)
    → new ≡ proc_notes (before ++ take (k + 1) xs)
proc-next before xs k d notes new within was is =
    is ∙ ap (λ (n : ProcNotes). with_proc n (get_or xs k d)) was ∙ proc-push (before ++ take k xs) (get_or xs k d) ∙ ap proc_notes (next before xs k d within)

pub none-yet : {N : Type 0} (notes_of : List (List ℕ) → N) (before : List (List ℕ)) (notes : N) → notes ≡ notes_of before → notes ≡ notes_of (before ++ [])
none-yet notes_of before notes is = is ∙ ap notes_of (sym (append-nil before))

-- ---- no count is too large

few-kind : (k : ℕ) (xs : List Seen) → length xs < 2 ^ 60 → count_by (is_of_kind k) xs < 2 ^ 60
few-kind k xs few = omega (arith, few, count_by-le-length (is_of_kind k) xs)

few-so-far : (before xs : List (List ℕ)) (k : ℕ) → k < length xs → length before + length xs ≤ 2 ^ 60 → length (before ++ take k xs) < 2 ^ 60
few-so-far before xs k within few = omega (arith, few, within, length-append before (take k xs), length-take-le k xs (omega (arith, within)))

login-few : (rs : List (List ℕ)) → length rs < 2 ^ 60 → AreFewLogins (login_notes rs)
login-few rs few =
    let xs = map seen_login rs in
    let fewer : length xs < 2 ^ 60 = omega (arith, few, length-map rs seen_login) in
    record {
      counts = few-counts xs fewer;
      typed = omega (arith, fewer, count_by-le-length is_typed xs);
      zero = few-kind 0 xs fewer;
      one = few-kind 1 xs fewer;
      two = few-kind 2 xs fewer;
      three = few-kind 3 xs fewer;
      four = few-kind 4 xs fewer;
      five = few-kind 5 xs fewer;
      six = few-kind 6 xs fewer;
      seven = few-kind 7 xs fewer;
      eight = few-kind 8 xs fewer;
      nine = few-kind 9 xs fewer;
      steps = omega (arith, few, few-steps rs);
    }

proc-few : (rs : List (List ℕ)) → length rs < 2 ^ 60 → AreFewProcs (proc_notes rs)
proc-few rs few =
    let xs = map seen_proc rs in
    let fewer : length xs < 2 ^ 60 = omega (arith, few, length-map rs seen_proc) in
    record {
      counts = few-counts xs fewer;
      typed = omega (arith, fewer, count_by-le-length is_typed xs);
      version_2 = few-kind 2 xs fewer;
      version_3 = few-kind 3 xs fewer;
    }

pub logins-so-far : (before xs : List (List ℕ)) (k : ℕ) (notes : LoginNotes) → k < length xs → length before + length xs ≤ 2 ^ 60 → notes ≡ login_notes (before ++ take k xs) → AreFewLogins notes
logins-so-far before xs k notes within few is = subst AreFewLogins (sym is) (login-few (before ++ take k xs) (few-so-far before xs k within few))

pub procs-so-far : (before xs : List (List ℕ)) (k : ℕ) (notes : ProcNotes) → k < length xs → length before + length xs ≤ 2 ^ 60 → notes ≡ proc_notes (before ++ take k xs) → AreFewProcs notes
procs-so-far before xs k notes within few is = subst AreFewProcs (sym is) (proc-few (before ++ take k xs) (few-so-far before xs k within few))
