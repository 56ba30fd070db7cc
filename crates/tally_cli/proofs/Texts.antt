-- Sections that are asked one by one.
use Rattle.std.proofs.Common.{◌≡◌, ℕ, zero, suc, ◌+◌, ◌<◌, Bool, true, false, cond, List, [], ◌∷◌, ◌++◌, Option, length, map, filter, take, get_or, refl, ap, ◌∙◌, arith}
use Rattle.std.proofs.lemmas.List.{append-nil, map-append, take_more}
use Rattle.std.proofs.lemmas.List.Elements.{filter-append}
use Rattle.std.specs.List.{enumerate_from}
use Rattle.tally_clock.specs.Rows.{ClockRows}
use Rattle.tally_answers.specs.declared.question.Question.{Question}
use Rattle.tally_answers.specs.Answers.{answer_of}
use Rattle.tally_sessions.specs.declared.entry.Entry.{Entry}
use Rattle.tally_usage.specs.declared.entry.ProcEntry.{ProcEntry}
use Rattle.tally_records.specs.declared.batch.Kind.{Kind}
use Rattle.tally_cli.specs.Output.{is_wanted}

numbered_suc : {X : Type 0} (xs : List X) (n i : ℕ) (d : X) → i < length xs → enumerate_from n (take (suc i) xs) ≡ enumerate_from n (take i xs) ++ (n + i, get_or xs i d) ∷ []
numbered_suc [] n i d h = absurd (omega (arith, h))
numbered_suc (x ∷ xs) n zero d h = let e : n ≡ n + 0 = omega arith in ap (λ m. (m, x) ∷ []) e
numbered_suc (x ∷ xs) n (suc i) d h = let e : (n + 1) + i ≡ n + suc i = omega arith in
    ap (λ l. (n, x) ∷ l) (numbered_suc xs (n + 1) i d (omega (arith, h)) ∙ ap (λ m. enumerate_from (n + 1) (take i xs) ++ (m, get_or xs i d) ∷ []) e)

numbered_next : {X : Type 0} (xs : List X) (n i : ℕ) (d : X) → i < length xs → enumerate_from n (take (i + 1) xs) ≡ enumerate_from n (take i xs) ++ (n + i, get_or xs i d) ∷ []
numbered_next xs n i d h = let e : i + 1 ≡ suc i = omega arith in ap (λ m. enumerate_from n (take m xs)) e ∙ numbered_suc xs n i d h

one_or_none : {X Y : Type 0} (f : X → Y) (x : X) (b : Bool) → map f (cond b (x ∷ []) []) ≡ cond b (f x ∷ []) []
one_or_none f x true = refl
one_or_none f x false = refl

-- the questions for the wanted files, each asked by its number
abbrev pub asked_by : Option Kind → (ℕ → Question) → List Kind → List Question
asked_by wanted ask kinds = map (λ numbered. ask numbered.0) (filter (λ numbered. is_wanted wanted numbered.1) (enumerate_from 0 kinds))

-- the questions for the files up to one, and that one if it is wanted
pub stays_next : (wanted : Option Kind) (ask : ℕ → Question) (kinds : List Kind) (i : ℕ) (d : Kind) → i < length kinds
    → asked_by wanted ask (take (i + 1) kinds) ≡ asked_by wanted ask (take i kinds) ++ cond (is_wanted wanted (get_or kinds i d)) (ask i ∷ []) []
stays_next wanted ask kinds i d h =
    let asked : ℕ × Kind → Question = λ numbered. ask numbered.0 in
    let fits : ℕ × Kind → Bool = λ numbered. is_wanted wanted numbered.1 in
    let first : List (ℕ × Kind) = enumerate_from 0 (take i kinds) in
    let e : 0 + i ≡ i = omega arith in
    ap (λ l. map asked (filter fits l)) (numbered_next kinds 0 i d h ∙ ap (λ m. first ++ (m, get_or kinds i d) ∷ []) e)
    ∙ ap (map asked) (filter-append fits first ((i, get_or kinds i d) ∷ []))
    ∙ map-append asked (filter fits first) (filter fits ((i, get_or kinds i d) ∷ []))
    ∙ ap (λ l. map asked (filter fits first) ++ l) (one_or_none asked (i, get_or kinds i d) (is_wanted wanted (get_or kinds i d)))

-- a file that is wanted, and one that is not
pub stays_more : (wanted : Option Kind) (ask : ℕ → Question) (kinds : List Kind) (i : ℕ) (d : Kind) → i < length kinds → is_wanted wanted (get_or kinds i d) ≡ true
    → asked_by wanted ask (take (i + 1) kinds) ≡ asked_by wanted ask (take i kinds) ++ ask i ∷ []
stays_more wanted ask kinds i d h e = stays_next wanted ask kinds i d h ∙ ap (λ b. asked_by wanted ask (take i kinds) ++ cond b (ask i ∷ []) []) e

pub stays_same : (wanted : Option Kind) (ask : ℕ → Question) (kinds : List Kind) (i : ℕ) (d : Kind) → i < length kinds → is_wanted wanted (get_or kinds i d) ≡ false
    → asked_by wanted ask (take (i + 1) kinds) ≡ asked_by wanted ask (take i kinds)
stays_same wanted ask kinds i d h e =
    stays_next wanted ask kinds i d h ∙ ap (λ b. asked_by wanted ask (take i kinds) ++ cond b (ask i ∷ []) []) e ∙ append-nil (asked_by wanted ask (take i kinds))

-- answers to the questions up to one, and to that one
pub map_next : {X Y : Type 0} (f : X → Y) (xs : List X) (i : ℕ) (x : X) → i < length xs → map f (take (i + 1) xs) ≡ map f (take i xs) ++ f (get_or xs i x) ∷ []
map_next f xs i x h = ap (map f) (take_more xs i x h) ∙ map-append f (take i xs) (get_or xs i x ∷ [])

pub answer_same : (clock other : ClockRows) (q : Question) (logins others : List Entry) (procs rest : List ProcEntry) → clock ≡ other → logins ≡ others → procs ≡ rest → answer_of clock q logins procs ≡ answer_of other q others rest
answer_same clock other q logins others procs rest same e f = λ j. answer_of (same j) q (e j) (f j)
