-- What is kept of the open sessions, after one moment more.
use Rattle.std.proofs.Common.{◌≡◌, ℕ, ◌+◌, ◌-◌, ◌≤◌, ◌==◌, Bool, true, false, not, ◌&&◌, ◌||◌, cond, List, [], ◌∷◌, ◌++◌, Option, Some, None, filter, refl, sym, ap, ◌∙◌, arith}
use Rattle.std.proofs.lemmas.Bool.{eqb-true}
use Rattle.std.proofs.lemmas.List.Folds.{list_any-append}
use Rattle.std.proofs.lemmas.List.Sums.{sum_by-append, sum_by-cons}
use Rattle.std.proofs.lemmas.Bool.Decides.{nat_tests}
use Rattle.std.proofs.lemmas.Slice.Eq.{bytes_eq-Decides}
use Rattle.std.specs.List.{count_by, list_any}
use Rattle.std.specs.Prelude.{bytes_eq, if◌then◌else◌, is_some, unwrap_or}
use Rattle.sqlite_value.specs.Order.{Row}
use Rattle.tally_wtmpdb.proofs.Opened.{is_other, or_false, or_true}
use Rattle.tally_wtmpdb.specs.Lines.{is_marked, is_of_row, is_on, text_of}
use Rattle.tally_wtmpdb.specs.declared.lines.OpenSessions.{OpenSessions}
use Rattle.tally_wtmpdb.specs.declared.moment.Moment.{Moment}
use Rattle.tally_wtmpdb.specs.inside.Open.{IsKept, count_in, mark_in}

-- ---- counts and tests

pub count_by-more : (p : Moment → Bool) (l : List Moment) (m : Moment) → count_by p (l ++ m ∷ []) ≡ count_by p l + cond (p m) 1 0
count_by-more p l m = sum_by-append (λ x. cond (p x) 1 0) l (m ∷ []) ∙ omega arith

pub front : (p : Moment → Bool) (x : Moment) (l : List Moment) → count_by p (x ∷ l) ≡ cond (p x) 1 0 + count_by p l
front p x l = sum_by-cons (λ y. cond (p y) 1 0) x l

pub count_none : (p : Moment → Bool) (l : List Moment) → list_any p l ≡ false → count_by p l ≡ 0
count_none p [] e = refl
count_none p (x ∷ l) e = front p x l ∙ by (p x) e (count_none p l)
  where
    by : (b : Bool) → (b || list_any p l) ≡ false → (list_any p l ≡ false → count_by p l ≡ 0) → cond b 1 0 + count_by p l ≡ 0
    by true h rest = absurd cc
    by false h rest = omega (arith, rest h)

pub count_some : (p : Moment → Bool) (l : List Moment) → list_any p l ≡ true → 1 ≤ count_by p l
count_some p [] e = absurd cc
count_some p (x ∷ l) e = omega (arith, front p x l, by (p x) e (count_some p l))
  where
    by : (b : Bool) → (b || list_any p l) ≡ true → (list_any p l ≡ true → 1 ≤ count_by p l) → 1 ≤ cond b 1 0 + count_by p l
    by true h rest = omega arith
    by false h rest = omega (arith, rest h)

pub count-le-filter : (p q : Moment → Bool) (l : List Moment) → count_by p (filter q l) ≤ count_by p l
count-le-filter p q [] = omega arith
count-le-filter p q (x ∷ l) = omega (arith, front p x l, by (q x) (count-le-filter p q l))
  where
    by : (b : Bool) → count_by p (filter q l) ≤ count_by p l → count_by p (cond b (x ∷ filter q l) (filter q l)) ≤ cond (p x) 1 0 + count_by p l
    by true rest = omega (arith, rest, front p x (filter q l))
    by false rest = omega (arith, rest)

pub alike : (x y : ℕ) → x ≡ y → (x == y) ≡ true
alike x y e = grind (arith, nat_tests)

same_eq : (a b : ℕ) → (a == b) ≡ (b == a)
same_eq a b = by (a == b) (b == a) (eqb-true a b) (eqb-true b a) (λ e. alike b a (sym e)) (λ e. alike a b (sym e))
  where
    by : (p q : Bool) → (p ≡ true → a ≡ b) → (q ≡ true → b ≡ a) → (a ≡ b → q ≡ true) → (b ≡ a → p ≡ true) → p ≡ q
    by true q to back on off = sym (on (to refl))
    by false true to back on off = off (back refl)
    by false false to back on off = refl

-- ---- the sessions of other rows

-- of two places, the one that is left out and the one that is asked for
apart : (k p x : ℕ) → (x == p) ≡ true → (k == x) ≡ (k == p)
apart k p x e = ap (λ y. k == y) (eqb-true x p e)

pub other_any : (m : Moment) (p : ℕ) (l : List Moment) → list_any (is_of_row p) (filter (is_other m) l) ≡ (not (m.place == p) && list_any (is_of_row p) l)
other_any m p [] = sym (no (not (m.place == p)))
  where
    no : (b : Bool) → (b && false) ≡ false
    no true = refl
    no false = refl
other_any m p (x ∷ l) = by (m.place == x.place) (x.place == p) (m.place == p) (apart m.place p x.place) refl (other_any m p l)
  where
    others : List Moment
    others = filter (is_other m) l

    by : (own asked both : Bool) → (asked ≡ true → own ≡ both) → (x.place == p) ≡ asked → list_any (is_of_row p) others ≡ (not both && list_any (is_of_row p) l)
        → list_any (is_of_row p) (cond (not own) (x ∷ others) others) ≡ (not both && (asked || list_any (is_of_row p) l))
    by true true true h is rest = rest
    by true true false h is rest = absurd (let f : true ≡ false = h refl in cc)
    by true false both h is rest = rest
    by false true true h is rest = absurd (let f : false ≡ true = h refl in cc)
    by false true false h is rest = ap (λ b. b || list_any (is_of_row p) others) is
    by false false both h is rest = ap (λ b. b || list_any (is_of_row p) others) is ∙ rest

-- a text is that of as many fewer as sessions of the row are left out
pub other_count : (rows : List Row) (m : Moment) (text : List ℕ) (l : List Moment)
    → count_by (is_on rows text) (filter (is_other m) l) + cond (bytes_eq (text_of rows m.place) text) (count_by (is_of_row m.place) l) 0 ≡ count_by (is_on rows text) l
other_count rows m text [] = by (bytes_eq (text_of rows m.place) text)
  where
    by : (s : Bool) → 0 + cond s 0 0 ≡ 0
    by true = refl
    by false = refl
other_count rows m text (x ∷ l) =
    ap (λ n. count_by (is_on rows text) (filter (is_other m) (x ∷ l)) + cond (bytes_eq (text_of rows m.place) text) n 0) (front (is_of_row m.place) x l)
    ∙ by (m.place == x.place) (x.place == m.place) (is_on rows text x) (bytes_eq (text_of rows m.place) text) (same_eq m.place x.place) same_text refl (other_count rows m text l)
    ∙ sym (front (is_on rows text) x l)
  where
    same_text : (m.place == x.place) ≡ true → is_on rows text x ≡ bytes_eq (text_of rows m.place) text
    same_text e = ap (λ k. bytes_eq (text_of rows k) text) (sym (eqb-true m.place x.place e))

    by : (own back here s : Bool) → own ≡ back → (own ≡ true → here ≡ s) → is_on rows text x ≡ here
        → count_by (is_on rows text) (filter (is_other m) l) + cond s (count_by (is_of_row m.place) l) 0 ≡ count_by (is_on rows text) l
        → count_by (is_on rows text) (cond (not own) (x ∷ filter (is_other m) l) (filter (is_other m) l)) + cond s (cond back 1 0 + count_by (is_of_row m.place) l) 0
        ≡ cond here 1 0 + count_by (is_on rows text) l
    by true true true true e same is rest = omega (arith, rest)
    by true true true false e same is rest = absurd (let f : true ≡ false = same refl in cc)
    by true true false true e same is rest = absurd (let f : false ≡ true = same refl in cc)
    by true true false false e same is rest = omega (arith, rest)
    by true false here s e same is rest = absurd cc
    by false true here s e same is rest = absurd cc
    by false false here true e same is rest =
        let first : count_by (is_on rows text) (x ∷ filter (is_other m) l) ≡ cond here 1 0 + count_by (is_on rows text) (filter (is_other m) l) =
        front (is_on rows text) x (filter (is_other m) l) ∙ ap (λ b. cond b 1 0 + count_by (is_on rows text) (filter (is_other m) l)) is in
        omega (arith, rest, first)
    by false false here false e same is rest =
        let first : count_by (is_on rows text) (x ∷ filter (is_other m) l) ≡ cond here 1 0 + count_by (is_on rows text) (filter (is_other m) l) =
        front (is_on rows text) x (filter (is_other m) l) ∙ ap (λ b. cond b 1 0 + count_by (is_on rows text) (filter (is_other m) l)) is in
        omega (arith, rest, first)

-- ---- what is kept

exact : (a b : List ℕ) → bytes_eq a b ≡ true → a ≡ b
exact a b e = (bytes_eq-Decides a b).0 e

-- where no session is open
pub kept_none : (rows : List Row) (ordered : List Moment) (s : OpenSessions) → ((p : ℕ) → mark_in s p ≡ None) → ((t : List ℕ) → count_in s t ≡ 0) → IsKept rows ordered [] s
kept_none rows ordered s marks counts = record { marks = marks; counts = counts; once = λ p. omega arith }

-- one session more
pub kept_begun : (rows : List Row) (ordered l : List Moment) (s s' : OpenSessions) (m : Moment) (marked : Bool) → IsKept rows ordered l s
    → list_any (is_of_row m.place) l ≡ false
    → marked ≡ is_marked rows ordered m.place
    → ((p : ℕ) → mark_in s' p ≡ (if m.place == p then Some marked else mark_in s p))
    → ((t : List ℕ) → count_in s' t ≡ (if bytes_eq (text_of rows m.place) t then count_in s (text_of rows m.place) + 1 else count_in s t))
    → IsKept rows ordered (l ++ m ∷ []) s'
kept_begun rows ordered l s s' m marked kept absent is marks counts = record {
  marks = λ p. marks p ∙ mark p (m.place == p) refl;
  counts = λ t. counts t ∙ count t (bytes_eq (text_of rows m.place) t) refl;
  once = λ p. few p (m.place == p) refl;
}
  where
    mark : (p : ℕ) (b : Bool) → (m.place == p) ≡ b → cond b (Some marked) (mark_in s p) ≡ cond (list_any (is_of_row p) (l ++ m ∷ [])) (Some (is_marked rows ordered p)) None
    mark p true e =
        ap Some (is ∙ ap (is_marked rows ordered) (eqb-true m.place p e))
        ∙ sym (ap (λ b. cond b (Some (is_marked rows ordered p)) None) (list_any-append (is_of_row p) l (m ∷ []) ∙ ap (λ b. list_any (is_of_row p) l || (b || false)) e ∙ or_true (list_any (is_of_row p) l)))
    mark p false e =
        kept.marks p
        ∙ sym (ap (λ b. cond b (Some (is_marked rows ordered p)) None) (list_any-append (is_of_row p) l (m ∷ []) ∙ ap (λ b. list_any (is_of_row p) l || (b || false)) e ∙ or_false (list_any (is_of_row p) l)))

    count : (t : List ℕ) (b : Bool) → bytes_eq (text_of rows m.place) t ≡ b → cond b (count_in s (text_of rows m.place) + 1) (count_in s t) ≡ count_by (is_on rows t) (l ++ m ∷ [])
    count t true e =
        let text : count_in s (text_of rows m.place) ≡ count_by (is_on rows t) l = ap (count_in s) (exact (text_of rows m.place) t e) ∙ kept.counts t in
        let more : count_by (is_on rows t) (l ++ m ∷ []) ≡ count_by (is_on rows t) l + 1 = count_by-more (is_on rows t) l m ∙ ap (λ b. count_by (is_on rows t) l + cond b 1 0) e in
        omega (arith, text, more)
    count t false e =
        let more : count_by (is_on rows t) (l ++ m ∷ []) ≡ count_by (is_on rows t) l + 0 = count_by-more (is_on rows t) l m ∙ ap (λ b. count_by (is_on rows t) l + cond b 1 0) e in
        omega (arith, kept.counts t, more)

    few : (p : ℕ) (b : Bool) → (m.place == p) ≡ b → count_by (is_of_row p) (l ++ m ∷ []) ≤ 1
    few p true e =
        let none : count_by (is_of_row p) l ≡ 0 = count_none (is_of_row p) l (ap (λ k. list_any (is_of_row k) l) (sym (eqb-true m.place p e)) ∙ absent) in
        let more : count_by (is_of_row p) (l ++ m ∷ []) ≡ count_by (is_of_row p) l + 1 = count_by-more (is_of_row p) l m ∙ ap (λ b. count_by (is_of_row p) l + cond b 1 0) e in
        omega (arith, none, more)
    few p false e =
        let more : count_by (is_of_row p) (l ++ m ∷ []) ≡ count_by (is_of_row p) l + 0 = count_by-more (is_of_row p) l m ∙ ap (λ b. count_by (is_of_row p) l + cond b 1 0) e in
        omega (arith, kept.once p, more)

-- the session of a row less, if it is open
pub kept_ended : (rows : List Row) (ordered l : List Moment) (s s' : OpenSessions) (m : Moment) → IsKept rows ordered l s
    → ((p : ℕ) → mark_in s' p ≡ (if m.place == p then None else mark_in s p))
    → ((t : List ℕ) → count_in s' t ≡ (if is_some (mark_in s m.place) && bytes_eq (text_of rows m.place) t then count_in s (text_of rows m.place) - 1 else count_in s t))
    → IsKept rows ordered (filter (is_other m) l) s'
kept_ended rows ordered l s s' m kept marks counts = record {
  marks = λ p. marks p ∙ mark p (m.place == p) refl;
  counts = λ t.
      counts t ∙ ap (λ (o : Option Bool). cond (is_some o && bytes_eq (text_of rows m.place) t) (count_in s (text_of rows m.place) - 1) (count_in s t)) (kept.marks m.place)
      ∙ count t (list_any (is_of_row m.place) l) refl (bytes_eq (text_of rows m.place) t) refl (other_count rows m t l);
  once = λ p. omega (arith, kept.once p, count-le-filter (is_of_row p) (is_other m) l);
}
  where
    mark : (p : ℕ) (b : Bool) → (m.place == p) ≡ b → cond b None (mark_in s p) ≡ cond (list_any (is_of_row p) (filter (is_other m) l)) (Some (is_marked rows ordered p)) None
    mark p true e = sym (ap (λ b. cond b (Some (is_marked rows ordered p)) None) (other_any m p l ∙ ap (λ b. not b && list_any (is_of_row p) l) e))
    mark p false e = kept.marks p ∙ sym (ap (λ b. cond b (Some (is_marked rows ordered p)) None) (other_any m p l ∙ ap (λ b. not b && list_any (is_of_row p) l) e))

    count : (t : List ℕ) (among : Bool) → list_any (is_of_row m.place) l ≡ among → (same : Bool) → bytes_eq (text_of rows m.place) t ≡ same
        → count_by (is_on rows t) (filter (is_other m) l) + cond same (count_by (is_of_row m.place) l) 0 ≡ count_by (is_on rows t) l
        → cond (is_some (cond among (Some (is_marked rows ordered m.place)) None) && same) (count_in s (text_of rows m.place) - 1) (count_in s t) ≡ count_by (is_on rows t) (filter (is_other m) l)
    count t true has true e less =
        let text : count_in s (text_of rows m.place) ≡ count_by (is_on rows t) l = ap (count_in s) (exact (text_of rows m.place) t e) ∙ kept.counts t in
        omega (arith, text, less, kept.once m.place, count_some (is_of_row m.place) l has)
    count t true has false e less = omega (arith, kept.counts t, less)
    count t false has true e less = omega (arith, kept.counts t, less, count_none (is_of_row m.place) l has)
    count t false has false e less = omega (arith, kept.counts t, less)

-- a count that is set
pub set_count : (at same : Bool) (n : ℕ) (o : Option ℕ) → at ≡ same → unwrap_or (cond at (Some n) o) 0 ≡ cond same n (unwrap_or o 0)
set_count true true n o e = refl
set_count false false n o e = refl
set_count true false n o e = absurd cc
set_count false true n o e = absurd cc
