-- That two sessions that are open at one time have different lines.
use Rattle.std.proofs.Common.{◌≡◌, ℕ, ◌+◌, ◌<◌, ◌≤◌, ◌==◌, Bool, true, false, not, ◌&&◌, ◌||◌, cond, List, [], ◌∷◌, length, take, get_or, refl, sym, ap, ◌∙◌, arith}
use Rattle.std.proofs.lemmas.Bool.{and_from, both_ways, eqb-true, false_from_ne_true, not_from_false, or_left, or_parts}
use Rattle.std.proofs.lemmas.Slice.Eq.{bytes_eq-Decides}
use Rattle.std.specs.List.{before_first, count_by, list_any}
use Rattle.std.specs.Prelude.{bytes_eq}
use Rattle.sqlite_value.specs.Order.{Row}
use Rattle.tally_wtmpdb.proofs.Apart.{apart}
use Rattle.tally_wtmpdb.proofs.Kept.{count_some, front}
use Rattle.tally_wtmpdb.proofs.Marks.{marked-hash, same_id}
use Rattle.tally_wtmpdb.proofs.Members.{place_within}
use Rattle.tally_wtmpdb.specs.Fields.{field}
use Rattle.tally_wtmpdb.specs.Laws.{has_line}
use Rattle.tally_wtmpdb.specs.Lines.{begins, has_mark, is_marked, is_of_row, is_taken, open_logins, text_of}
use Rattle.tally_wtmpdb.specs.Made.{line_of}
use Rattle.tally_wtmpdb.specs.Moments.{AreInOrder, moments}
use Rattle.tally_wtmpdb.specs.Rows.{is_session}
use Rattle.tally_wtmpdb.specs.Sessions.{HaveIds}
use Rattle.tally_wtmpdb.specs.declared.moment.Moment.{Moment}

-- the line that the records of the row at a place have
abbrev pub line_at : List Row → List Moment → ℕ → List ℕ
line_at rows ms p = field 32 (line_of (is_marked rows ms p) (get_or rows p []))

-- without a mark it is the text, which has no `#`
plain_line : (rows : List Row) (ms : List Moment) (p : ℕ) → is_marked rows ms p ≡ false → line_at rows ms p ≡ text_of rows p
plain_line rows ms p e = ap (λ (b : Bool). field 32 (line_of b (get_or rows p []))) e

plain_hash : (rows : List Row) (ms : List Moment) (p : ℕ) → is_marked rows ms p ≡ false → list_any (λ b. b == 35) (line_at rows ms p) ≡ false
plain_hash rows ms p e =
    ap (λ (l : List ℕ). list_any (λ b. b == 35) l) (plain_line rows ms p e)
    ∙ (or_parts (has_mark (text_of rows p)) (is_taken rows (before_first (begins p) ms) (text_of rows p)) e).0

hash_in : (rows : List Row) (ms : List Moment) → HaveIds rows → (p : ℕ) → p < length rows → is_marked rows ms p ≡ true → list_any (λ b. b == 35) (line_at rows ms p) ≡ true
hash_in rows ms ids p within e =
    ap (λ (b : Bool). list_any (λ b. b == 35) (field 32 (line_of b (get_or rows p [])))) e ∙ marked-hash (get_or rows p []) (ids.fit p within)

-- ---- two of a list

some_of : (g : ℕ → Bool) (p : ℕ) (l : List Moment) → g p ≡ true → list_any (is_of_row p) l ≡ true → list_any (λ m. g m.place) l ≡ true
some_of g p [] t e = absurd cc
some_of g p (x ∷ l) t e = by (x.place == p) refl (some_of g p l t)
  where
    by : (b : Bool) → (x.place == p) ≡ b → (list_any (is_of_row p) l ≡ true → list_any (λ m. g m.place) l ≡ true) → (g x.place || list_any (λ m. g m.place) l) ≡ true
    by true h rest = or_left (g x.place) (list_any (λ m. g m.place) l) (ap g (eqb-true x.place p h) ∙ t)
    by false h rest =
        let later : list_any (is_of_row p) l ≡ true = sym (ap (λ b. b || list_any (is_of_row p) l) h) ∙ e in
        ap (λ b. g x.place || b) (rest later) ∙ true_right (g x.place)
      where
        true_right : (a : Bool) → (a || true) ≡ true
        true_right true = refl
        true_right false = refl

two_of : (g : ℕ → Bool) (p q : ℕ) (l : List Moment) → g p ≡ true → g q ≡ true → (p ≡ q → ⊥) → list_any (is_of_row p) l ≡ true → list_any (is_of_row q) l ≡ true
    → 2 ≤ count_by (λ m. g m.place) l
two_of g p q [] tp tq differ e f = absurd cc
two_of g p q (x ∷ l) tp tq differ e f = by (x.place == p) refl (x.place == q) refl (two_of g p q l tp tq differ)
  where
    counted : g x.place ≡ true → list_any (λ m. g m.place) l ≡ true → 2 ≤ count_by (λ m. g m.place) (x ∷ l)
    counted here later =
        let one : count_by (λ m. g m.place) (x ∷ l) ≡ 1 + count_by (λ m. g m.place) l =
        front (λ m. g m.place) x l ∙ ap (λ b. cond b 1 0 + count_by (λ m. g m.place) l) here in
        omega (arith, one, count_some (λ m. g m.place) l later)

    later_of : (k : ℕ) → (x.place == k) ≡ false → list_any (is_of_row k) (x ∷ l) ≡ true → list_any (is_of_row k) l ≡ true
    later_of k h any = sym (ap (λ b. b || list_any (is_of_row k) l) h) ∙ any

    by : (a : Bool) → (x.place == p) ≡ a → (b : Bool) → (x.place == q) ≡ b
        → (list_any (is_of_row p) l ≡ true → list_any (is_of_row q) l ≡ true → 2 ≤ count_by (λ m. g m.place) l) → 2 ≤ count_by (λ m. g m.place) (x ∷ l)
    by true h true k rest = absurd (differ (sym (eqb-true x.place p h) ∙ eqb-true x.place q k))
    by true h false k rest = counted (ap g (eqb-true x.place p h) ∙ tp) (some_of g q l tq (later_of q k f))
    by false h true k rest = counted (ap g (eqb-true x.place q k) ∙ tq) (some_of g p l tp (later_of p h e))
    by false h false k rest = omega (arith, front (λ m. g m.place) x l, rest (later_of p h e) (later_of q k f))

-- ---- lines differ

pub lines_differ : (rows : List Row) (ms : List Moment) → HaveIds rows → AreInOrder (moments rows) ms → (k p q : ℕ) → k ≤ length ms
    → is_session (get_or rows p []) ≡ true → is_session (get_or rows q []) ≡ true
    → list_any (is_of_row p) (open_logins (take k ms)) ≡ true → list_any (is_of_row q) (open_logins (take k ms)) ≡ true → (p ≡ q → ⊥)
    → bytes_eq (line_at rows ms p) (line_at rows ms q) ≡ false
lines_differ rows ms ids order k p q within sp sq op oq differ =
    false_from_ne_true (bytes_eq (line_at rows ms p) (line_at rows ms q))
    (λ e. by (is_marked rows ms p) refl (is_marked rows ms q) refl ((bytes_eq-Decides (line_at rows ms p) (line_at rows ms q)).0 e))
  where
    p_in : p < length rows
    p_in = place_within rows p sp

    q_in : q < length rows
    q_in = place_within rows q sq

    by : (a : Bool) → is_marked rows ms p ≡ a → (b : Bool) → is_marked rows ms q ≡ b → line_at rows ms p ≡ line_at rows ms q → ⊥
    by true h true g same =
        differ (ids.differ p q p_in q_in
        (same_id (get_or rows p []) (get_or rows q []) (ids.fit p p_in) (ids.fit q q_in)
        (sym (ap (λ (b : Bool). field 32 (line_of b (get_or rows p []))) h) ∙ same ∙ ap (λ (b : Bool). field 32 (line_of b (get_or rows q []))) g)))
    by true h false g same = both_ways (list_any (λ b. b == 35) (line_at rows ms p)) (ap (λ (l : List ℕ). list_any (λ b. b == 35) l) same ∙ plain_hash rows ms q g) (hash_in rows ms ids p p_in h)
    by false h true g same = both_ways (list_any (λ b. b == 35) (line_at rows ms p)) (plain_hash rows ms p h) (ap (λ (l : List ℕ). list_any (λ b. b == 35) l) same ∙ hash_in rows ms ids q q_in g)
    by false h false g same =
        let text : text_of rows q ≡ text_of rows p = sym (plain_line rows ms q g) ∙ sym same ∙ plain_line rows ms p h in
        let here : (bytes_eq (text_of rows p) (text_of rows p) && not (is_marked rows ms p)) ≡ true =
        and_from (bytes_eq (text_of rows p) (text_of rows p)) (not (is_marked rows ms p)) ((bytes_eq-Decides (text_of rows p) (text_of rows p)).1 refl) (not_from_false (is_marked rows ms p) h) in
        let there : (bytes_eq (text_of rows q) (text_of rows p) && not (is_marked rows ms q)) ≡ true =
        and_from (bytes_eq (text_of rows q) (text_of rows p)) (not (is_marked rows ms q)) ((bytes_eq-Decides (text_of rows q) (text_of rows p)).1 text) (not_from_false (is_marked rows ms q) g) in
        let two : 2 ≤ count_by (has_line rows ms (text_of rows p)) (open_logins (take k ms)) =
        two_of (λ place. bytes_eq (text_of rows place) (text_of rows p) && not (is_marked rows ms place)) p q (open_logins (take k ms)) here there differ op oq in
        let one : count_by (has_line rows ms (text_of rows p)) (open_logins (take k ms)) ≤ 1 = apart rows ms order (text_of rows p) k within in
        absurd (omega (arith, two, one))
