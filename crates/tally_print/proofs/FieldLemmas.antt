-- The fields of a table: which need quotes, and what stands between the quotes.
use Rattle.std.proofs.Common.{◌≡◌, ℕ, zero, suc, ◌+◌, ◌<◌, ◌≤◌, ◌∷◌, List, length, get_or, take, drop, false, true, refl, sym, ◌∙◌, ap, eqb, [], arith, inl, inr}
use Rattle.std.specs.Bool.{OnTrue}
use Rattle.std.specs.Prelude.{Bool, nat_le, ◌&&◌, ◌||◌}
use Rattle.std.proofs.lemmas.Bool.{cases_Bool, eqb-true}
use Rattle.std.proofs.lemmas.List.{append-nil, at_drop_all}
use Rattle.std.proofs.lemmas.Bool.Decides.{nat_tests}
use Rattle.csv.specs.Writing.{default_writer, escaped, field_text, needs_byte, needs_quotes}
use Rattle.tally_print.specs.Text.{shown, shown_byte}
use Rattle.tally_print.specs.inside.Plain.{ArePlain}
use Rattle.tally_print.proofs.ShownLemmas.{shown-drop, shown-drop_stop, shown_front, usual}

-- a byte as it is printed needs quotes only where it is a comma or a quote
plain_where_shown : (b : ℕ) → eqb b 44 ≡ false → eqb b 34 ≡ false → (nat_le 0x20 b && nat_le b 0x7E) ≡ true → needs_byte default_writer b ≡ false
plain_where_shown b comma quote within =
    let r : eqb b 13 ≡ false = grind (arith, nat_tests) in
    let n : eqb b 10 ≡ false = grind (arith, nat_tests) in
    rw (comma, quote, r, n) refl

pub plain_shown_byte : (b : ℕ) → eqb b 44 ≡ false → eqb b 34 ≡ false → needs_byte default_writer (shown_byte b) ≡ false
plain_shown_byte b comma quote = elim (cases_Bool (nat_le 0x20 b && nat_le b 0x7E)) [
  | inl within ↦ rw within (plain_where_shown b comma quote within)
  | inr beyond ↦ rw beyond refl
]

-- the field goes on after a byte that is no NUL
needs_rest : (field : List ℕ) (i : ℕ) → i < length field → eqb (get_or field i 0) 0 ≡ false → needs_quotes default_writer (shown (drop i field)) ≡ (needs_byte default_writer (shown_byte (get_or field i 0)) || needs_quotes default_writer (shown (drop (i + 1) field)))
needs_rest field i within ends = ap (needs_quotes default_writer) (shown-drop field i within ends)

-- such a byte decides, or else what follows it
pub needs_here : (field : List ℕ) (i : ℕ) → i < length field → eqb (get_or field i 0) 0 ≡ false → (mark : Bool) → needs_byte default_writer (shown_byte (get_or field i 0)) ≡ mark → (mark || needs_quotes default_writer (shown (drop (i + 1) field))) ≡ needs_quotes default_writer (shown (drop i field))
needs_here field i within ends mark is = rw is at (sym (needs_rest field i within ends))

pub needs_nothing : (field : List ℕ) (i : ℕ) → i < length field → eqb (get_or field i 0) 0 ≡ true → needs_quotes default_writer (shown (drop i field)) ≡ false
needs_nothing field i within ends = ap (needs_quotes default_writer) (shown-drop_stop field i within ends)

pub needs_end : (field : List ℕ) (i : ℕ) → length field ≤ i → needs_quotes default_writer (shown (drop i field)) ≡ false
needs_end field i beyond = at_drop_all (λ (x : List ℕ). needs_quotes default_writer (shown x)) field i beyond

-- a quote stands twice between quotes, another byte once
escaped-plain : (b : ℕ) (rest : List ℕ) → eqb b 34 ≡ false → escaped default_writer (b ∷ rest) ≡ b ∷ escaped default_writer rest
unfolding escaped
escaped-plain b rest e = rw e refl

escaped-quote : (b : ℕ) (rest : List ℕ) → eqb b 34 ≡ true → escaped default_writer (b ∷ rest) ≡ 34 ∷ b ∷ escaped default_writer rest
unfolding escaped
escaped-quote b rest e = rw e refl

pub escaped-nothing : escaped default_writer [] ≡ []
unfolding escaped
escaped-nothing = refl

no_quote_shown : (b : ℕ) → eqb b 34 ≡ false → eqb (shown_byte b) 34 ≡ false
no_quote_shown b e = elim (cases_Bool (nat_le 0x20 b && nat_le b 0x7E)) [
  | inl within ↦ rw within e
  | inr beyond ↦ rw beyond refl
]

pub escaped_rest : (field : List ℕ) (i : ℕ) → i < length field → eqb (get_or field i 0) 0 ≡ false → eqb (get_or field i 0) 34 ≡ false → escaped default_writer (shown (drop i field)) ≡ shown_byte (get_or field i 0) ∷ escaped default_writer (shown (drop (i + 1) field))
escaped_rest field i within ends quote =
    ap (escaped default_writer) (shown-drop field i within ends) ∙ escaped-plain _ _ (no_quote_shown (get_or field i 0) quote)

pub escaped_here : (field : List ℕ) (i : ℕ) → i < length field → get_or field i 0 ≡ 34 → escaped default_writer (shown (drop i field)) ≡ 34 ∷ 34 ∷ escaped default_writer (shown (drop (i + 1) field))
escaped_here field i within is =
    let ends : eqb (get_or field i 0) 0 ≡ false = rw is refl in
    ap (escaped default_writer) (shown-drop field i within ends) ∙ rw is (escaped-quote 34 _ refl)

pub escaped_stop : (field : List ℕ) (i : ℕ) → i < length field → eqb (get_or field i 0) 0 ≡ true → escaped default_writer (shown (drop i field)) ≡ []
escaped_stop field i within ends = ap (escaped default_writer) (shown-drop_stop field i within ends) ∙ escaped-nothing

pub escaped_end : (field : List ℕ) (i : ℕ) → length field ≤ i → escaped default_writer (shown (drop i field)) ≡ []
escaped_end field i beyond = at_drop_all (λ (x : List ℕ). escaped default_writer (shown x)) field i beyond ∙ escaped-nothing

-- of the bytes that are no comma, a quote alone needs quotes
pub quote_is_mark : (b : ℕ) → eqb b 44 ≡ false → needs_byte default_writer (shown_byte b) ≡ eqb b 34
quote_is_mark b comma = elim (cases_Bool (eqb b 34)) [
  | inl quote ↦ rw (quote, eqb-true b 34 quote) refl
  | inr other ↦ rw other (plain_shown_byte b comma other)
]

-- plain bytes need no quotes
plain_needs_none : (field : List ℕ) (n : ℕ) → n ≤ length field → ArePlain field 0 n → needs_quotes default_writer (take n field) ≡ false
plain_needs_none field zero h plain = refl
plain_needs_none [] (suc n) h plain = absurd (omega arith)
plain_needs_none (b ∷ rest) (suc n) h plain =
    let is = usual b (plain 0 (omega arith) (omega arith)) in
    let next = plain_needs_none rest n (omega arith) (λ k from to. plain (suc k) (omega arith) (omega arith)) in
    rw (plain_where_shown b is.comma is.quote is.within) next

-- where the text ends after plain bytes, they are the text
pub plain_text : (field : List ℕ) (n : ℕ) → n ≤ length field → ArePlain field 0 n → shown (drop n field) ≡ [] → shown field ≡ take n field
plain_text field n h plain over = shown_front field n h plain ∙ rw over (append-nil (take n field))

-- and so they are the field of a table
pub plain_text_as_field : (field : List ℕ) (n : ℕ) → n ≤ length field → ArePlain field 0 n → shown (drop n field) ≡ [] → field_text default_writer (shown field) ≡ take n field
plain_text_as_field field n h plain over =
    ap (field_text default_writer) (plain_text field n h plain over) ∙ rw (plain_needs_none field n h plain) refl

-- whether the text is over, by the byte that comes next
on_nul : (b : ℕ) (P : Type 0) → (eqb b 0 ≡ true → P) → OnTrue (eqb b 0) P
on_nul b P f = elim (cases_Bool (eqb b 0)) [
  | inl nul ↦ rw nul (f nul)
  | inr other ↦ rw other tt
]

pub over_at_byte : (field : List ℕ) (i : ℕ) → i < length field → OnTrue (eqb (get_or field i 0) 0) (shown (drop i field) ≡ [])
over_at_byte field i within = on_nul (get_or field i 0) _ (shown-drop_stop field i within)

pub over_at_end : (field : List ℕ) (i : ℕ) → length field ≤ i → shown (drop i field) ≡ []
over_at_end field i beyond = at_drop_all shown field i beyond
