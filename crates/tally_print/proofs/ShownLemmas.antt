-- The printed text of a field, byte by byte.
use Rattle.std.proofs.Common.{◌≡◌, ℕ, zero, suc, ◌+◌, ◌<◌, ◌≤◌, ◌∷◌, ◌++◌, List, length, get_or, take, drop, false, true, refl, ap, ◌∙◌, eqb, not, [], ◌==◌, add_comm, add-one, arith}
use Rattle.std.specs.Prelude.{nat_le, ◌&&◌}
use Rattle.std.proofs.lemmas.Bool.Decides.{nat_tests}
use Rattle.std.proofs.lemmas.List.{at_drop_more}
use Rattle.std.specs.List.{prefix_len}
use Rattle.tally_print.specs.Text.{shown, shown_byte}
use Rattle.tally_print.specs.inside.Plain.{ArePlain, is_unusual}

-- a field that begins with a byte of its text
shown-cons : (b : ℕ) (rest : List ℕ) → eqb b 0 ≡ false → shown (b ∷ rest) ≡ shown_byte b ∷ shown rest
shown-cons b rest e =
    let after = prefix_len (λ x. not (x == 0)) rest in
    rw e (rw (add_comm 1 after, add-one) refl)

pub shown-drop : (field : List ℕ) (i : ℕ) → i < length field → eqb (get_or field i 0) 0 ≡ false → shown (drop i field) ≡ shown_byte (get_or field i 0) ∷ shown (drop (i + 1) field)
shown-drop field i within e = at_drop_more shown field i 0 within ∙ shown-cons (get_or field i 0) (drop (i + 1) field) e

-- a field whose text is over
shown-stop : (b : ℕ) (rest : List ℕ) → eqb b 0 ≡ true → shown (b ∷ rest) ≡ []
shown-stop b rest e = rw e refl

pub shown-drop_stop : (field : List ℕ) (i : ℕ) → i < length field → eqb (get_or field i 0) 0 ≡ true → shown (drop i field) ≡ []
shown-drop_stop field i within e = at_drop_more shown field i 0 within ∙ shown-stop (get_or field i 0) (drop (i + 1) field) e

-- a plain byte is printed as it is, and is no mark of the format of tables
pub record IsUsual (b : ℕ) : Type 0 where
  pub within : (nat_le 0x20 b && nat_le b 0x7E) ≡ true
  pub goes_on : eqb b 0 ≡ false
  pub comma : eqb b 44 ≡ false
  pub quote : eqb b 34 ≡ false

pub usual : (b : ℕ) → is_unusual b ≡ false → IsUsual b
usual b e = record {
  within = grind (arith, nat_tests);
  goes_on = grind (arith, nat_tests);
  comma = grind (arith, nat_tests);
  quote = grind (arith, nat_tests);
}

-- plain bytes stand in the printed text as they are
pub shown_front : (field : List ℕ) (n : ℕ) → n ≤ length field → ArePlain field 0 n → shown field ≡ take n field ++ shown (drop n field)
shown_front field zero h plain = refl
shown_front [] (suc n) h plain = absurd (omega arith)
shown_front (b ∷ rest) (suc n) h plain =
    let is = usual b (plain 0 (omega arith) (omega arith)) in
    let next = shown_front rest n (omega arith) (λ k from to. plain (suc k) (omega arith) (omega arith)) in
    let byte : shown_byte b ≡ b = rw is.within refl in
    shown-cons b rest is.goes_on ∙ rw byte (ap (λ (t : List ℕ). b ∷ t) next)
