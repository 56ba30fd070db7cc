-- What a text says of an argument that it refuses.
use Rattle.std.proofs.Common.{◌≡◌, ◌++◌, ◌∙◌, Bool, List, ap, false, sym, true, true≢false, ℕ}
use Rattle.std.proofs.lemmas.List.{append_cancel_left}
use Rattle.std.specs.Bool.{MatchBool}
use Rattle.std.specs.Prelude.{codes}
use Rattle.tally_line.specs.inside.LineSteps.{IsNegativeRefused, begins_with_digit}

abbrev front : List ℕ
front = codes "error: unexpected argument '-"

-- whether what stands after the minus begins with a digit
pub negative_if : (text rest : List ℕ) (is : Bool) → text ≡ front ++ rest → is ≡ begins_with_digit rest → MatchBool is (IsNegativeRefused text) (¬ IsNegativeRefused text)
negative_if text rest true text_is same = (rest, text_is, sym same)
negative_if text rest false text_is same = λ other.
    let joined : rest ≡ other.0 = append_cancel_left front rest other.0 (sym text_is ∙ other.1) in
    true≢false (sym (same ∙ ap begins_with_digit joined ∙ other.2))
