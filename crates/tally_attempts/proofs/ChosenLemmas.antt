-- What is chosen of one entry.
use Rattle.std.proofs.Common.{◌≡◌, ◌∙◌, Bool, true, false, cond, List, [], ◌∷◌, ◌++◌, filter, map, None, Some, refl, ap}
use Rattle.std.proofs.lemmas.List.{map-append}
use Rattle.std.proofs.lemmas.List.Elements.{filter-append}
use Rattle.tally_attempts.specs.Attempts.{is_chosen}
use Rattle.tally_attempts.specs.Sums.{chosen_attempts}
use Rattle.tally_attempts.specs.inside.Latest.{if_chosen}
use Rattle.tally_records.specs.declared.choice.LoginChoice.{LoginChoice}
use Rattle.tally_records.specs.declared.login.LoginRecord.{LoginRecord}
use Rattle.tally_sessions.specs.declared.entry.Entry.{Entry}

pub chosen_attempts-append : (choice : LoginChoice) (xs ys : List Entry) → chosen_attempts choice (xs ++ ys) ≡ chosen_attempts choice xs ++ chosen_attempts choice ys
chosen_attempts-append choice xs ys =
    let test : Entry → Bool = λ e. is_chosen choice e.item in
    ap (map (λ (e : Entry). e.item)) (filter-append test xs ys) ∙ map-append (λ (e : Entry). e.item) (filter test xs) (filter test ys)

module _ (choice : LoginChoice) (e : Entry) where
  pub chosen_one : (q : LoginRecord) → if_chosen choice (Some e) ≡ Some q → filter (is_chosen choice) (e.item ∷ []) ≡ q ∷ []
  chosen_one q is = by (is_chosen choice e.item) is
    where
      by : (b : Bool) → cond b (Some e.item) None ≡ Some q → cond b (e.item ∷ []) [] ≡ q ∷ []
      by true f = (let same : e.item ≡ q = cc in ap (λ (x : LoginRecord). x ∷ []) same)
      by false f = cc

  pub chosen_none : if_chosen choice (Some e) ≡ None → filter (is_chosen choice) (e.item ∷ []) ≡ []
  chosen_none is = by (is_chosen choice e.item) is
    where
      by : (b : Bool) → cond b (Some e.item) None ≡ None → cond b (e.item ∷ []) [] ≡ []
      by true f = cc
      by false f = refl

  attempts_are : chosen_attempts choice (e ∷ []) ≡ filter (is_chosen choice) (e.item ∷ [])
  attempts_are = by (is_chosen choice e.item)
    where
      by : (b : Bool) → map (λ (x : Entry). x.item) (cond b (e ∷ []) []) ≡ cond b (e.item ∷ []) []
      by true = refl
      by false = refl

  pub attempt_one : (q : LoginRecord) → if_chosen choice (Some e) ≡ Some q → chosen_attempts choice (e ∷ []) ≡ q ∷ []
  attempt_one q is = attempts_are ∙ chosen_one q is

  pub attempt_none : if_chosen choice (Some e) ≡ None → chosen_attempts choice (e ∷ []) ≡ []
  attempt_none is = attempts_are ∙ chosen_none is
