-- One place more of the names that a choice has.
use Rattle.std.proofs.Common.{◌≡◌, ◌∙◌, ℕ, ◌+◌, ◌<◌, Bool, true, false, cond, List, get_or, length, take, Option, Some, None, refl, sym, ap}
use Rattle.std.proofs.lemmas.List.Folds.{list_any_more}
use Rattle.std.proofs.lemmas.Slice.Eq.{bytes_eq-Decides}
use Rattle.std.specs.List.{list_any}
use Rattle.std.specs.Option.{option_eq}
use Rattle.std.specs.Prelude.{◌||◌, bytes_eq}
use Rattle.tally_records.specs.Choice.{is_name}
use Rattle.tally_sessions.specs.inside.NamedUsers.{new_name, stands_before}

-- a place is one that has this name
same_name : (name : List ℕ) (place : Option (List ℕ)) → option_eq bytes_eq place (Some name) ≡ is_name name place
same_name name None = refl
same_name name (Some own) = refl

-- some place is
any_same : (name : List ℕ) (places : List (Option (List ℕ))) → list_any (λ p. option_eq bytes_eq p (Some name)) places ≡ list_any (is_name name) places
any_same name places = λ i. list_any (λ p. same_name name p i) places

-- where a name is a user's, some places have the user just where one of them is like that name
as_before : (user : List ℕ) (name : Option (List ℕ)) (places : List (Option (List ℕ))) → is_name user name ≡ true → list_any (is_name user) places ≡ list_any (λ p. option_eq bytes_eq p name) places
as_before user None places is = absurd (cc)
as_before user (Some name) places is = ap (λ (u : List ℕ). list_any (is_name u) places) (sym ((bytes_eq-Decides name user).0 is)) ∙ sym (any_same name places)

-- each user of all names is one of some names or the one more, and never both
abbrev pub AddsName : List (Option (List ℕ)) → Option (List ℕ) → List (Option (List ℕ)) → Type 0
AddsName some name all = (user : List ℕ) → cond (list_any (is_name user) some) 1 0 + cond (is_name user name) 1 0 ≡ cond (list_any (is_name user) all) 1 0

-- one test more that is true only where the others are counts nothing
none_more : (a b c : Bool) → c ≡ (a || b) → (b ≡ true → a ≡ true) → cond a 1 0 + 0 ≡ cond c 1 0
none_more true b c is h = ap {B = ℕ} (λ t. cond t 1 0) (sym is)
none_more false false c is h = ap {B = ℕ} (λ t. cond t 1 0) (sym is)
none_more false true c is h = absurd (let no = h refl in cc)

-- and one that is true only where the others are not counts itself
one_more : (a b c : Bool) → c ≡ (a || b) → (b ≡ true → a ≡ false) → cond a 1 0 + cond b 1 0 ≡ cond c 1 0
one_more true false c is h = ap {B = ℕ} (λ t. cond t 1 0) (sym is)
one_more true true c is h = absurd (let no = h refl in cc)
one_more false true c is h = ap {B = ℕ} (λ t. cond t 1 0) (sym is)
one_more false false c is h = ap {B = ℕ} (λ t. cond t 1 0) (sym is)

-- the new name at a place adds its user to those of the places before
pub new_name_adds : (names : List (Option (List ℕ))) (place : ℕ) (name : Option (List ℕ)) → place < length names → name ≡ new_name names place → AddsName (take place names) name (take (place + 1) names)
unfolding stands_before
new_name_adds names place name within is user = by (stands_before names place) refl is
  where
    here : Option (List ℕ)
    here = get_or names place None

    before : List (Option (List ℕ))
    before = take place names

    both : list_any (is_name user) (take (place + 1) names) ≡ (list_any (is_name user) before || is_name user here)
    both = list_any_more (is_name user) names place None within

    by : (stands : Bool) → stands_before names place ≡ stands → name ≡ cond stands None here → cond (list_any (is_name user) before) 1 0 + cond (is_name user name) 1 0 ≡ cond (list_any (is_name user) (take (place + 1) names)) 1 0
    by true there is =
        ap (λ (n : Option (List ℕ)). cond (list_any (is_name user) before) 1 0 + cond (is_name user n) 1 0) is
        ∙ none_more (list_any (is_name user) before) (is_name user here) (list_any (is_name user) (take (place + 1) names)) both (λ own. as_before user here before own ∙ there)
    by false new is =
        ap (λ (n : Option (List ℕ)). cond (list_any (is_name user) before) 1 0 + cond (is_name user n) 1 0) is
        ∙ one_more (list_any (is_name user) before) (is_name user here) (list_any (is_name user) (take (place + 1) names)) both (λ own. as_before user here before own ∙ new)
