-- Which sessions are open after one moment more.
use Rattle.std.proofs.Common.{◌≡◌, Bool, true, false, not, ◌&&◌, ◌||◌, cond, List, [], ◌∷◌, ◌++◌, ℕ, filter, refl, ap, ◌∙◌}
use Rattle.std.proofs.lemmas.List.Folds.{list_any-append}
use Rattle.std.specs.List.{list_any}
use Rattle.tally_wtmpdb.specs.Lines.{ends, is_halt, is_login, is_logout, is_of_row, open_logins}
use Rattle.tally_wtmpdb.specs.declared.moment.Moment.{Moment}
use Rattle.tally_wtmpdb.specs.declared.moment.What.{What}
use Rattle.tally_wtmpdb.specs.declared.moment.What.TheVariants.{Logout, Down, Boot, Login, LogoutAtOnce}

pub or_false : (a : Bool) → (a || false) ≡ a
or_false true = refl
or_false false = refl

pub or_true : (a : Bool) → (a || true) ≡ true
or_true true = refl
or_true false = refl

-- a session that is open after moments stays so where the next does not end it
one_more_end : (place : ℕ) (xs : List Moment) (m : Moment) → list_any (ends place) (xs ++ m ∷ []) ≡ (list_any (ends place) xs || ends place m)
one_more_end place xs m = list_any-append (ends place) xs (m ∷ []) ∙ ap (λ b. list_any (ends place) xs || b) (or_false (ends place m))

login_ends : (place : ℕ) (m : Moment) → m.what ≡ Login → ends place m ≡ false
login_ends place m e = ap (λ w. is_halt w || (is_logout w && is_of_row place m)) e

halt_ends : (place : ℕ) (m : Moment) → is_halt m.what ≡ true → ends place m ≡ true
halt_ends place m e = ap (λ b. b || (is_logout m.what && is_of_row place m)) e

no_halt : (w : What) → is_logout w ≡ true → is_halt w ≡ false
no_halt Logout e = refl
no_halt Down e = absurd cc
no_halt Boot e = absurd cc
no_halt Login e = refl
no_halt LogoutAtOnce e = refl

halt_no_login : (w : What) → is_halt w ≡ true → is_login w ≡ false
halt_no_login Logout e = refl
halt_no_login Down e = refl
halt_no_login Boot e = refl
halt_no_login Login e = absurd cc
halt_no_login LogoutAtOnce e = refl

logout_no_login : (w : What) → is_logout w ≡ true → is_login w ≡ false
logout_no_login Logout e = refl
logout_no_login Down e = refl
logout_no_login Boot e = refl
logout_no_login Login e = absurd cc
logout_no_login LogoutAtOnce e = refl

logout_ends : (place : ℕ) (m : Moment) → is_logout m.what ≡ true → ends place m ≡ is_of_row place m
logout_ends place m e =
    ap (λ b. b || (is_logout m.what && is_of_row place m)) (no_halt m.what e) ∙ ap (λ b. b && is_of_row place m) e

put : (b : Bool) (x : Moment) (l : List Moment) (m : Moment) → cond b (x ∷ (l ++ m ∷ [])) (l ++ m ∷ []) ≡ cond b (x ∷ l) l ++ m ∷ []
put true x l m = refl
put false x l m = refl

-- a login opens its session
pub open_logins-login : (xs : List Moment) (m : Moment) → m.what ≡ Login → open_logins (xs ++ m ∷ []) ≡ open_logins xs ++ m ∷ []
unfolding open_logins
open_logins-login [] m e = ap (λ w. cond (is_login w && true) (m ∷ []) []) e
open_logins-login (x ∷ xs) m e =
    let later : list_any (ends x.place) (xs ++ m ∷ []) ≡ list_any (ends x.place) xs =
    one_more_end x.place xs m ∙ ap (λ b. list_any (ends x.place) xs || b) (login_ends x.place m e) ∙ or_false (list_any (ends x.place) xs) in
    ap (λ b. cond (is_login x.what && not b) (x ∷ open_logins (xs ++ m ∷ [])) (open_logins (xs ++ m ∷ []))) later
    ∙ ap (λ (l : List Moment). cond (is_login x.what && not (list_any (ends x.place) xs)) (x ∷ l) l) (open_logins-login xs m e)
    ∙ put (is_login x.what && not (list_any (ends x.place) xs)) x (open_logins xs) m

never : (a : Bool) (l k : List Moment) → cond (a && false) l k ≡ k
never true l k = refl
never false l k = refl

-- a boot or a shutdown leaves none open
pub open_logins-halt : (xs : List Moment) (m : Moment) → is_halt m.what ≡ true → open_logins (xs ++ m ∷ []) ≡ []
unfolding open_logins
open_logins-halt [] m e = ap (λ b. cond (b && true) (m ∷ []) []) (halt_no_login m.what e)
open_logins-halt (x ∷ xs) m e =
    let later : list_any (ends x.place) (xs ++ m ∷ []) ≡ true =
    one_more_end x.place xs m ∙ ap (λ b. list_any (ends x.place) xs || b) (halt_ends x.place m e) ∙ or_true (list_any (ends x.place) xs) in
    ap (λ b. cond (is_login x.what && not b) (x ∷ open_logins (xs ++ m ∷ [])) (open_logins (xs ++ m ∷ []))) later
    ∙ never (is_login x.what) (x ∷ open_logins (xs ++ m ∷ [])) (open_logins (xs ++ m ∷ []))
    ∙ open_logins-halt xs m e

-- a login is not of the row of a moment
abbrev pub is_other : Moment → Moment → Bool
is_other m l = not (is_of_row l.place m)

drop_it : (m x : Moment) (a b : Bool) (l : List Moment)
    → cond (a && not (b || is_of_row x.place m)) (x ∷ filter (is_other m) l) (filter (is_other m) l) ≡ filter (is_other m) (cond (a && not b) (x ∷ l) l)
drop_it m x true true l = refl
drop_it m x true false l = refl
drop_it m x false b l = refl

-- a logout closes the session of its row
pub open_logins-logout : (xs : List Moment) (m : Moment) → is_logout m.what ≡ true → open_logins (xs ++ m ∷ []) ≡ filter (is_other m) (open_logins xs)
unfolding open_logins
open_logins-logout [] m e = ap (λ b. cond (b && true) (m ∷ []) []) (logout_no_login m.what e)
open_logins-logout (x ∷ xs) m e =
    let later : list_any (ends x.place) (xs ++ m ∷ []) ≡ (list_any (ends x.place) xs || is_of_row x.place m) =
    one_more_end x.place xs m ∙ ap (λ b. list_any (ends x.place) xs || b) (logout_ends x.place m e) in
    ap (λ b. cond (is_login x.what && not b) (x ∷ open_logins (xs ++ m ∷ [])) (open_logins (xs ++ m ∷ []))) later
    ∙ ap (λ (l : List Moment). cond (is_login x.what && not (list_any (ends x.place) xs || is_of_row x.place m)) (x ∷ l) l) (open_logins-logout xs m e)
    ∙ drop_it m x (is_login x.what) (list_any (ends x.place) xs) (open_logins xs)
