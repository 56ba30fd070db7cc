-- A table of users' sums, after a write at one user.
use Rattle.std.proofs.Common.{◌≡◌, ◌+◌, ℕ, Bool, true, false, cond, List, Some, None, unwrap_or, refl, sym, ap, subst, ◌∙◌, arith}
use Rattle.std.proofs.lemmas.Slice.Eq.{bytes_eq-Decides}
use Rattle.std.specs.Map.{lookup}
use Rattle.std.specs.Prelude.{bytes_eq}

-- a user that had no sum has 0
pub entered_by : (user : List ℕ) (old new : List (List ℕ × ℕ)) → ((name : List ℕ) → lookup (bytes_eq name) new ≡ cond (bytes_eq user name) (Some 0) (lookup (bytes_eq name) old)) → lookup (bytes_eq user) old ≡ None
    → (name : List ℕ) → unwrap_or (lookup (bytes_eq name) new) 0 ≡ unwrap_or (lookup (bytes_eq name) old) 0
entered_by user old new updates absent name = ap (λ o. unwrap_or o 0) (updates name) ∙ by (bytes_eq user name) refl
  where
    by : (b : Bool) → bytes_eq user name ≡ b → unwrap_or (cond b (Some 0) (lookup (bytes_eq name) old)) 0 ≡ unwrap_or (lookup (bytes_eq name) old) 0
    by true e =
        let same = (bytes_eq-Decides user name).0 e in
        sym (ap (λ o. unwrap_or o 0) (subst (λ u. lookup (bytes_eq u) old ≡ None) same absent))
    by false e = refl

-- a user's own sum has grown
pub added_by : (name : List ℕ) (old new : List (List ℕ × ℕ)) (n m : ℕ) → m ≡ n → ((other : List ℕ) → lookup (bytes_eq other) new ≡ cond (bytes_eq name other) (Some (unwrap_or (lookup (bytes_eq name) old) 0 + m)) (lookup (bytes_eq other) old))
    → (user : List ℕ) → unwrap_or (lookup (bytes_eq user) new) 0 ≡ unwrap_or (lookup (bytes_eq user) old) 0 + cond (bytes_eq name user) n 0
added_by name old new n m same updates user = ap (λ o. unwrap_or o 0) (updates user) ∙ by (bytes_eq name user) refl
  where
    by : (b : Bool) → bytes_eq name user ≡ b → unwrap_or (cond b (Some (unwrap_or (lookup (bytes_eq name) old) 0 + m)) (lookup (bytes_eq user) old)) 0 ≡ unwrap_or (lookup (bytes_eq user) old) 0 + cond b n 0
    by true e = ap (λ k. unwrap_or (lookup (bytes_eq name) old) 0 + k) same ∙ ap (λ (u : List ℕ). unwrap_or (lookup (bytes_eq u) old) 0 + n) ((bytes_eq-Decides name user).0 e)
    by false e = omega arith
