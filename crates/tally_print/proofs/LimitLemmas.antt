-- The first rows up to a limit, and what is left of rows from a place on.
use Rattle.std.proofs.Common.{◌≡◌, ◌∙◌, ℕ, ◌+◌, ◌<◌, ◌≤◌, ◌∷◌, List, [], Option, Some, None, arith, ap, drop, get_or, length, refl, sym}
use Rattle.std.proofs.lemmas.List.{drop-drop, get_or-drop, get_or-take, length-drop, length-take}
use Rattle.tally_sessions.specs.Totals.{limited}

module _ {X : Type 0} where
  -- a row within the limit is that at its place among all
  pub limited_at : (limit : Option ℕ) (rows : List X) (k : ℕ) (d : X) → k < length (limited limit rows) → get_or (limited limit rows) k d ≡ get_or rows k d
  limited_at None rows k d within = refl
  limited_at (Some n) rows k d within = get_or-take n rows k d (omega (arith, length-take n rows, within))

  -- and one of them
  pub limited_in : (limit : Option ℕ) (rows : List X) (k : ℕ) → k < length (limited limit rows) → k < length rows
  limited_in None rows k within = within
  limited_in (Some n) rows k within = omega (arith, length-take n rows, within)

  pub limited_of_few : (limit : Option ℕ) (rows : List X) (k : ℕ) → length rows ≤ k → length (limited limit rows) ≤ k
  limited_of_few None rows k few = few
  limited_of_few (Some n) rows k few = omega (arith, length-take n rows, few)

  -- where rows end, there are no more of them
  pub no_more : (rows : List X) (k : ℕ) → drop k rows ≡ [] → length rows ≤ k
  no_more rows k none = omega (arith, length-drop k rows, ap length none)

module _ {X Y : Type 0} where
  -- a place within the limit of some rows is within that of others that have it
  pub limited_more : (limit : Option ℕ) (rows : List X) (others : List Y) (k : ℕ) → k < length (limited limit rows) → k < length others → k < length (limited limit others)
  limited_more None rows others k within near = near
  limited_more (Some n) rows others k within near = omega (arith, length-take n rows, length-take n others, within, near)

  -- of fewer rows no more are within the limit
  pub limited_fewer : (limit : Option ℕ) (rows : List X) (others : List Y) → length others ≤ length rows → length (limited limit others) ≤ length (limited limit rows)
  limited_fewer None rows others fewer = fewer
  limited_fewer (Some n) rows others fewer = omega (arith, length-take n rows, length-take n others, fewer)

-- where rows go on with one, it is that at the place, and the rest begins after it
module _ {X : Type 0} (xs : List X) (k : ℕ) (x : X) (rest : List X) (is : drop k xs ≡ x ∷ rest) where
  pub next_within : k < length xs
  next_within = omega (arith, length-drop k xs, ap length is)

  pub next_at : (d : X) → get_or xs k d ≡ x
  next_at d =
      let here : k ≡ k + 0 = omega arith in
      ap (λ (n : ℕ). get_or xs n d) here ∙ sym (get_or-drop k xs 0 d) ∙ ap (λ (ys : List X). get_or ys 0 d) is

  pub next_rest : drop (k + 1) xs ≡ rest
  next_rest = sym (drop-drop 1 k xs) ∙ ap (drop 1) is
