-- Files that are dealt to feeders by turns.
use Rattle.std.proofs.Common.{◌≡◌, ◌≢◌, ℕ, ◌+◌, ◌*◌, ◌/◌, ◌%◌, ◌<◌, ◌≤◌, List, [], ◌∷◌, ◌++◌, Some, length, map, set, get_or, sym, ap, refl, ◌∙◌, arith, length-append, ⊎_elim}
use Rattle.std.proofs.Math.Nat.{le_of_mul-le-mul_right, mod-lt, mul-le-mul_right}
use Rattle.std.proofs.lemmas.Bool.{cases_eq, cases_lt}
use Rattle.std.proofs.lemmas.List.{get_or-map, get_or-set_other, get_or-set_same, get_or_append_left, get_or_at, length-map, length-set, map-set}
use Rattle.std.proofs.lemmas.Nat.{div-add-mod', mod-mul-add}
use Rattle.std.proofs.lemmas.Option.{get_or_from_slice_get, slice_get-get_or, slice_get_past, slice_get_within}
use Rattle.std.specs.List.{All}
use Rattle.std.specs.Prelude.{slice_get}
use Rattle.tally_cli.specs.declared.running.files.FileCount.{FileCount}
use Rattle.tally_cli.specs.inside.Files.{IsPlaced, count_in, count_of, file_in}
use Rattle.tally_cli.proofs.Dealt.{all_empty}

more_times : (b n : ℕ) → (b + 1) * n ≡ b * n + n
more_times b n = omega arith

between : (a b n : ℕ) → 0 < n → b * n ≤ a * n → a * n < b * n + n → a ≡ b
between a b n some least most =
    let more : b ≤ a = le_of_mul-le-mul_right least some in
    ⊎_elim
    (λ (l : b < a). absurd (omega (arith, most, more_times b n, mul-le-mul_right {m = b + 1} {n = a} n (omega (arith, l)))))
    (λ (l : a ≤ b). omega (arith, more, l))
    (cases_lt b a)

-- how many files each feeder has, after so many were dealt
pub record AreLong {X : Type 0} (n host : ℕ) (lists : List (List X)) : Type 0 where
  pub least : (w : ℕ) → w < n → host ≤ length (get_or lists w []) * n + w
  pub most : (w : ℕ) → w < n → length (get_or lists w []) * n + w < host + n

module _ {I S F : Type 0} (n : ℕ) (some : 0 < n) (lists : List (List (FileCount I S F))) (host : ℕ) (file : FileCount I S F) (width : length lists ≡ n) (long : AreLong n host lists) where
  abbrev w : ℕ
  w = host % n

  abbrev row : List (FileCount I S F)
  row = get_or lists w []

  abbrev pub dealt : List (List (FileCount I S F))
  dealt = set lists w (row ++ file ∷ [])

  in_turn : w < n
  in_turn = mod-lt host {m = n} some

  near : w < length lists
  near = omega (arith, in_turn, width)

  row_length : length row ≡ host / n
  row_length = between (length row) (host / n) n some (omega (arith, long.least w in_turn, div-add-mod' host n)) (omega (arith, long.most w in_turn, div-add-mod' host n))

  here : get_or dealt w [] ≡ row ++ file ∷ []
  here = get_or-set_same lists w (row ++ file ∷ []) [] near

  -- the next file stands where it is looked for
  pub next_dealt : file_in n dealt host ≡ Some file
  next_dealt =
      ap (λ l. slice_get l (host / n)) here
      ∙ slice_get-get_or (row ++ file ∷ []) (host / n) file (omega (arith, row_length, length-append row (file ∷ [])))
      ∙ ap Some (get_or_at row file [] file (host / n) row_length)

  -- and those before it too
  pub still_dealt : (k : ℕ) (x : FileCount I S F) → file_in n lists k ≡ Some x → file_in n dealt k ≡ Some x
  still_dealt k x is = ⊎_elim
      (λ (same : k % n ≡ w).
      let own : slice_get row (k / n) ≡ Some x = ap (λ v. slice_get (get_or lists v []) (k / n)) (sym same) ∙ is in
      let within : k / n < length row = slice_get_within row (k / n) x own in
      ap (λ v. slice_get (get_or dealt v []) (k / n)) same ∙ ap (λ l. slice_get l (k / n)) here
      ∙ slice_get-get_or (row ++ file ∷ []) (k / n) x (omega (arith, within, length-append row (file ∷ [])))
      ∙ ap Some (get_or_append_left row (file ∷ []) x (k / n) within ∙ get_or_from_slice_get row (k / n) x x own))
      (λ (apart : k % n ≢ w). ap (λ l. slice_get l (k / n)) (get_or-set_other lists w (k % n) (row ++ file ∷ []) [] apart) ∙ is)
      (cases_eq (k % n) w)

  longer : (v : ℕ) → v < n → (host + 1 ≤ length (get_or dealt v []) * n + v) × (length (get_or dealt v []) * n + v < host + 1 + n)
  longer v turn = ⊎_elim
      (λ (same : v ≡ w).
      let count : length (get_or dealt v []) ≡ host / n + 1 = ap (λ u. length (get_or dealt u [])) same ∙ ap length here ∙ length-append row (file ∷ []) ∙ ap (λ m. m + 1) row_length in
      let times : length (get_or dealt v []) * n ≡ host / n * n + n = ap (λ m. m * n) count ∙ more_times (host / n) n in
      (omega (arith, times, same, div-add-mod' host n, some), omega (arith, times, same, div-add-mod' host n)))
      (λ (apart : v ≢ w).
      let same : length (get_or dealt v []) ≡ length (get_or lists v []) = ap length (get_or-set_other lists w v (row ++ file ∷ []) [] apart) in
      let times : length (get_or dealt v []) * n ≡ length (get_or lists v []) * n = ap (λ m. m * n) same in
      let other : length (get_or lists v []) * n + v ≢ host = λ is. apart (sym (mod-mul-add (length (get_or lists v [])) n v turn) ∙ ap (λ m. m % n) is) in
      (omega (arith, times, other, long.least v turn), omega (arith, times, long.most v turn)))
      (cases_eq v w)

  pub long_dealt : AreLong n (host + 1) dealt
  long_dealt = record { least = λ v turn. (longer v turn).0; most = λ v turn. (longer v turn).1 }

-- one place of a row is written
module _ {I S F : Type 0} (n : ℕ) (some : 0 < n) (lists : List (List (FileCount I S F))) (width : length lists ≡ n) (host : ℕ) (placed : IsPlaced n lists host) (file : FileCount I S F) where
  abbrev v : ℕ
  v = host % n

  abbrev old_row : List (FileCount I S F)
  old_row = get_or lists v []

  abbrev pub written : List (List (FileCount I S F))
  written = set lists v (set old_row (host / n) file)

  near_row : v < length lists
  near_row = omega (arith, mod-lt host {m = n} some, width)

  new_row : get_or written v [] ≡ set old_row (host / n) file
  new_row = get_or-set_same lists v (set old_row (host / n) file) [] near_row

  same_place : (k : ℕ) → k % n ≡ v → k / n ≡ host / n → k ≡ host
  same_place k row place = sym (div-add-mod' k n) ∙ (λ i. place i * n + row i) ∙ div-add-mod' host n

  same_length : (u : ℕ) → length (get_or written u []) ≡ length (get_or lists u [])
  same_length u = ⊎_elim
      (λ (same : u ≡ v). ap (λ x. length (get_or written x [])) same ∙ ap length new_row ∙ length-set old_row (host / n) file ∙ ap (λ x. length (get_or lists x [])) (sym same))
      (λ (apart : u ≢ v). ap length (get_or-set_other lists v u (set old_row (host / n) file) [] apart))
      (cases_eq u v)

  pub placed_still : (k : ℕ) → IsPlaced n lists k → IsPlaced n written k
  placed_still k within = omega (arith, within, same_length (k % n))

  pub others_still : (k : ℕ) → k ≢ host → count_in n written k ≡ count_in n lists k
  others_still k other = ⊎_elim
      (λ (same : k % n ≡ v).
      let apart : k / n ≢ host / n = λ place. other (same_place k same place) in
      ap (λ u. count_of (slice_get (get_or written u []) (k / n))) same ∙ ap (λ l. count_of (slice_get l (k / n))) new_row
      ∙ ap count_of (kept (set old_row (host / n) file) old_row (k / n) (length-set old_row (host / n) file) (λ d. get_or-set_other old_row (host / n) (k / n) file d apart))
      ∙ ap (λ u. count_of (slice_get (get_or lists u []) (k / n))) (sym same))
      (λ (apart : k % n ≢ v). ap (λ l. count_of (slice_get l (k / n))) (get_or-set_other lists v (k % n) (set old_row (host / n) file) [] apart))
      (cases_eq (k % n) v)
    where
      kept : (xs ys : List (FileCount I S F)) (i : ℕ) → length xs ≡ length ys → ((d : FileCount I S F) → get_or xs i d ≡ get_or ys i d) → slice_get xs i ≡ slice_get ys i
      kept xs ys i long same = ⊎_elim
          (λ (l : i < length xs). slice_get-get_or xs i file l ∙ ap Some (same file) ∙ sym (slice_get-get_or ys i file (omega (arith, l, long))))
          (λ (past : length xs ≤ i). slice_get_past xs i past ∙ sym (slice_get_past ys i (omega (arith, past, long))))
          (cases_lt i (length xs))

-- no file was dealt yet
pub none_long : {V X : Type 0} (f : V → List X) (vs : List V) (n : ℕ) → 0 < n → length vs ≡ n → All (λ v. f v ≡ []) vs → AreLong n 0 (map f vs)
none_long {V} {X} f vs n some width empty = record {
  least = λ w turn. omega arith;
  most = λ w turn.
      let none : get_or (map f vs) w [] ≡ [] = all_empty (λ (l : List X). l ≡ []) f vs refl empty w [] (omega (arith, turn, width, length-map vs f)) in
      omega (arith, turn, ap (λ (l : List X). length l * n) none);
}

-- a place of one of the lists is written
pub place_written : {I S F V : Type 0} (f : V → List (FileCount I S F)) (vs : List V) (w r : ℕ) (v v' : V) (x : FileCount I S F) → w < length vs → v ≡ get_or vs w v → f v' ≡ set (f v) r x
    → map f (set vs w v') ≡ set (map f vs) w (set (get_or (map f vs) w []) r x)
place_written f vs w r v v' x near is more =
    map-set f vs w v' ∙ ap (λ l. set (map f vs) w l) (more ∙ ap (λ l. set l r x) (ap f is ∙ sym (get_or-map f vs w v [] near)))
