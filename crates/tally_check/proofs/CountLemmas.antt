-- Counts, one record more.
use Rattle.std.proofs.Common.{◌≡◌, ℕ, suc, ◌+◌, ◌<◌, ◌^◌, Bool, true, false, cond, not, List, [], ◌∷◌, ◌++◌, length, Option, Some, None, refl, ap, ◌∙◌, sym, arith, ℤ}
use Rattle.std.proofs.lemmas.Bool.Decides.{nat_tests}
use Rattle.std.proofs.lemmas.List.{length-append, reverse-append}
use Rattle.std.proofs.lemmas.List.Elements.{filter_map-append}
use Rattle.std.proofs.lemmas.List.Sums.{count_by-le-length, fold-append, suffix_len-le-length}
use Rattle.std.specs.List.{count_by, filter_map, position, position_or_len, prefix_len, suffix_len}
use Rattle.std.specs.Option.{option_or}
use Rattle.std.specs.Prelude.{nat_lt, option_map}
use Rattle.tally_check.specs.Counts.{counts_of, span_in, span_of, time_of, times_of, widened}
use Rattle.tally_check.specs.Findings.{types_in}
use Rattle.tally_check.specs.Seen.{is_of_kind, is_unknown, is_zeros}
use Rattle.tally_check.specs.declared.counts.Span.{Span}
use Rattle.tally_check.specs.declared.seen.Seen.{Seen}
use Rattle.tally_check.specs.declared.seen.Seen.TheVariants.{Zeros, Unknown, Known}
use Rattle.tally_check.specs.inside.Notes.{AreFew, with_found, with_seen, with_type}
use Rattle.tally_check.specs.inside.Spans.{with_one}

pub count-push : {X : Type 0} (p : X → Bool) (xs : List X) (x : X) → count_by p (xs ++ x ∷ []) ≡ count_by p xs + cond (p x) 1 0
count-push p xs x = fold-append (λ (a : ℕ) x. a + cond (p x) 1 0) 0 xs (x ∷ [])

-- ---- the place of the first

module _ {X : Type 0} (p : X → Bool) where
  place-cons : (y : X) (ys : List X) → position p (y ∷ ys) ≡ cond (p y) (Some 0) (option_map (λ n. 1 + n) (position p ys))
  place-cons y ys = by (p y)
    where
      first : (m : ℕ) → nat_lt 0 (suc m) ≡ true
      first m = grind (arith, nat_tests)

      same : (n m : ℕ) → nat_lt (1 + n) (suc m) ≡ nat_lt n m
      same n m = grind (arith, nat_tests)

      later : (within : Bool) (n : ℕ) → cond within (Some (1 + n)) None ≡ option_map (λ n. 1 + n) (cond within (Some n) None)
      later true n = refl
      later false n = refl

      by : (b : Bool) → cond (nat_lt (cond (not b) (1 + position_or_len p ys) 0) (suc (length ys))) (Some (cond (not b) (1 + position_or_len p ys) 0)) None ≡ cond b (Some 0) (option_map (λ n. 1 + n) (position p ys))
      by true = ap (λ (c : Bool). cond c (Some 0) None) (first (length ys))
      by false = ap (λ (c : Bool). cond c (Some (1 + position_or_len p ys)) None) (same (position_or_len p ys) (length ys)) ∙ later (nat_lt (position_or_len p ys) (length ys)) (position_or_len p ys)

  place-push : (xs : List X) (x : X) → position p (xs ++ x ∷ []) ≡ option_or (position p xs) (cond (p x) (Some (length xs)) None)
  place-push [] x = place-cons x []
  place-push (y ∷ ys) x =
      place-cons y (ys ++ x ∷ []) ∙ ap (λ (o : Option ℕ). cond (p y) (Some 0) (option_map (λ n. 1 + n) o)) (place-push ys x)
      ∙ by (p y) (position p ys) (p x) ∙ ap (λ (o : Option ℕ). option_or o (cond (p x) (Some (suc (length ys))) None)) (sym (place-cons y ys))
    where
      one : (n : ℕ) → 1 + n ≡ suc n
      one n = omega arith

      by : (b : Bool) (o : Option ℕ) (c : Bool) → cond b (Some 0) (option_map (λ n. 1 + n) (option_or o (cond c (Some (length ys)) None))) ≡ option_or (cond b (Some 0) (option_map (λ n. 1 + n) o)) (cond c (Some (suc (length ys))) None)
      by true o c = refl
      by false (Some n) c = refl
      by false None true = ap (λ (n : ℕ). Some n) (one (length ys))
      by false None false = refl

  found-push : (xs : List X) (x : X) → record { count = count_by p (xs ++ x ∷ []); first = position p (xs ++ x ∷ []) } ≡ with_found (record { count = count_by p xs; first = position p xs }) (p x) (length xs)
  found-push xs x = (λ i. record { count = count-push p xs x i; first = place-push xs x i }) ∙ by (p x) (count_by p xs) (position p xs)
    where
      by : (b : Bool) (n : ℕ) (o : Option ℕ) → record { count = n + cond b 1 0; first = option_or o (cond b (Some (length xs)) None) } ≡ with_found (record { count = n; first = o }) b (length xs)
      by true n o = refl
      by false n None = (let same : n + 0 ≡ n = omega arith in ap (λ (m : ℕ). record { count = m; first = None }) same)
      by false n (Some at) = (let same : n + 0 ≡ n = omega arith in ap (λ (m : ℕ). record { count = m; first = Some at }) same)

  -- how many stand at the end
  end-push : (xs : List X) (x : X) → suffix_len p (xs ++ x ∷ []) ≡ cond (p x) (suffix_len p xs + 1) 0
  end-push xs x = ap (prefix_len p) (reverse-append xs (x ∷ [])) ∙ by (p x) (suffix_len p xs)
    where
      by : (b : Bool) (n : ℕ) → cond b (1 + n) 0 ≡ cond b (n + 1) 0
      by true n = omega arith
      by false n = refl

-- ---- the span

one_more : (times : List ℤ) (x : Seen) → span_in (times ++ filter_map time_of (x ∷ [])) ≡ with_one (span_in times) x
one_more times Zeros = fold-append (λ (s : Option Span) (t : ℤ). Some (widened s t)) None times []
one_more times Unknown = fold-append (λ (s : Option Span) (t : ℤ). Some (widened s t)) None times []
one_more times (Known kind time) = fold-append (λ (s : Option Span) (t : ℤ). Some (widened s t)) None times (time ∷ [])

span-push : (xs : List Seen) (x : Seen) → span_of (xs ++ x ∷ []) ≡ with_one (span_of xs) x
span-push xs x = ap span_in (filter_map-append time_of xs (x ∷ [])) ∙ one_more (times_of xs) x

-- ---- all counts

pub counts-push : (xs : List Seen) (x : Seen) → counts_of (xs ++ x ∷ []) ≡ with_seen (counts_of xs) x
counts-push xs x = λ i. record {
  records = length-append xs (x ∷ []) i;
  zeros = record { all = found-push is_zeros xs x i; at_end = end-push is_zeros xs x i };
  unknown = found-push is_unknown xs x i;
  span = span-push xs x i;
}

pub types-push : (xs : List Seen) (x : Seen) → types_in (xs ++ x ∷ []) ≡ with_type (types_in xs) x
types-push xs x = λ i.
    count-push (is_of_kind 0) xs x i
    ∷ count-push (is_of_kind 1) xs x i
    ∷ count-push (is_of_kind 2) xs x i
    ∷ count-push (is_of_kind 3) xs x i
    ∷ count-push (is_of_kind 4) xs x i
    ∷ count-push (is_of_kind 5) xs x i
    ∷ count-push (is_of_kind 6) xs x i
    ∷ count-push (is_of_kind 7) xs x i
    ∷ count-push (is_of_kind 8) xs x i
    ∷ count-push (is_of_kind 9) xs x i
    ∷ []

-- no more than there are records
pub few-counts : (xs : List Seen) → length xs < 2 ^ 60 → AreFew (counts_of xs)
few-counts xs few = record {
  records = few;
  zeros = omega (arith, few, count_by-le-length is_zeros xs);
  at_end = omega (arith, few, suffix_len-le-length is_zeros xs);
  unknown = omega (arith, few, count_by-le-length is_unknown xs);
}
