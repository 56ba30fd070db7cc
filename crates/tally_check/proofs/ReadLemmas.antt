-- A file that is read by blocks.
use Rattle.std.proofs.Common.{◌≡◌, ◌∙◌, ℕ, ◌+◌, ◌-◌, ◌%◌, ◌≤◌, Bool, true, false, List, [], ◌++◌, Option, Some, None, IfSome, length, take, slice_range, ap, sym, refl, arith, append-nil, length-take-le, drop_at}
use Rattle.std.proofs.KnownBytes.{Consumes-trans}
use Rattle.std.specs.Io.KnownBytes.{Consumes, IsAtEnd}
use Rattle.tally_check.specs.Kinds.{most_bytes}
use Rattle.tally_check.specs.declared.tally.Tally.{Tally}
use Rattle.tally_check.specs.declared.tally.TheConstants.{BLOCK_SIZE}
use Rattle.tally_check.specs.inside.Reading.{IsCounted, IsWhole}
use Rattle.tally_check.specs.inside.Tallies.{IsTallyOf}
use Rattle.tally_sessions.specs.State.{State}
use borrow.Rule.Slice.PartMut.{put_mid, post_of}
use lib.Seq.{take-add, take-append-le}

-- the part of a buffer before `a` stays, and that from `a` to `b` joins it
pub take_split : (a b : ℕ) (old new : List ℕ) → a ≤ b → take a new ≡ take a old → take a old ++ slice_range new a b ≡ take b new
take_split a b old new h front =
    let same : a + (b - a) ≡ b = omega arith in
    ap (λ l. l ++ slice_range new a b) (sym front) ∙ sym (take-add a (b - a) new) ∙ ap (λ n. take n new) same

-- what was written into the middle of a buffer
pub slice_range-put_mid : (a k n : ℕ) (xs ys : List ℕ) → a ≤ length xs → n ≤ length ys → slice_range (put_mid a k xs ys) a (a + n) ≡ take n ys
slice_range-put_mid a k n xs ys within fits =
    let same : (a + n) - a ≡ n = omega arith in
    let after = post_of a k xs in
    ap (take ((a + n) - a)) (drop_at (take a xs) (ys ++ after) a (length-take-le a xs within)) ∙ ap (λ m. take m (ys ++ after)) same ∙ take-append-le n ys after fits

-- ---- blocks that were counted

-- these bytes were taken and counted: all are full blocks, unless the last one was
pub record SoFar (before after : Option (List ℕ)) (tally : Tally) (kept : State) (is_last : Bool) : Type 0 where
  pub bytes : List ℕ
  pub taken : Consumes before after bytes
  pub counted : IsTallyOf bytes tally kept
  pub few : tally.size ≤ most_bytes tally.guess
  pub full : is_last ≡ false → tally.size % BLOCK_SIZE ≡ 0
  pub end : is_last ≡ true → IsAtEnd after

consumes-none : (a : Option (List ℕ)) → Consumes a a []
consumes-none None = tt
consumes-none (Some xs) = refl

pub begins : (a : Option (List ℕ)) (tally : Tally) (kept : State) → IsTallyOf [] tally kept → SoFar a a tally kept false
begins a tally kept new = record {
  bytes = [];
  taken = consumes-none a;
  counted = new;
  few = omega (arith, new.size);
  full = λ is. omega (arith, new.size);
  end = λ is. absurd (false-is-not-true is);
}
  where
    false-is-not-true : false ≡ true → ⊥
    false-is-not-true is = cc

pub goes-on : (a b c : Option (List ℕ)) (old : Tally) (kept : State) (new : Tally) (kept_now : State) (is_last : Bool) → SoFar a b old kept false → IsCounted b c old kept new kept_now is_last → SoFar a c new kept_now is_last
goes-on a b c old kept new kept_now is_last so_far counted = record {
  bytes = so_far.bytes ++ counted.block;
  taken = Consumes-trans a b c so_far.bytes counted.block so_far.taken counted.taken;
  counted = counted.counted so_far.bytes so_far.counted;
  few = counted.few;
  full = λ is. omega (arith, counted.size, counted.full is, so_far.full refl);
  end = counted.end;
}

all_taken : (a b : Option (List ℕ)) (bytes : List ℕ) → Consumes a b bytes → IsAtEnd b → IfSome a (λ xs. xs ≡ bytes)
all_taken None b bytes taken end = tt
all_taken (Some xs) None bytes taken end = absurd taken
all_taken (Some xs) (Some ys) bytes taken end = taken ∙ ap (λ l. bytes ++ l) end ∙ append-nil bytes

pub ends : (a b : Option (List ℕ)) (tally : Tally) (kept : State) (is_last : Bool) → SoFar a b tally kept is_last → is_last ≡ true → IsWhole a tally kept
ends a b tally kept is_last so_far last = record {
  bytes = so_far.bytes;
  all = all_taken a b so_far.bytes so_far.taken (so_far.end last);
  counted = so_far.counted;
  few = omega (arith, so_far.few, so_far.counted.size);
}
