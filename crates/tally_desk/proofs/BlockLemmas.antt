-- The blocks of an input, one after another.
use Rattle.std.proofs.Common.{◌≡◌, ◌∙◌, ◌<◌, ◌+◌, ◌%◌, ℕ, List, [], ◌∷◌, Option, Some, None, map, take, drop, length, ap, refl, arith}
use Rattle.std.specs.Prelude.{is_none, slice_get}
use Rattle.std.specs.List.{enumerate_from, filter_map, take_while}
use Rattle.std.proofs.lemmas.List.Sums.{take_while-cons}
use Rattle.tally_desk.specs.Batches.{record_size}
use Rattle.tally_records.specs.declared.batch.Kind.{Kind}
use Rattle.tally_records.specs.declared.batch.Kind.TheVariants.{Login, FailedLogin, Proc}
use Rattle.tally_desk.proofs.Pieces.{pieces-more, pieces-nil}
use Rattle.tally_desk.specs.Blocks.{block_fault, block_size, blocks}
use Rattle.tally_desk.specs.declared.fault.FeedFault.{FeedFault}

-- the first fault of blocks that are numbered from `index`, and the blocks before it
abbrev pub first_fault_of : ℕ → Kind → ℕ → List (ℕ × List ℕ) → Option FeedFault
first_fault_of most kind total numbered = slice_get (filter_map (block_fault most kind total) numbered) 0

abbrev pub good_of : ℕ → Kind → ℕ → List (ℕ × List ℕ) → List (List ℕ)
good_of most kind total numbered = map (λ n. n.1) (take_while (λ n. is_none (block_fault most kind total n)) numbered)

abbrev pub first_fault_from : ℕ → Kind → ℕ → ℕ → List ℕ → Option FeedFault
first_fault_from most kind total index rest = first_fault_of most kind total (enumerate_from index (blocks kind rest))

abbrev pub good_from : ℕ → Kind → ℕ → ℕ → List ℕ → List (List ℕ)
good_from most kind total index rest = good_of most kind total (enumerate_from index (blocks kind rest))

pub block_size_some : (kind : Kind) → 0 < block_size kind
block_size_some Login = omega arith
block_size_some FailedLogin = omega arith
block_size_some Proc = omega arith

pub block_size_whole : (kind : Kind) → block_size kind % record_size kind ≡ 0
block_size_whole Login = refl
block_size_whole FailedLogin = refl
block_size_whole Proc = refl

more : (kind : Kind) (rest : List ℕ) → 0 < length rest → blocks kind rest ≡ take (block_size kind) rest ∷ blocks kind (drop (block_size kind) rest)
more kind rest some = pieces-more (block_size kind) rest (block_size_some kind) some

module _ (most : ℕ) (kind : Kind) (total index : ℕ) (rest : List ℕ) where
  pub fault-end : rest ≡ [] → first_fault_from most kind total index rest ≡ None
  fault-end none = ap (λ r. first_fault_from most kind total index r) none ∙ ap (λ bs. first_fault_of most kind total (enumerate_from index bs)) (pieces-nil (block_size kind))

  pub good-end : rest ≡ [] → good_from most kind total index rest ≡ []
  good-end none = ap (λ r. good_from most kind total index r) none ∙ ap (λ bs. good_of most kind total (enumerate_from index bs)) (pieces-nil (block_size kind))

  pub fault-here : (f : FeedFault) → 0 < length rest → block_fault most kind total (index, take (block_size kind) rest) ≡ Some f
      → first_fault_from most kind total index rest ≡ Some f
  fault-here f some bad = ap (λ bs. first_fault_of most kind total (enumerate_from index bs)) (more kind rest some) ∙ rw bad refl

  pub good-here : (f : FeedFault) → 0 < length rest → block_fault most kind total (index, take (block_size kind) rest) ≡ Some f
      → good_from most kind total index rest ≡ []
  good-here f some bad = ap (λ bs. good_of most kind total (enumerate_from index bs)) (more kind rest some) ∙ rw bad refl

  pub fault-later : 0 < length rest → block_fault most kind total (index, take (block_size kind) rest) ≡ None
      → first_fault_from most kind total index rest ≡ first_fault_from most kind total (index + 1) (drop (block_size kind) rest)
  fault-later some good = ap (λ bs. first_fault_of most kind total (enumerate_from index bs)) (more kind rest some) ∙ rw good refl

  pub good-later : 0 < length rest → block_fault most kind total (index, take (block_size kind) rest) ≡ None
      → good_from most kind total index rest ≡ take (block_size kind) rest ∷ good_from most kind total (index + 1) (drop (block_size kind) rest)
  good-later some good =
      ap (λ bs. good_of most kind total (enumerate_from index bs)) (more kind rest some)
      ∙ ap (map (λ (n : ℕ × List ℕ). n.1)) (take_while-cons (λ n. is_none (block_fault most kind total n)) (index, take (block_size kind) rest) (enumerate_from (index + 1) (blocks kind (drop (block_size kind) rest))))
      ∙ rw good refl

-- of whole records, the fault does not depend on the size of the input
pub any_total : (most : ℕ) (kind : Kind) (m n : ℕ) (numbered : ℕ × List ℕ) → length numbered.1 % record_size kind ≡ 0
    → block_fault most kind m numbered ≡ block_fault most kind n numbered
any_total most kind m n numbered whole = rw whole refl
