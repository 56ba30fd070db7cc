use Rattle.std.proofs.Common.{◌∙◌, ◌+◌, ◌-◌, ◌++◌, ℕ, ap, arith, le_refl, length, rules, subst, sym, take}
use Rattle.std.proofs.KnownBytes.{Consumes-trans}
use Rattle.std.proofs.lemmas.Result.{err_from_is_err_and}
use Rattle.std.proofs.lemmas.Slice.{take-put_mid_below}
use Rattle.std.specs.Io.KnownBytes.{Consumes}
use Rattle.tally_desk.proofs.Fills.{slice_range-put_mid, take_split}
use borrow.Rule.Slice.PartMut.{put_mid}
use Rattle.tally_desk.proofs.feeding.filling.fill.Goals as goal

pub loop-filled-preserved : goal.loop-filled-preserved
loop-filled-preserved g c =
    let from = c.loop-filled.filled in
    let count = c.in_ok-count.count in
    let block = c.loop-filled.block in
    let room = length block - from in
    let within = c.loop-filled.invariant.within in
    let part = slice_range-put_mid from room count block c.take.new.buf within c.in_ok-count.ensures.bound.0 in
    let joined = take_split from (from + count) block (put_mid from room block c.take.new.buf) (omega arith) (take-put_mid_below _ _ _ _ _ (le_refl _) within) in
    record {
      within = search rules;
      taken = subst (Consumes _ _) (ap (λ l. take from block ++ l) (sym part) ∙ joined) (Consumes-trans _ _ _ _ _ c.loop-filled.invariant.taken c.in_ok-count.ensures.bytes.0);
      nature = c.in_ok-count.ensures.nature ∙ c.loop-filled.invariant.nature;
      failures = c.in_ok-count.ensures.ok ∙ c.loop-filled.invariant.failures;
    }

pub returns-in_err-count-clause-bound : goal.returns-in_err-count-clause-bound
returns-in_err-count-clause-bound g c =
    let p = err_from_is_err_and c.from_residual.result c.from_residual.ensures.1 in
    rw p.1 tt

pub returns-in_err-count-clause-bytes : goal.returns-in_err-count-clause-bytes
returns-in_err-count-clause-bytes g c =
    let p = err_from_is_err_and c.from_residual.result c.from_residual.ensures.1 in
    rw p.1 tt

pub returns-in_err-count-clause-end : goal.returns-in_err-count-clause-end
returns-in_err-count-clause-end g c =
    let p = err_from_is_err_and c.from_residual.result c.from_residual.ensures.1 in
    rw p.1 tt

pub returns-in_err-count-clause-ok : goal.returns-in_err-count-clause-ok
returns-in_err-count-clause-ok g c =
    let p = err_from_is_err_and c.from_residual.result c.from_residual.ensures.1 in
    rw p.1 tt

pub returns-in_err-count-clause-nature : goal.returns-in_err-count-clause-nature
returns-in_err-count-clause-nature g c = c.in_err-count.ensures.nature ∙ c.loop-filled.invariant.nature

pub returns-in_err-count-clause-err : goal.returns-in_err-count-clause-err
returns-in_err-count-clause-err g c =
    let p = err_from_is_err_and c.from_residual.result c.from_residual.ensures.1 in
    rw p.1 (c.in_err-count.ensures.err ∙ ap (λ (n : ℕ). n + 1) c.loop-filled.invariant.failures)

pub returns-in_err-count-clause-cause : goal.returns-in_err-count-clause-cause
returns-in_err-count-clause-cause g c =
    let p = err_from_is_err_and c.from_residual.result c.from_residual.ensures.1 in
    rw p.1 (sym c.loop-filled.invariant.nature ∙ c.in_err-count.ensures.cause)

pub returns-clause-bound : goal.returns-clause-bound
returns-clause-bound g c = c.loop-filled.invariant.within

pub returns-clause-bytes : goal.returns-clause-bytes
returns-clause-bytes g c = c.loop-filled.invariant.taken

pub returns-clause-nature : goal.returns-clause-nature
returns-clause-nature g c = c.loop-filled.invariant.nature

pub returns-clause-ok : goal.returns-clause-ok
returns-clause-ok g c = c.loop-filled.invariant.failures

pub returns-clause-err : goal.returns-clause-err
returns-clause-err g c = tt

pub returns-clause-cause : goal.returns-clause-cause
returns-clause-cause g c = tt
