use Rattle.std.proofs.Common.{◌≡◌, ◌∙◌, ◌++◌, IfOk, List, ℕ, ap, arith, drop, length, subst, sym, take}
use Rattle.std.proofs.lemmas.Result.{err_from_is_err_and}
use Rattle.std.specs.Io.KnownBytes.{Consumes}
use Rattle.tally_desk.proofs.Fills.{filled_on, written_back}
use Rattle.tally_desk.proofs.TakeLemmas.{takes_more}
use Rattle.tally_desk.proofs.feeding.filling.fill_block.Goals as goal

pub returns-clause-bytes : goal.returns-clause-bytes
returns-clause-bytes g c =
    let first = c.in_ok-filled.ensures in
    let rest = c.fill_rest.ensures in
    let before = c.args.block.now in
    let ready = c.make_ready.new.block in
    let first_long : length c.fill.new.block ≡ before.len = c.fill.auto.block ∙ c.as_mut_slice.ensures.len in
    let rest_long : length c.fill_rest.new.block ≡ ready.len = c.fill_rest.auto.block ∙ c.as_mut_slice-2.ensures.len in
    let first_back : take before.len (c.fill.new.block ++ drop (length c.fill.new.block) before.items) ≡ c.fill.new.block = written_back before.len c.fill.new.block before.items first_long (sym before.ok.0) in
    let rest_back : take ready.len (c.fill_rest.new.block ++ drop (length c.fill_rest.new.block) ready.items) ≡ c.fill_rest.new.block = written_back ready.len c.fill_rest.new.block ready.items rest_long (sym ready.ok.0) in
    let filled = c.in_ok-filled.filled in
    let kept : take filled c.fill_rest.new.block ≡ take filled c.fill.new.block = rest.kept ∙ ap (take filled) c.as_mut_slice-2.ensures.value ∙ c.make_ready.ensures.kept ∙ ap (take filled) first_back in
    subst (λ (all : List ℕ). IfOk c.fill_rest.result (λ n. Consumes (g.I.Input.to_come c.args.input.now) (g.I.Input.to_come c.fill_rest.new.input) (take n all))) (sym rest_back)
    (filled_on c.fill_rest.result _ _ _ filled c.fill.new.block c.fill_rest.new.block first.bytes kept rest.first rest.bytes)

pub returns-clause-few : goal.returns-clause-few
returns-clause-few g c =
    let first_long : length c.fill.new.block ≡ c.args.block.now.len = c.fill.auto.block ∙ c.as_mut_slice.ensures.len in
    let rest_long : length c.fill_rest.new.block ≡ c.make_ready.new.block.len = c.fill_rest.auto.block ∙ c.as_mut_slice-2.ensures.len in
    takes_more _ _ c.args.size _ _ _ c.in_ok-filled.ensures.few c.fill_rest.ensures.few (omega (arith, first_long, rest_long, c.if-filled-len.false, c.make_ready.ensures.ready, c.in_ok-filled.ensures.bound))

pub returns-in_err-filled-clause-bound : goal.returns-in_err-filled-clause-bound
returns-in_err-filled-clause-bound g c =
    let p = err_from_is_err_and c.from_residual.result c.from_residual.ensures.1 in
    rw p.1 tt

pub returns-in_err-filled-clause-bytes : goal.returns-in_err-filled-clause-bytes
returns-in_err-filled-clause-bytes g c =
    let p = err_from_is_err_and c.from_residual.result c.from_residual.ensures.1 in
    rw p.1 tt

pub returns-in_err-filled-clause-end : goal.returns-in_err-filled-clause-end
returns-in_err-filled-clause-end g c =
    let p = err_from_is_err_and c.from_residual.result c.from_residual.ensures.1 in
    rw p.1 tt

pub returns-in_err-filled-clause-ok : goal.returns-in_err-filled-clause-ok
returns-in_err-filled-clause-ok g c =
    let p = err_from_is_err_and c.from_residual.result c.from_residual.ensures.1 in
    rw p.1 tt

pub returns-in_err-filled-clause-nature : goal.returns-in_err-filled-clause-nature
returns-in_err-filled-clause-nature g c = c.fill.ensures.nature

pub returns-in_err-filled-clause-err : goal.returns-in_err-filled-clause-err
returns-in_err-filled-clause-err g c =
    let p = err_from_is_err_and c.from_residual.result c.from_residual.ensures.1 in
    rw p.1 c.in_err-filled.ensures.err

pub returns-in_err-filled-clause-cause : goal.returns-in_err-filled-clause-cause
returns-in_err-filled-clause-cause g c =
    let p = err_from_is_err_and c.from_residual.result c.from_residual.ensures.1 in
    rw p.1 c.in_err-filled.ensures.cause

pub returns-clause-nature : goal.returns-clause-nature
returns-clause-nature g c = c.fill_rest.ensures.nature ∙ c.fill.ensures.nature
