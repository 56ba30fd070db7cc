use Rattle.std.proofs.Common.{◌<◌, ◌≤◌, ℕ, List, Option, arith, length, refl, subst, sym, take}
use Rattle.std.specs.Io.KnownBytes.{Consumes}
use Rattle.std.proofs.lemmas.Result.{err_from_is_err_and}
use Rattle.tally_desk.specs.Blocks.{block_size}
use Rattle.tally_desk.proofs.TurnLemmas.{is_batch, never_read, read_fault, takes_block}
use Rattle.tally_desk.proofs.feeding.block.next_batch.Goals as goal

pub returns-clause-batch : goal.returns-clause-batch
returns-clause-batch g c =
    let filled = c.in_ok-filled.filled in
    let read = c.in_ok-batch.ensures in
    let some : 0 < filled = omega (arith, c.if-filled-eq0.false) in
    let within : filled ≤ length c.deref.result.now = omega (arith, c.in_ok-filled.ensures.bound, c.deref.ensures.len) in
    let few : filled ≤ block_size c.args.kind = omega (arith, c.in_ok-filled.ensures.bound, c.read_block.ensures.ready) in
    is_batch c.args.most c.args.kind c.args.turn c.deref.result.now filled within few c.in_ok-batch.batch some read.whole read.value read.count

pub returns-in_err-batch-clause-reading : goal.returns-in_err-batch-clause-reading
returns-in_err-batch-clause-reading g c =
    let p = err_from_is_err_and c.from_residual-in_err-batch.result c.from_residual-in_err-batch.ensures.1 in
    rw (p.1, p.2) (read_fault _ _ c.in_err-batch.ensures.err)

pub returns-clause-takes : goal.returns-clause-takes
returns-clause-takes g c rest h =
    let filled = c.in_ok-filled.filled in
    let read = c.in_ok-batch.ensures in
    let some : 0 < filled = omega (arith, c.if-filled-eq0.false) in
    let within : filled ≤ length c.deref.result.now = omega (arith, c.in_ok-filled.ensures.bound, c.deref.ensures.len) in
    let few : filled ≤ block_size c.args.kind = omega (arith, c.in_ok-filled.ensures.bound, c.read_block.ensures.ready) in
    let taken = subst (λ (block : List ℕ). Consumes (g.I.Input.to_come c.args.input.now) (g.I.Input.to_come c.read_block.new.input) (take filled block)) (sym c.deref.ensures.value) c.in_ok-filled.ensures.bytes in
    takes_block c.args.most c.args.kind c.args.turn c.deref.result.now filled within few rest _ c.in_ok-batch.batch some
    (subst (λ (before : Option (List ℕ)). Consumes before (g.I.Input.to_come c.read_block.new.input) (take filled c.deref.result.now)) h taken)
    c.in_ok-filled.ensures.end read.good read.value read.count

pub returns-in_err-filled-clause-room : goal.returns-in_err-filled-clause-room
returns-in_err-filled-clause-room g c = c.read_block.ensures.room

pub returns-in_err-filled-clause-ready : goal.returns-in_err-filled-clause-ready
returns-in_err-filled-clause-ready g c = c.read_block.ensures.ready

pub returns-in_err-filled-clause-few : goal.returns-in_err-filled-clause-few
returns-in_err-filled-clause-few g c = c.read_block.ensures.few

pub returns-in_err-filled-clause-nature : goal.returns-in_err-filled-clause-nature
returns-in_err-filled-clause-nature g c = c.read_block.ensures.nature

pub returns-in_err-batch-clause-room : goal.returns-in_err-batch-clause-room
returns-in_err-batch-clause-room g c = c.read_block.ensures.room

pub returns-in_err-batch-clause-ready : goal.returns-in_err-batch-clause-ready
returns-in_err-batch-clause-ready g c = c.read_block.ensures.ready

pub returns-in_err-batch-clause-few : goal.returns-in_err-batch-clause-few
returns-in_err-batch-clause-few g c = c.read_block.ensures.few

pub returns-in_err-batch-clause-nature : goal.returns-in_err-batch-clause-nature
returns-in_err-batch-clause-nature g c = c.read_block.ensures.nature

pub returns-clause-room : goal.returns-clause-room
returns-clause-room g c = c.read_block.ensures.room

pub returns-clause-ready : goal.returns-clause-ready
returns-clause-ready g c = c.read_block.ensures.ready

pub returns-clause-few : goal.returns-clause-few
returns-clause-few g c = c.read_block.ensures.few

pub returns-clause-nature : goal.returns-clause-nature
returns-clause-nature g c = c.read_block.ensures.nature

pub returns-in_err-filled-clause-end : goal.returns-in_err-filled-clause-end
returns-in_err-filled-clause-end g c =
    let p = err_from_is_err_and c.from_residual.result c.from_residual.ensures.1 in
    rw p.1 tt

pub returns-in_err-filled-clause-failures : goal.returns-in_err-filled-clause-failures
returns-in_err-filled-clause-failures g c =
    let p = err_from_is_err_and c.from_residual.result c.from_residual.ensures.1 in
    rw p.1 tt

pub returns-in_err-filled-clause-batch : goal.returns-in_err-filled-clause-batch
returns-in_err-filled-clause-batch g c =
    let p = err_from_is_err_and c.from_residual.result c.from_residual.ensures.1 in
    rw p.1 tt

pub returns-in_err-filled-clause-takes : goal.returns-in_err-filled-clause-takes
returns-in_err-filled-clause-takes g c =
    let p = err_from_is_err_and c.from_residual.result c.from_residual.ensures.1 in
    rw p.1 tt

pub returns-in_err-filled-clause-reading : goal.returns-in_err-filled-clause-reading
returns-in_err-filled-clause-reading g c =
    let p = err_from_is_err_and c.from_residual.result c.from_residual.ensures.1 in
    rw (p.1, p.2) tt

pub returns-in_err-filled-clause-place : goal.returns-in_err-filled-clause-place
returns-in_err-filled-clause-place g c =
    let p = err_from_is_err_and c.from_residual.result c.from_residual.ensures.1 in
    rw (p.1, p.2) tt

pub returns-in_err-filled-clause-stops : goal.returns-in_err-filled-clause-stops
returns-in_err-filled-clause-stops g c =
    let p = err_from_is_err_and c.from_residual.result c.from_residual.ensures.1 in
    rw (p.1, p.2) (λ rest told. tt)

pub returns-in_err-filled-clause-unfailed : goal.returns-in_err-filled-clause-unfailed
returns-in_err-filled-clause-unfailed g c =
    let p = err_from_is_err_and c.from_residual.result c.from_residual.ensures.1 in
    rw (p.1, p.2) (λ other. absurd (other refl))

pub returns-in_err-filled-clause-read : goal.returns-in_err-filled-clause-read
returns-in_err-filled-clause-read g c =
    let p = err_from_is_err_and c.from_residual.result c.from_residual.ensures.1 in
    rw (p.1, p.2) (λ is. (c.in_err-filled.ensures.err, c.in_err-filled.ensures.cause))

pub returns-in_err-batch-clause-end : goal.returns-in_err-batch-clause-end
returns-in_err-batch-clause-end g c =
    let p = err_from_is_err_and c.from_residual-in_err-batch.result c.from_residual-in_err-batch.ensures.1 in
    rw p.1 tt

pub returns-in_err-batch-clause-failures : goal.returns-in_err-batch-clause-failures
returns-in_err-batch-clause-failures g c =
    let p = err_from_is_err_and c.from_residual-in_err-batch.result c.from_residual-in_err-batch.ensures.1 in
    rw p.1 tt

pub returns-in_err-batch-clause-batch : goal.returns-in_err-batch-clause-batch
returns-in_err-batch-clause-batch g c =
    let p = err_from_is_err_and c.from_residual-in_err-batch.result c.from_residual-in_err-batch.ensures.1 in
    rw p.1 tt

pub returns-in_err-batch-clause-takes : goal.returns-in_err-batch-clause-takes
returns-in_err-batch-clause-takes g c =
    let p = err_from_is_err_and c.from_residual-in_err-batch.result c.from_residual-in_err-batch.ensures.1 in
    rw p.1 tt

pub returns-in_err-batch-clause-read : goal.returns-in_err-batch-clause-read
returns-in_err-batch-clause-read g c =
    let p = err_from_is_err_and c.from_residual-in_err-batch.result c.from_residual-in_err-batch.ensures.1 in
    rw (p.1, p.2) (never_read _ _ c.in_err-batch.ensures.err)

pub returns-in_err-batch-clause-unfailed : goal.returns-in_err-batch-clause-unfailed
returns-in_err-batch-clause-unfailed g c =
    let p = err_from_is_err_and c.from_residual-in_err-batch.result c.from_residual-in_err-batch.ensures.1 in
    rw (p.1, p.2) (λ other. c.in_ok-filled.ensures.ok)

pub returns-in_err-batch-clause-place : goal.returns-in_err-batch-clause-place
returns-in_err-batch-clause-place g c =
    let p = err_from_is_err_and c.from_residual-in_err-batch.result c.from_residual-in_err-batch.ensures.1 in
    rw (p.1, p.2) c.in_err-batch.ensures.place

pub returns-clause-failures : goal.returns-clause-failures
returns-clause-failures g c = c.in_ok-filled.ensures.ok

pub returns-clause-read : goal.returns-clause-read
returns-clause-read g c = tt

pub returns-clause-unfailed : goal.returns-clause-unfailed
returns-clause-unfailed g c = tt

pub returns-clause-reading : goal.returns-clause-reading
returns-clause-reading g c = tt

pub returns-clause-place : goal.returns-clause-place
returns-clause-place g c = tt

pub returns-clause-stops : goal.returns-clause-stops
returns-clause-stops g c = tt
