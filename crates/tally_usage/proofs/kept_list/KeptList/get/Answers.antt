use Rattle.std.proofs.Common.{◌∙◌, ◌-◌, ◌*◌, ◌%◌, ap, arith, slice_get, sym}
use Rattle.tally_usage.specs.Kept.{Kept}
use Rattle.tally_usage.proofs.BlockLemmas.{after_blocks, in_block}
use Rattle.tally_usage.proofs.kept_list.KeptList.get.Goals as goal

pub returns-then-block-len : goal.returns-then-block-len
returns-then-block-len c =
    let k = c.self.inside in
    let block = c.index.result.now in
    c.entry_at.ensures ∙ ap (λ xs. slice_get xs (c.args.index % 4096)) c.as_slice.ensures.value ∙ ap (λ v. slice_get v.items (c.args.index % 4096)) c.index.ensures
    ∙ sym (in_block k.full.items k.last.items c.args.index block c.self.invariant.full (omega (arith, c.if-block-len.true, c.len.ensures, k.full.ok.0)))
    ∙ ap (λ (v : Kept). slice_get v.entries c.args.index) c.self.view_is

pub returns : goal.returns
returns c =
    let k = c.self.inside in
    let place = c.args.index - c.len-2.result * 4096 in
    c.entry_at-2.ensures ∙ ap (λ xs. slice_get xs place) c.as_slice-2.ensures.value
    ∙ sym (after_blocks k.full.items k.last.items c.args.index place c.self.invariant.full (omega (arith, c.if-block-len.false, c.len.ensures, c.len-2.ensures, k.full.ok.0)))
    ∙ ap (λ (v : Kept). slice_get v.entries c.args.index) c.self.view_is
