use Rattle.std.proofs.Common.{List, ℕ, ◌++◌, ap, length}
use Rattle.std.proofs.lemmas.List.{drop-replicate}
use Rattle.tally_print.proofs.text.laid_out.Goals as goal

pub returns : goal.returns
returns c =
    let text = c.args.text.now in
    rw c.copy_from_slice.ensures.after (ap (λ (rest : List ℕ). text ++ rest) (drop-replicate (length text) 32 32))
