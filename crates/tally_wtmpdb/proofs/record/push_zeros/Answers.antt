use Rattle.std.proofs.Common.{ap, ◌++◌, ◌∙◌, List, ℕ}
use Rattle.std.proofs.lemmas.List.{take-replicate}
use Rattle.std.proofs.lemmas.Result.{on_ok_weaker}
use Rattle.tally_wtmpdb.proofs.Fields.{appended}
use Rattle.tally_wtmpdb.proofs.record.push_zeros.Goals as goal

pub returns : goal.returns
returns c =
    on_ok_weaker c.extend_from_slice.result (λ same. same ∙ ap (λ (z : List ℕ). c.args.out.now.items ++ z) (take-replicate c.args.count 256 0 c.requires))
    (appended c.extend_from_slice.result c.extend_from_slice.new.self.items c.args.out.now.items _ c.extend_from_slice.ensures.items)
