use Rattle.std.proofs.lemmas.Result.{on_ok_weaker}
use Rattle.tally_wtmpdb.proofs.Fields.{filled}
use Rattle.tally_wtmpdb.specs.Fields.{field}
use Rattle.tally_wtmpdb.proofs.record.push_field.Goals as goal

pub returns : goal.returns
unfolding field
returns c =
    on_ok_weaker c.push_zeros.result (λ zeros. filled c.args.size c.saturating_sub.result c.args.out.now.items _ _ c.kept-text.result.now _
    c.in_ok-extend_from_slice.ensures.items zeros c.saturating_sub.ensures c.kept-text.ensures.value) c.push_zeros.ensures
