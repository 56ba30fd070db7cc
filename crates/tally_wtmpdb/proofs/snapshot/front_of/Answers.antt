use Rattle.std.proofs.Common.{◌++◌, ◌≡◌, subst, take}
use Rattle.std.specs.Prelude.{IfSome, option_map}
use Rattle.tally_wtmpdb.proofs.Fronts.{limited}
use Rattle.tally_wtmpdb.proofs.snapshot.front_of.Goals as goal

pub returns : goal.returns
returns g c = limited (g.F.Read.remaining c.args.file) c.take.result.limit _ c.new-bytes.result.items _ c.take.ensures.limit c.new-bytes.ensures.items
    (subst (λ f. IfSome (option_map (take c.take.result.limit) (g.F.Read.remaining f)) (λ xs. c.read_to_end.new.buf.items ≡ c.new-bytes.result.items ++ xs))
    c.take.ensures.inner c.in_ok-read_to_end.ensures.bytes)
