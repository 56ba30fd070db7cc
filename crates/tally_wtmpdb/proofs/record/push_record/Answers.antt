use Rattle.std.proofs.Common.{ap, ◌∙◌, ◌++◌, List, ℕ, ℤ, rules}
use Rattle.std.specs.Prelude.{FitsSigned}
use Rattle.std.proofs.lemmas.Int.{to_z-of_z}
use Rattle.tally_wtmpdb.proofs.Fields.{laid}
use Rattle.std.specs.Int.{w32, cast_unsigned, to_le_bytes}
use Rattle.tally_wtmpdb.specs.Made.{bytes_of}
use Rattle.tally_wtmpdb.specs.Fields.{field}
use Rattle.tally_wtmpdb.proofs.record.push_record.Goals as goal

pub returns : goal.returns
unfolding bytes_of
returns c =
    let fits : FitsSigned w32 c.args.time = search rules in
    laid c.args.out.now.items c.args.kind (field 32 c.args.line.now) (field 32 c.args.user.now) (field 256 c.args.remote.now) (to_le_bytes w32 (cast_unsigned w32 c.args.time))
    c.push.new.self.items c.push_zeros.new.out.items c.push_field.new.out.items c.push_zeros-2.new.out.items c.push_field-2.new.out.items c.push_field-3.new.out.items
    c.push_zeros-3.new.out.items c.extend_from_slice.new.self.items c.push_zeros-4.new.out.items
    c.in_ok-push.ensures.items c.in_ok-push_zeros.ensures c.in_ok-push_field.ensures c.in_ok-push_zeros-2.ensures c.in_ok-push_field-2.ensures c.in_ok-push_field-3.ensures
    c.in_ok-push_zeros-3.ensures (c.in_ok-extend_from_slice.ensures.items ∙ ap (λ (t : List ℕ). c.push_zeros-3.new.out.items ++ t) c.to_le_bytes.ensures ∙ ap (λ (z : ℤ). c.push_zeros-3.new.out.items ++ to_le_bytes w32 (cast_unsigned w32 z)) (to_z-of_z w32 c.args.time fits)) c.in_ok-push_zeros-4.ensures
