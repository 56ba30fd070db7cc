use Rattle.std.proofs.Common.{◌≡◌, eqb, sym, refl, false, arith}
use Rattle.std.proofs.lemmas.Bool.Decides.{nat_tests}
use Rattle.tally_print.proofs.FieldLemmas.{quote_is_mark}
use Rattle.tally_check_text.proofs.fields.is_mark.Goals as goal

pub returns-then-byte-eq44 : goal.returns-then-byte-eq44
returns-then-byte-eq44 c = rw c.if-byte-eq44.true refl

pub returns-else-byte-eq44 : goal.returns-else-byte-eq44
returns-else-byte-eq44 c =
    let comma : eqb c.args.byte 44 ≡ false = grind (arith, nat_tests) in
    sym (quote_is_mark c.args.byte comma)
