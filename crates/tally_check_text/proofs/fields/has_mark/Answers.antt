use Rattle.std.proofs.Common.{◌≡◌, ◌∙◌, sym, eqb, get_or, false, true, arith, refl}
use Rattle.std.proofs.lemmas.Bool.Decides.{nat_tests}
use Rattle.tally_print.proofs.FieldLemmas.{needs_here, needs_nothing, needs_end}
use Rattle.tally_check_text.proofs.fields.has_mark.Goals as goal

pub loop-byte-preserved : goal.loop-byte-preserved
loop-byte-preserved c =
    let ends : eqb (get_or c.args.field.now c.loop-byte.byte-index 0) 0 ≡ false = grind (arith, nat_tests) in
    needs_here c.args.field.now c.loop-byte.byte-index c.loop-byte-test.true ends false (sym c.is_mark.ensures ∙ c.if-is_mark.false) ∙ c.loop-byte.invariant

pub returns-then-byte-eq0 : goal.returns-then-byte-eq0
returns-then-byte-eq0 c =
    let ends : eqb (get_or c.args.field.now c.loop-byte.byte-index 0) 0 ≡ true = rw c.if-byte-eq0.true refl in
    sym (needs_nothing c.args.field.now c.loop-byte.byte-index c.loop-byte-test.true ends) ∙ c.loop-byte.invariant

pub returns-then-is_mark : goal.returns-then-is_mark
returns-then-is_mark c =
    let ends : eqb (get_or c.args.field.now c.loop-byte.byte-index 0) 0 ≡ false = grind (arith, nat_tests) in
    needs_here c.args.field.now c.loop-byte.byte-index c.loop-byte-test.true ends true (sym c.is_mark.ensures ∙ c.if-is_mark.true) ∙ c.loop-byte.invariant

pub returns : goal.returns
returns c = sym (needs_end c.args.field.now c.loop-byte.byte-index c.loop-byte-test.false) ∙ c.loop-byte.invariant
