use Rattle.std.proofs.Common.{◌≡◌, ◌∙◌, ◌+◌, eqb, get_or, drop, false, true, arith, refl}
use Rattle.std.proofs.lemmas.List.{append_assoc, append-nil}
use Rattle.std.proofs.lemmas.Bool.Decides.{nat_tests}
use Rattle.csv.specs.Writing.{default_writer, escaped}
use Rattle.tally_print.specs.Text.{shown}
use Rattle.tally_print.proofs.FieldLemmas.{escaped_rest, escaped_here, escaped_stop, escaped_end}
use Rattle.tally_check_text.proofs.fields.push_escaped.Goals as goal
use Rattle.tally_check_text.proofs.fields.push_escaped.Goals.{then-byte-eq34+in_ok-push, else-byte-eq34}

pub loop-byte-preserved : goal.loop-byte-preserved
loop-byte-preserved c =
    let field = c.args.field.now in
    let i = c.loop-byte.byte-index in
    let after = escaped default_writer (shown (drop (i + 1) field)) in
    elim c.if-byte-eq34.branch [
      | then-byte-eq34+in_ok-push w ↦
          let quote = escaped_here field i c.loop-byte-test.true w.if-byte-eq34.true in
          let byte : c.shown_byte.result ≡ 34 = c.shown_byte.ensures ∙ rw w.if-byte-eq34.true refl in
          rw (c.in_ok-push-2.ensures.items, w.text-is, w.in_ok-push.ensures.items, byte, append_assoc, append_assoc) (rw quote at c.loop-byte.invariant)
      | else-byte-eq34 w ↦
          let ends : eqb (get_or field i 0) 0 ≡ false = grind (arith, nat_tests) in
          let other : eqb (get_or field i 0) 34 ≡ false = grind (arith, nat_tests) in
          let next = escaped_rest field i c.loop-byte-test.true ends other in
          rw (c.in_ok-push-2.ensures.items, w.text-is, c.shown_byte.ensures, append_assoc) (rw next at c.loop-byte.invariant)
    ]

pub returns-after-loop-byte : goal.returns-after-loop-byte
returns-after-loop-byte c =
    let e = escaped_end c.args.field.now c.loop-byte.byte-index c.loop-byte-test.false in
    rw (e, append-nil) at c.loop-byte.invariant

pub returns-then-byte-eq0 : goal.returns-then-byte-eq0
returns-then-byte-eq0 c =
    let ends : eqb (get_or c.args.field.now c.loop-byte.byte-index 0) 0 ≡ true = rw c.if-byte-eq0.true refl in
    let e = escaped_stop c.args.field.now c.loop-byte.byte-index c.loop-byte-test.true ends in
    rw (e, append-nil) at c.loop-byte.invariant
