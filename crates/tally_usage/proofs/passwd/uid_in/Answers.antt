use Rattle.std.proofs.Common.{◌∙◌, ◌&&◌, ◌*◌, ◌+◌, ◌^◌, ap, arith, get_or, min, sym, take}
use Rattle.std.specs.Char.{is_ascii_digit}
use Rattle.std.specs.Str.Parse.{digits_value}
use Rattle.std.proofs.lemmas.Int.Digits.{digits_value_more}
use Rattle.std.proofs.lemmas.List.Folds.{list_all_more}
use Rattle.tally_usage.proofs.PasswdLemmas.{bounded_step}
use Rattle.tally_usage.proofs.passwd.uid_in.Goals as goal

pub loop-byte-preserved : goal.loop-byte-preserved
loop-byte-preserved c = record {
  digits = list_all_more is_ascii_digit c.args.text.now c.loop-byte.byte-index 0 (omega arith) ∙ (λ i. c.loop-byte.invariant.digits i && (sym c.is_ascii_digit.ensures.value ∙ c.if-not-is_ascii_digit.false) i);
  value = c.min-number.ensures ∙ ap (λ x. min (c.loop-byte.number * 10 + x) (2 ^ 32)) c.from.ensures
      ∙ bounded_step (2 ^ 32) (digits_value 10 (take c.loop-byte.byte-index c.args.text.now)) _ c.loop-byte.number (get_or c.args.text.now c.loop-byte.byte-index 0)
      (omega (arith, c.if-not-is_ascii_digit.ensures.cases)) (omega (arith, c.if-not-is_ascii_digit.ensures.cases)) c.loop-byte.invariant.value (digits_value_more 10 c.args.text.now c.loop-byte.byte-index (omega arith));
}
