use Rattle.std.proofs.Common.{◌+◌, ◌∷◌, drop, arith, []}
use Rattle.std.proofs.lemmas.List.{append_assoc}
use Rattle.std.proofs.lemmas.Bool.Decides.{nat_tests}
use Rattle.tally_print.specs.Text.{shown}
use Rattle.tally_print.proofs.ShownLemmas.{shown-drop}
use Rattle.tally_check_text.proofs.paths.push_shown.Goals as goal

pub loop-byte-preserved : goal.loop-byte-preserved
loop-byte-preserved c =
    let next = shown-drop c.args.field.now c.loop-byte.byte-index (omega arith) (grind (arith, nat_tests)) in
    let joined = append_assoc c.loop-byte.text.items (c.shown_byte.result ∷ []) (shown (drop (c.loop-byte.byte-index + 1) c.args.field.now)) in
    cc (c.in_ok-push.ensures.items, c.shown_byte.ensures, joined, next)
