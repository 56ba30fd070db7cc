use Rattle.std.proofs.Common.{◌++◌, take}
use Rattle.std.proofs.lemmas.List.{append_assoc, take_rest, take-append-drop}
use Rattle.tally_print.proofs.PageLemmas.{prints_then, prints_whole}
use Rattle.tally_check_text.proofs.print.print_text.Goals as goal

-- what `put` took joins what was written before it
pub loop-rest-preserved : goal.loop-rest-preserved
loop-rest-preserved g c =
    let held = c.loop-rest.invariant in
    let put = c.in-Ok.ensures in
    (held.0 ++ take c.in-Ok.count c.loop-rest.rest.now, simp (take_rest, append_assoc, take-append-drop) held.1, prints_then held.2 (prints_whole put.ok put.counts put.tells))
