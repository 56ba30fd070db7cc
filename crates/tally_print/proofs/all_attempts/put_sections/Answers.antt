use Rattle.std.proofs.Common.{◌+◌, ◌++◌, List, ℕ, ap, drop, flat_map, refl, rules, subst}
use Rattle.std.proofs.lemmas.List.{take_all}
use Rattle.std.specs.List.{range_with_len}
use Rattle.tally_sessions.specs.Lent.{entries_in}
use Rattle.tally_print.specs.inside.Attempts.{section}
use Rattle.tally_print.specs.inside.LocalTime.{clock_of}
use Rattle.tally_print.specs.inside.Pages.{Fills}
use Rattle.tally_print.proofs.AttemptLemmas.{host_at, host_within, no_host_left}
use Rattle.tally_print.proofs.PageLemmas.{fills_push, fills_stop, fills_turn, flat_next, flat_rest}
use Rattle.tally_print.proofs.all_attempts.put_sections.Goals as goal

pub loop-host-preserved : goal.loop-host-preserved
loop-host-preserved g c =
    let n = c.args.hosts in
    let k = c.loop-host.host in
    let text : ℕ → List ℕ = section (clock_of c.args.line.now.local) c.args.limit c.args.choice.now (entries_in c.args.entries) in
    subst (Fills _ _ _ _ _) (flat_next c.args.page.now.items text (range_with_len 0 n) k k (host_within n k c.loop-host-test.true) (host_at n k c.loop-host-test.true))
    (fills_turn (fills_push (text k) c.loop-host.invariant refl) c.in_ok-put_section.ensures.fills)

pub returns-in_err-put_section : goal.returns-in_err-put_section
returns-in_err-put_section g c =
    let n = c.args.hosts in
    let k = c.loop-host.host in
    let head = c.args.page.now.items in
    let text : ℕ → List ℕ = section (clock_of c.args.line.now.local) c.args.limit c.args.choice.now (entries_in c.args.entries) in
    let turned = subst (Fills _ _ _ _ _) (flat_next head text (range_with_len 0 n) k k (host_within n k c.loop-host-test.true) (host_at n k c.loop-host-test.true)) (fills_turn (fills_push (text k) c.loop-host.invariant refl) c.in_err-put_section.ensures.fills) in
    record { fills = subst (Fills _ _ _ _ _) (flat_rest head text (range_with_len 0 n) (k + 1)) (fills_stop c.in_err-put_section.field-0.0 (search rules) (flat_map text (drop (k + 1) (range_with_len 0 n))) turned) }

pub returns : goal.returns
returns g c =
    let n = c.args.hosts in
    let k = c.loop-host.host in
    let text : ℕ → List ℕ = section (clock_of c.args.line.now.local) c.args.limit c.args.choice.now (entries_in c.args.entries) in
    record { fills = subst (Fills _ _ _ _ _) (ap (λ (hosts : List ℕ). c.args.page.now.items ++ flat_map text hosts) (take_all k (range_with_len 0 n) (no_host_left n k c.loop-host-test.false))) c.loop-host.invariant }
