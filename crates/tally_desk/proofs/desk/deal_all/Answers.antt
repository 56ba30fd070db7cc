use Rattle.std.proofs.Common.{ℕ, ◌≡◌, ◌+◌, ◌-◌, ◌<◌, [], ◌∷◌, ◌++◌, map, List, sym, ap, ◌∙◌, arith, append_assoc}
use Rattle.std.specs.List.{range_with_len}
use Rattle.tally_desk.specs.declared.lock.view.Known.{Known}
use Rattle.tally_desk.specs.Callers.{newcomer}
use Rattle.tally_desk.specs.inside.Views.{newcomers}
use Rattle.tally_desk.specs.inside.Seats.{standing}
use Rattle.tally_desk.specs.Passes.{PassState, first_pass, pass_of}
use Rattle.tally_desk.proofs.Deals.{first_left, newcomer_sound}
use Rattle.tally_desk.proofs.desk.deal_all.Goals as goal

pub deal-requires-clause-some : goal.deal-requires-clause-some
deal-requires-clause-some c =
    let n = c.loop-number.number in
    let left = c.loop-number.invariant.left in
    let some : 0 < left.0 = omega (arith, left.1) in
    (newcomer c.args.opening.now.clock c.args.opening.now.room c.args.opening.now.callers n, newcomers c.args.opening.now.clock c.args.opening.now.room c.args.opening.now.callers (n + 1) (left.0 - 1), left.2 ∙ ap (λ ns. standing (map (newcomer c.args.opening.now.clock c.args.opening.now.room c.args.opening.now.callers) ns)) (first_left n left.0 some))

pub first-requires : goal.first-requires
first-requires c =
    let n = c.loop-number.number in
    let left = c.loop-number.invariant.left in
    let some : 0 < left.0 = omega (arith, left.1) in
    let first : Known = newcomer c.args.opening.now.clock c.args.opening.now.room c.args.opening.now.callers n in
    let dealt = c.deal.ensures.dealt first (newcomers c.args.opening.now.clock c.args.opening.now.room c.args.opening.now.callers (n + 1) (left.0 - 1)) (left.2 ∙ ap (λ ns. standing (map (newcomer c.args.opening.now.clock c.args.opening.now.room c.args.opening.now.callers) ns)) (first_left n left.0 some)) in
    record {
      seat = dealt.1;
      sound = newcomer_sound c.args.opening.now.clock c.args.opening.now.room c.args.opening.now.callers n c.requires.right c.requires.few c.loop-number-test.true;
    }

pub loop-number-preserved : goal.loop-number-preserved
loop-number-preserved c =
    let n = c.loop-number.number in
    let id = c.args.lock.now.table.shared.table_id in
    let left = c.loop-number.invariant.left in
    let some : 0 < left.0 = omega (arith, left.1) in
    let first : Known = newcomer c.args.opening.now.clock c.args.opening.now.room c.args.opening.now.callers n in
    let others : List PassState = map (first_pass id c.args.opening.now.clock c.args.opening.now.room c.args.opening.now.callers) (range_with_len (n + 1) (left.0 - 1)) in
    let more = first_left n left.0 some in
    let dealt = c.deal.ensures.dealt first (newcomers c.args.opening.now.clock c.args.opening.now.room c.args.opening.now.callers (n + 1) (left.0 - 1)) (left.2 ∙ ap (λ ns. standing (map (newcomer c.args.opening.now.clock c.args.opening.now.room c.args.opening.now.callers) ns)) more) in
    let same : c.deal.result.table_id ≡ id = c.deal.ensures.table.1 ∙ c.loop-number.invariant.table in
    let pass : c.first.result ≡ pass_of id first = c.first.ensures ∙ ap (λ x. pass_of x first) same in
    let before : List PassState = c.loop-number.passes.items in
    let now = c.push_reserved.ensures.items ∙ ap (λ (p : PassState). before ++ p ∷ []) pass in
    record {
      table = c.deal.ensures.table.0 ∙ c.loop-number.invariant.table;
      dealt = omega (arith, c.push_reserved.ensures.len, c.loop-number.invariant.dealt);
      room = omega (arith, c.push_reserved.ensures.capacity, c.loop-number.invariant.room);
      left = (
        left.0 - 1,
        omega (arith, left.1),
        dealt.0,
        ap (λ (ps : List PassState). ps ++ others) now
            ∙ (append_assoc before (pass_of id first ∷ []) others ∙ (ap (λ (ns : List ℕ). before ++ map (first_pass id c.args.opening.now.clock c.args.opening.now.room c.args.opening.now.callers) ns) (sym more) ∙ left.3)),
      );
    }
