use Rattle.std.proofs.Common.{◌∙◌, sym, ap}
use Rattle.atomic_table.specs.Seated.{TableId}
use Rattle.tally_desk.specs.Passes.{seen_as}
use Rattle.tally_desk.proofs.Passes.{PostTells, both, ok_first, ok_second, posted_pass}
use Rattle.tally_desk.proofs.desk.Desk.post.Goals as goal
use Rattle.tally_desk.proofs.desk.Desk.post.Given as given

-- what the post makes of the pass
tells : (g : given.Over) (c : goal.After-post g) → PostTells c.args.batch.now c.post.result c.args.pass.now (seen_as c.post.new.seat.table_id c.post.new.seat.me)
tells g c =
    let o = c.pass.invariant in
    let id : TableId = c.pass.inside.seat.table_id in
    let b = c.post.ensures.posted o.0 o.1 in
    let t = posted_pass id o.0 o.3 b.0 b.1 c.args.batch.now _ _ b.2 b.3 in
    both (PostTells c.args.batch.now c.post.result) _ _ _ _ (sym c.pass.view_is ∙ ap (seen_as id) o.1) (λ i. seen_as (c.post.ensures.table i) (t.1 i)) t.4

pub invariant_of-pass : goal.invariant_of-pass
invariant_of-pass g c =
    let o = c.pass.invariant in
    let b = c.post.ensures.posted o.0 o.1 in
    let t = posted_pass c.pass.inside.seat.table_id o.0 o.3 b.0 b.1 c.args.batch.now _ _ b.2 b.3 in (t.0, t.1, o.2 ∙ t.2, t.3, o.4 ∙ sym t.4.keeps.seen.room)

pub returns : goal.returns
returns g c =
    let t = tells g c in record {
      keeps = t.keeps;
      legal = t.legal;
      current = t.current;
      answered = t.answered;
      stored = ok_first _ _ c.post.result t.says;
      after = ok_second _ _ c.post.result t.says;
      refused = t.refused;
      cause = t.cause;
      did = t.did;
    }
