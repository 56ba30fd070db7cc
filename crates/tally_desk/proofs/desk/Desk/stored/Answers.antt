use Rattle.std.proofs.Common.{◌≡◌, ◌≤◌, ◌∙◌, sym, ap, refl}
use Rattle.atomic_table.specs.Seated.{TableId}
use Rattle.tally_desk.specs.Passes.{seen_as, told_pass}
use Rattle.tally_desk.specs.inside.Views.{told_of}
use Rattle.tally_desk.proofs.Passes.{both, told_sound}
use Rattle.tally_desk.proofs.desk.Desk.stored.Goals as goal

pub invariant_of-pass : goal.invariant_of-pass
invariant_of-pass c =
    let o = c.pass.invariant in
    let t = c.calls.ensures.told o.0 o.1 in
    (told_of c.calls.result o.0, t.1, o.2, told_sound o.0 c.calls.result t.0 o.3, o.4)

pub returns-clause-told : goal.returns-clause-told
returns-clause-told c =
    let o = c.pass.invariant in
    let id : TableId = c.pass.inside.seat.table_id in
    let t = c.calls.ensures.told o.0 o.1 in
    both (λ p q. p.told ≤ c.calls.result) _ _ _ _ (sym c.pass.view_is ∙ ap (seen_as id) o.1) (λ i. seen_as (c.calls.ensures.table i) (t.1 i)) t.0

pub returns-clause-learns : goal.returns-clause-learns
returns-clause-learns c =
    let o = c.pass.invariant in
    let id : TableId = c.pass.inside.seat.table_id in
    let t = c.calls.ensures.told o.0 o.1 in
    both (λ p q. q ≡ told_pass c.calls.result p) _ _ _ _ (sym c.pass.view_is ∙ ap (seen_as id) o.1) (λ i. seen_as (c.calls.ensures.table i) (t.1 i)) refl
