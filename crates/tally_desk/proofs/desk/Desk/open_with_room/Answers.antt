use Rattle.std.proofs.Common.{◌≡◌, subst, sym}
use Rattle.std.specs.List.{All}
use Rattle.atomic_table.specs.Seated.{TableId}
use Rattle.tally_desk.specs.Passes.{PassState}
use Rattle.tally_desk.proofs.Deals.{first_desks}
use Rattle.tally_desk.proofs.desk.Desk.open_with_room.Goals as goal

pub returns-clause-desk : goal.returns-clause-desk
returns-clause-desk c =
    let id : TableId = c.in_ok-lock.lock.table.shared.table_id in
    subst (All (λ (p : PassState). p.desk ≡ id)) (sym c.deal_all.ensures) (first_desks id c.args.clock c.args.room c.args.callers 0 c.args.callers)
