use Rattle.std.proofs.Common.{◌∙◌, ◌∷◌, ap, sym}
use Rattle.atomic_table.specs.Table.{rest}
use Rattle.tally_desk.specs.Passes.{Sat}
use Rattle.tally_desk.proofs.lock.TicketLock.ask_out.Goals as goal

pub slot_mut-book-requires : goal.slot_mut-book-requires
slot_mut-book-requires c =
    let turn = c.requires.turn in
    let out = ap (λ (m : Sat). m.1) turn.3 in
    (c.requires.table, (turn.2, out ∙ ap (λ slots. (0, turn.2) ∷ rest slots) (sym out)))
