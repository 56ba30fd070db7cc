use Rattle.std.proofs.Common.{◌≡◌, List, [], ◌∷◌, subst, sym, ◌∙◌, ◌++◌}
use Rattle.atomic_table.specs.Table.{opening}
use Rattle.tally_book.specs.Books.{IsLegal, empty_with_room}
use Rattle.tally_book.specs.Contents.{Contents}
use Rattle.tally_desk.specs.declared.lock.rule.Opening.{Opening}
use Rattle.tally_desk.specs.inside.Views.{opening_view}
use Rattle.tally_desk.specs.inside.Rule.{Orderly}
use Rattle.tally_desk.proofs.Seats.{starts}
use Rattle.tally_desk.proofs.lock.TicketLock.open.Goals as goal

pub new-requires-2 : goal.new-requires-2
new-requires-2 c =
    let o : Opening = c.args.opening.now in
    let book : Contents = c.in_ok-first_book.field-0 in
    let made : book ≡ empty_with_room o.clock o.room o.callers = c.in_ok-first_book.ensures.empty in
    let slots : c.push_reserved.new.self.items ≡ empty_with_room o.clock o.room o.callers ∷ [] =
    c.push_reserved.ensures.items ∙ (λ i. c.in_ok-slots.ensures.items i ++ made i ∷ []) in
    subst (λ (xs : List Contents). Orderly o.callers (opening (0 ∷ 0 ∷ 0 ∷ []) xs (opening_view o))) (sym slots) (starts o (subst IsLegal made c.in_ok-first_book.ensures.legal).room c.requires.some c.requires.few)
