use Rattle.std.proofs.Common.{map, ap, sym, ◌∙◌}
use Rattle.tally_desk.specs.Passes.{DeskState, known_of}
use Rattle.tally_desk.proofs.Deals.{all_stand, all_done, calls_of_all}
use Rattle.tally_desk.proofs.desk.Desk.close.Goals as goal

pub returns-clause-callers : goal.returns-clause-callers
returns-clause-callers c = c.close.ensures.book.0 ∙ (c.self.invariant.0 ∙ ap (λ (d : DeskState). d.callers) c.self.view_is)

pub returns-clause-stands : goal.returns-clause-stands
returns-clause-stands c =
    let ps = c.args.passes.items in
    let end = c.close.ensures.callers (map known_of ps) c.gather_all-seat.ensures.all in all_stand c.close.result ps end.0

pub returns-clause-calls : goal.returns-clause-calls
returns-clause-calls c =
    let ps = c.args.passes.items in
    let end = c.close.ensures.callers (map known_of ps) c.gather_all-seat.ensures.all in sym end.1 ∙ calls_of_all ps

pub returns-clause-did : goal.returns-clause-did
returns-clause-did c =
    let ps = c.args.passes.items in
    let end = c.close.ensures.callers (map known_of ps) c.gather_all-seat.ensures.all in all_done c.close.result ps (all_stand c.close.result ps end.0) c.gather_all-seat.ensures.sound
