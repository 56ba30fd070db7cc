use borrow.Author.Rules.{rules}
use denote.Param.Send.{sendable}
use Rattle.std.proofs.Common.{◌≡◌, [], ◌∷◌, ◌++◌, length, sym, subst, Some}
use Rattle.std.proofs.lemmas.List.Elements.{All-pop}
use Rattle.std.proofs.lemmas.Result.{IfOk-at_ok}
use Rattle.tally_cli.specs.inside.Tasks.{AreReady, AreWorked}
use Rattle.tally_cli.proofs.Lists.{AreWorked-none, AreWorked-last}
use Rattle.tally_cli.proofs.running.work.+lists.Goals as goal

pub carry_out_all-requires : goal.carry_out_all-requires
carry_out_all-requires g t c =
    (All-pop (λ (v : _). AreReady g.I.Input.failures c.args.desk.now v.items) c.args.lists.items c.pop.new.self.items (Some c.in-Some.tasks) c.in-Some.ensures.items c.requires).1

pub returns-then-is_empty : goal.returns-then-is_empty
returns-then-is_empty g t c =
    let front = c.pop.new.self.items in
    let none : length front ≡ 0 = search rules in
    let worked = AreWorked g.I.Input.to_come g.I.Input.can_fail (λ v. v.items) in
    let last = AreWorked-last g.I.Input.to_come g.I.Input.can_fail (λ v. v.items) front front c.in-Some.tasks c.carry_out_all.result (AreWorked-none g.I.Input.to_come g.I.Input.can_fail (λ v. v.items) front none)
    c.carry_out_all.ensures.works c.carry_out_all.ensures.explained in
    subst (λ vs. worked vs c.push.new.self.items) (sym c.in-Some.ensures.items) (subst (worked (front ++ c.in-Some.tasks ∷ [])) (sym c.in_ok-push.ensures.items) last)

pub join-last-requires-after_bounds : goal.join-last-requires-after_bounds
join-last-requires-after_bounds g t c κs within =
    let ready = All-pop (λ (v : _). AreReady g.I.Input.failures c.args.desk.now v.items) c.args.lists.items c.pop.new.self.items (Some c.in-Some.tasks) c.in-Some.ensures.items c.requires in
    (ready.1, (search rules, (search rules, (search rules, (search rules, (ready.0, (search sendable, search sendable, search sendable)))))))

pub returns : goal.returns
returns g t c =
    let front = c.pop.new.self.items in
    let done = c.in_ok-done.done.items in
    let worked = AreWorked g.I.Input.to_come g.I.Input.can_fail (λ v. v.items) in
    let before : worked front done = IfOk-at_ok (λ (v : _). AreWorked g.I.Input.to_come g.I.Input.can_fail (λ u. u.items) front v.items) c.in_ok-done.was c.join-last.ensures.second in
    let last = AreWorked-last g.I.Input.to_come g.I.Input.can_fail (λ v. v.items) front done c.in-Some.tasks c.join-last.result.0 before c.join-last.ensures.first.0 c.join-last.ensures.first.1 in
    subst (λ vs. worked vs c.push-2.new.self.items) (sym c.in-Some.ensures.items) (subst (worked (front ++ c.in-Some.tasks ∷ [])) (sym c.in_ok-push-2.ensures.items) last)
