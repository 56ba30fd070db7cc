use Rattle.std.proofs.Common.{◌≡◌, arith, length, map, subst, sym}
use Rattle.std.proofs.lemmas.Result.{IfErr-weaker, IfOk-weaker}
use Rattle.tally_cli.specs.inside.Counts.{AreJoined, CameOf, IsJoinFault}
use Rattle.tally_cli.specs.inside.Files.{AreExplained, StopsAtFault, count_in}
use Rattle.tally_cli.proofs.Counted.{came_all, placed_all}
use Rattle.tally_cli.specs.inside.Parts.{ArePartsWanted, report_lent}
use Rattle.tally_cli.proofs.Parts.{are_answered, have_parts}
use Rattle.tally_cli.proofs.Summed.{count_cause, count_refusal, each_part, summed}
use Rattle.tally_cli.proofs.running.counting.count_sources.Goals as goal

pub join_files-requires-clause-placed : goal.join_files-requires-clause-placed
join_files-requires-clause-placed g c =
    let to_come = g.I.Input.to_come in
    let can_fail = g.I.Input.can_fail in
    let n = c.busy_feeders-feeders.result in
    let files : length c.args.sources.items ≡ c.len-files.result = omega (arith, c.len-files.ensures, c.args.sources.ok.0) in
    λ k l. placed_all (CameOf c.args.choice.now to_come can_fail) StopsAtFault c.args.sources.items n c.busy_feeders-feeders.ensures.allowed.0 (λ v. v.items) c.in_ok-lists.lists.items c.count_lists.new.lists.items c.in_ok-lists.ensures.count c.in_ok-lists.ensures.dealt c.count_lists.ensures k (omega (arith, l, files))

pub join_files-requires-clause-explained : goal.join_files-requires-clause-explained
join_files-requires-clause-explained g c =
    let to_come = g.I.Input.to_come in
    let can_fail = g.I.Input.can_fail in
    let n = c.busy_feeders-feeders.result in
    let files : length c.args.sources.items ≡ c.len-files.result = omega (arith, c.len-files.ensures, c.args.sources.ok.0) in
    let at = count_in n (map (λ v. v.items) c.count_lists.new.lists.items) in
    subst (λ m. AreExplained StopsAtFault n m at) files (came_all (CameOf c.args.choice.now to_come can_fail) StopsAtFault c.args.sources.items n c.busy_feeders-feeders.ensures.allowed.0 (λ v. v.items) c.in_ok-lists.lists.items c.count_lists.new.lists.items c.in_ok-lists.ensures.count c.in_ok-lists.ensures.dealt c.count_lists.ensures).explained

pub returns-clause-whole : goal.returns-clause-whole
returns-clause-whole g c =
    let to_come = g.I.Input.to_come in
    let can_fail = g.I.Input.can_fail in
    let n = c.busy_feeders-feeders.result in
    let files : length c.args.sources.items ≡ c.len-files.result = omega (arith, c.len-files.ensures, c.args.sources.ok.0) in
    let at = count_in n (map (λ v. v.items) c.count_lists.new.lists.items) in
    let came = came_all (CameOf c.args.choice.now to_come can_fail) StopsAtFault c.args.sources.items n c.busy_feeders-feeders.ensures.allowed.0 (λ v. v.items) c.in_ok-lists.lists.items c.count_lists.new.lists.items c.in_ok-lists.ensures.count c.in_ok-lists.ensures.dealt c.count_lists.ensures in
    IfOk-weaker c.join_files.result _ _ (λ j joined inputs tell. summed c.args.choice.now to_come can_fail c.args.sources.items n at came c.requires.procs inputs tell j.total (subst (λ m. AreJoined m at j.total) (sym files) joined)) c.join_files.ensures.joined

pub returns-clause-answered : goal.returns-clause-answered
returns-clause-answered g c =
    let to_come = g.I.Input.to_come in
    let can_fail = g.I.Input.can_fail in
    let n = c.busy_feeders-feeders.result in
    let files : length c.args.sources.items ≡ c.len-files.result = omega (arith, c.len-files.ensures, c.args.sources.ok.0) in
    let at = count_in n (map (λ v. v.items) c.count_lists.new.lists.items) in
    let came = came_all (CameOf c.args.choice.now to_come can_fail) StopsAtFault c.args.sources.items n c.busy_feeders-feeders.ensures.allowed.0 (λ v. v.items) c.in_ok-lists.lists.items c.count_lists.new.lists.items c.in_ok-lists.ensures.count c.in_ok-lists.ensures.dealt c.count_lists.ensures in
    IfOk-weaker c.join_files.result _ _ (λ j parts inputs tell.
    are_answered c.args.choice.now (report_lent c.args.report) (length c.args.sources.items) at inputs j.parts.items tell.0
    (each_part c.args.choice.now to_come can_fail c.args.sources.items n at came c.requires.procs inputs tell)
    (subst (λ m. ArePartsWanted (report_lent c.args.report) m at j.parts.items) (sym files) parts)) c.join_files.ensures.parts

pub returns-clause-parts : goal.returns-clause-parts
returns-clause-parts g c =
    let n = c.busy_feeders-feeders.result in
    let files : length c.args.sources.items ≡ c.len-files.result = omega (arith, c.len-files.ensures, c.args.sources.ok.0) in
    let at = count_in n (map (λ v. v.items) c.count_lists.new.lists.items) in
    IfOk-weaker c.join_files.result _ _ (λ j parts. have_parts (report_lent c.args.report) c.len-files.result at j.parts.items (omega (arith, c.requires.few, files)) parts) c.join_files.ensures.parts

pub returns-clause-cause : goal.returns-clause-cause
returns-clause-cause g c =
    let to_come = g.I.Input.to_come in
    let can_fail = g.I.Input.can_fail in
    let n = c.busy_feeders-feeders.result in
    let files : length c.args.sources.items ≡ c.len-files.result = omega (arith, c.len-files.ensures, c.args.sources.ok.0) in
    let at = count_in n (map (λ v. v.items) c.count_lists.new.lists.items) in
    let came = came_all (CameOf c.args.choice.now to_come can_fail) StopsAtFault c.args.sources.items n c.busy_feeders-feeders.ensures.allowed.0 (λ v. v.items) c.in_ok-lists.lists.items c.count_lists.new.lists.items c.in_ok-lists.ensures.count c.in_ok-lists.ensures.dealt c.count_lists.ensures in
    IfErr-weaker c.join_files.result _ _ (λ f found inputs tell. count_cause c.args.choice.now to_come can_fail c.args.sources.items n at came c.requires.procs inputs tell f (subst (λ m. IsJoinFault m at f) (sym files) found)) c.join_files.ensures.fault

pub returns-clause-refused : goal.returns-clause-refused
returns-clause-refused g c =
    let to_come = g.I.Input.to_come in
    let can_fail = g.I.Input.can_fail in
    let n = c.busy_feeders-feeders.result in
    let files : length c.args.sources.items ≡ c.len-files.result = omega (arith, c.len-files.ensures, c.args.sources.ok.0) in
    let at = count_in n (map (λ v. v.items) c.count_lists.new.lists.items) in
    let came = came_all (CameOf c.args.choice.now to_come can_fail) StopsAtFault c.args.sources.items n c.busy_feeders-feeders.ensures.allowed.0 (λ v. v.items) c.in_ok-lists.lists.items c.count_lists.new.lists.items c.in_ok-lists.ensures.count c.in_ok-lists.ensures.dealt c.count_lists.ensures in
    IfErr-weaker c.join_files.result _ _ (λ f found. count_refusal c.args.choice.now to_come can_fail c.args.sources.items n at came f (subst (λ m. IsJoinFault m at f) (sym files) found)) c.join_files.ensures.fault
