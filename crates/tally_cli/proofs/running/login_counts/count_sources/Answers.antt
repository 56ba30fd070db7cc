use Rattle.std.proofs.Common.{◌≡◌, arith, length, map, subst, sym}
use Rattle.std.proofs.lemmas.Result.{IfErr-weaker, IfOk-weaker}
use Rattle.tally_cli.specs.inside.Files.{AreExplained, count_in}
use Rattle.tally_cli.specs.inside.LoginCounts.{AreTaken, CameOf, IsTakeFault, StopsAt}
use Rattle.tally_cli.proofs.Counted.{came_all, placed_all}
use Rattle.tally_cli.proofs.LoginCounts.{unprinted}
use Rattle.tally_cli.proofs.LoginRuns.{all_counted, all_kept, login_cause, login_refusal}
use Rattle.tally_cli.proofs.running.login_counts.count_sources.Goals as goal

pub take_files-requires-clause-placed : goal.take_files-requires-clause-placed
take_files-requires-clause-placed g c =
    let came_is = CameOf g.I.Input.to_come g.I.Input.can_fail c.args.room c.args.keeps_sessions in
    let n = c.busy_feeders-feeders.result in
    let files : length c.args.sources.items ≡ c.len-files.result = omega (arith, c.len-files.ensures, c.args.sources.ok.0) in
    λ k l. placed_all came_is (StopsAt c.args.room) c.args.sources.items n c.busy_feeders-feeders.ensures.allowed.0 (λ v. v.items) c.in_ok-lists.lists.items c.count_lists.new.lists.items c.in_ok-lists.ensures.count c.in_ok-lists.ensures.dealt c.count_lists.ensures k (omega (arith, l, files))

pub take_files-requires-clause-explained : goal.take_files-requires-clause-explained
take_files-requires-clause-explained g c =
    let came_is = CameOf g.I.Input.to_come g.I.Input.can_fail c.args.room c.args.keeps_sessions in
    let n = c.busy_feeders-feeders.result in
    let files : length c.args.sources.items ≡ c.len-files.result = omega (arith, c.len-files.ensures, c.args.sources.ok.0) in
    let at = count_in n (map (λ v. v.items) c.count_lists.new.lists.items) in
    subst (λ m. AreExplained (StopsAt c.args.room) n m at) files (came_all came_is (StopsAt c.args.room) c.args.sources.items n c.busy_feeders-feeders.ensures.allowed.0 (λ v. v.items) c.in_ok-lists.lists.items c.count_lists.new.lists.items c.in_ok-lists.ensures.count c.in_ok-lists.ensures.dealt c.count_lists.ensures).explained

pub returns-clause-whole : goal.returns-clause-whole
returns-clause-whole g c =
    let to_come = g.I.Input.to_come in
    let can_fail = g.I.Input.can_fail in
    let n = c.busy_feeders-feeders.result in
    let files : length c.args.sources.items ≡ c.len-files.result = omega (arith, c.len-files.ensures, c.args.sources.ok.0) in
    let at = count_in n (map (λ v. v.items) c.count_lists.new.lists.items) in
    let came = came_all (CameOf to_come can_fail c.args.room c.args.keeps_sessions) (StopsAt c.args.room) c.args.sources.items n c.busy_feeders-feeders.ensures.allowed.0 (λ v. v.items) c.in_ok-lists.lists.items c.count_lists.new.lists.items c.in_ok-lists.ensures.count c.in_ok-lists.ensures.dealt c.count_lists.ensures in
    IfOk-weaker c.take_files.result _ _ (λ counts taken inputs tell. all_counted to_come can_fail c.args.room c.args.keeps_sessions n c.args.sources.items at came c.requires.logins inputs tell counts.items (subst (λ m. AreTaken m at counts.items) (sym files) taken)) c.take_files.ensures.taken

pub returns-clause-few : goal.returns-clause-few
returns-clause-few g c =
    IfOk-weaker c.take_files.result _ _ (λ counts taken. omega (arith, taken.length_is, c.len-files.ensures, c.args.sources.ok.0, c.requires.few)) c.take_files.ensures.taken

pub returns-clause-kept : goal.returns-clause-kept
returns-clause-kept g c =
    let to_come = g.I.Input.to_come in
    let can_fail = g.I.Input.can_fail in
    let n = c.busy_feeders-feeders.result in
    let files : length c.args.sources.items ≡ c.len-files.result = omega (arith, c.len-files.ensures, c.args.sources.ok.0) in
    let at = count_in n (map (λ v. v.items) c.count_lists.new.lists.items) in
    let came = came_all (CameOf to_come can_fail c.args.room c.args.keeps_sessions) (StopsAt c.args.room) c.args.sources.items n c.busy_feeders-feeders.ensures.allowed.0 (λ v. v.items) c.in_ok-lists.lists.items c.count_lists.new.lists.items c.in_ok-lists.ensures.count c.in_ok-lists.ensures.dealt c.count_lists.ensures in
    IfOk-weaker c.take_files.result _ _ (λ counts taken. all_kept to_come can_fail c.args.room c.args.keeps_sessions n c.args.sources.items at came c.requires.logins counts.items (subst (λ m. AreTaken m at counts.items) (sym files) taken)) c.take_files.ensures.taken

pub returns-clause-cause : goal.returns-clause-cause
returns-clause-cause g c =
    let to_come = g.I.Input.to_come in
    let can_fail = g.I.Input.can_fail in
    let n = c.busy_feeders-feeders.result in
    let files : length c.args.sources.items ≡ c.len-files.result = omega (arith, c.len-files.ensures, c.args.sources.ok.0) in
    let at = count_in n (map (λ v. v.items) c.count_lists.new.lists.items) in
    let came = came_all (CameOf to_come can_fail c.args.room c.args.keeps_sessions) (StopsAt c.args.room) c.args.sources.items n c.busy_feeders-feeders.ensures.allowed.0 (λ v. v.items) c.in_ok-lists.lists.items c.count_lists.new.lists.items c.in_ok-lists.ensures.count c.in_ok-lists.ensures.dealt c.count_lists.ensures in
    IfErr-weaker c.take_files.result _ _ (λ f found inputs tell. login_cause to_come can_fail c.args.room c.args.keeps_sessions n c.args.sources.items at came c.requires.logins inputs tell f (subst (λ m. IsTakeFault c.args.room m at f) (sym files) found)) c.take_files.ensures.fault

pub returns-clause-refused : goal.returns-clause-refused
returns-clause-refused g c =
    let to_come = g.I.Input.to_come in
    let can_fail = g.I.Input.can_fail in
    let n = c.busy_feeders-feeders.result in
    let files : length c.args.sources.items ≡ c.len-files.result = omega (arith, c.len-files.ensures, c.args.sources.ok.0) in
    let at = count_in n (map (λ v. v.items) c.count_lists.new.lists.items) in
    let came = came_all (CameOf to_come can_fail c.args.room c.args.keeps_sessions) (StopsAt c.args.room) c.args.sources.items n c.busy_feeders-feeders.ensures.allowed.0 (λ v. v.items) c.in_ok-lists.lists.items c.count_lists.new.lists.items c.in_ok-lists.ensures.count c.in_ok-lists.ensures.dealt c.count_lists.ensures in
    IfErr-weaker c.take_files.result _ _ (λ f found callers. login_refusal to_come can_fail c.args.room c.args.keeps_sessions n c.args.sources.items at came c.requires.logins callers f (subst (λ m. IsTakeFault c.args.room m at f) (sym files) found)) c.take_files.ensures.fault

pub returns-clause-unprinted : goal.returns-clause-unprinted
returns-clause-unprinted g c =
    let n = c.busy_feeders-feeders.result in
    let at = count_in n (map (λ v. v.items) c.count_lists.new.lists.items) in
    IfErr-weaker c.take_files.result _ _ (unprinted c.args.room c.len-files.result at) c.take_files.ensures.fault
