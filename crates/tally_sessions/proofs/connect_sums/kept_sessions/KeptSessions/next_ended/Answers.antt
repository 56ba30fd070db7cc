use Rattle.std.proofs.Common.{◌<◌, length, arith, to_z, of_z, rules}
use Rattle.std.proofs.lemmas.Int.{to_z-of_z}
use Rattle.std.specs.Int.{w32}
use Rattle.std.specs.Prelude.{FitsSigned}
use Rattle.tally_sessions.specs.declared.sums.Session.{Session}
use Rattle.tally_sessions.proofs.connect_sums.WalkLemmas.{ended-next}
use Rattle.tally_sessions.proofs.connect_sums.kept_sessions.KeptSessions.next_ended.Goals as goal

pub returns-clause-next : goal.returns-clause-next
returns-clause-next c =
    let at = c.args.self.now in
    let ended = at.running.now.ended in
    let s = c.index-session.result.now in
    let within : at.ended < length ended.sessions.items = omega (arith, c.if-self-len.false, c.len.ensures, ended.sessions.ok.0) in
    let begin_fits : FitsSigned w32 s.begin = search rules in
    let end_fits : FitsSigned w32 s.end_time = search rules in
    let x : Session = record { user = c.pair_at.result.0; begin = to_z w32 (of_z w32 s.begin); end_time = to_z w32 (of_z w32 s.end_time) } in
    ended-next ended.sums.users.entries ended.sessions.items at.ended s c.pair_at.result within c.index-session.ensures c.pair_at.ensures
    x (λ i. record { user = c.pair_at.result.0; begin = to_z-of_z w32 s.begin begin_fits i; end_time = to_z-of_z w32 s.end_time end_fits i })
