use Rattle.std.proofs.Common.{◌≡◌, ◌+◌, ◌-◌, length, sym, subst, arith}
use Rattle.std.proofs.lemmas.Result.{IfOk-at_ok}
use Rattle.tally_sessions.specs.inside.Kept.{AreTracksFrom}
use Rattle.tally_sessions.proofs.sessions.PartLemmas.{AreTracksFrom-append}
use Rattle.tally_sessions.proofs.sessions.of_entries.+parts.Goals as goal

pub returns : goal.returns
returns g t c =
    let es = c.args.entries.now in
    let first = c.args.first in
    let size = c.args.size in
    let left = c.args.count - size in
    let theirs = IfOk-at_ok (λ (v : _). AreTracksFrom first size es (length es) v.items) c.in_ok-tracks.was c.join-tracks.ensures.first in
    let others = IfOk-at_ok (λ (v : _). AreTracksFrom (first + size) left es (length es) v.items) c.in_ok-others.was c.join-tracks.ensures.second in
    let count : size + left ≡ c.args.count = omega arith in
    subst (λ n. AreTracksFrom first n es (length es) c.append.new.self.items) count
    (subst (AreTracksFrom first (size + left) es (length es)) (sym c.in_ok-append.ensures.items) (AreTracksFrom-append first size left es (length es) c.in_ok-tracks.tracks.items c.in_ok-others.others.items theirs others))
