use Rattle.std.proofs.Common.{◌≡◌, ◌+◌, ◌-◌, length, sym, subst, arith}
use Rattle.tally_sessions.specs.inside.Kept.{AreTracks, AreTracksFrom}
use Rattle.tally_sessions.proofs.sessions.PartLemmas.{AreTracks-all, AreTracksFrom-append}
use Rattle.tally_sessions.proofs.sessions.of_entries.all_tracks_by.Goals as goal

pub returns : goal.returns
returns g c =
    let es = c.args.entries.now in
    let hosts = c.args.hosts in
    let left = 128 - hosts in
    let all : hosts + left ≡ 128 = omega arith in
    let here : hosts ≡ 0 + hosts = omega arith in
    let others = subst (λ first. AreTracksFrom first left es (length es) c.in_ok-others.others.items) here c.in_ok-others.ensures in
    subst (AreTracks es (length es)) (sym c.in_ok-append.ensures.items)
    (AreTracks-all (hosts + left) es (length es) _ all (AreTracksFrom-append 0 hosts left es (length es) c.in_ok-tracks.tracks.items c.in_ok-others.others.items c.in_ok-tracks.ensures others))
