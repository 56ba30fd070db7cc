use Rattle.std.proofs.Common.{◌≡◌, ◌<◌, ◌%◌, [], arith, get_or, set, length, map, refl, subst, sym, ap, ◌∙◌}
use Rattle.std.proofs.Math.Nat.{mod-lt}
use Rattle.std.proofs.lemmas.List.{length-map}
use Rattle.tally_cli.specs.declared.running.files.FileCount.{FileCount}
use Rattle.tally_cli.specs.inside.Files.{IsPlaced, count_in}
use Rattle.tally_cli.proofs.Turns.{others_still, place_written, placed_still}
use Rattle.tally_cli.proofs.running.files.take_count.Goals as goal

pub returns-clause-others : goal.returns-clause-others
returns-clause-others g c = λ k other.
    let n = c.args.feeders in
    let host = c.args.host in
    let lists = c.args.lists.now.items in
    let file : FileCount g.row.I.Denot g.row.S.Denot g.row.F.Denot = record { source = c.index_mut-file.result.now.source; count = c.replace.new.dest } in
    let at : c.feeder_of.result ≡ host % n = c.feeder_of.ensures in
    let near : c.feeder_of.result < length lists = omega (arith, mod-lt host {m = n} c.requires.some, c.requires.all, at) in
    let all = map (λ v. v.items) lists in
    let e = place_written (λ v. v.items) lists c.feeder_of.result c.place_of.result c.index_mut-files.result.now _ file near c.index_mut-files.ensures.value refl
    ∙ (λ i. set all (at i) (set (get_or all (at i) []) (c.place_of.ensures i) file)) in
    ap (λ xss. count_in n xss k) e ∙ others_still n c.requires.some (map (λ v. v.items) lists) (length-map lists (λ v. v.items) ∙ c.requires.all) host c.requires.placed file k other

pub returns-clause-placed : goal.returns-clause-placed
returns-clause-placed g c = λ k within.
    let n = c.args.feeders in
    let host = c.args.host in
    let lists = c.args.lists.now.items in
    let file : FileCount g.row.I.Denot g.row.S.Denot g.row.F.Denot = record { source = c.index_mut-file.result.now.source; count = c.replace.new.dest } in
    let at : c.feeder_of.result ≡ host % n = c.feeder_of.ensures in
    let near : c.feeder_of.result < length lists = omega (arith, mod-lt host {m = n} c.requires.some, c.requires.all, at) in
    let all = map (λ v. v.items) lists in
    let e = place_written (λ v. v.items) lists c.feeder_of.result c.place_of.result c.index_mut-files.result.now _ file near c.index_mut-files.ensures.value refl
    ∙ (λ i. set all (at i) (set (get_or all (at i) []) (c.place_of.ensures i) file)) in
    subst (λ xss. IsPlaced n xss k) (sym e) (placed_still n c.requires.some (map (λ v. v.items) lists) (length-map lists (λ v. v.items) ∙ c.requires.all) host c.requires.placed file k within)
