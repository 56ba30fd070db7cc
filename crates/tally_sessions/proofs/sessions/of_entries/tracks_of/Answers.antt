use Rattle.std.proofs.Common.{◌+◌, refl, subst, sym, arith}
use Rattle.tally_sessions.specs.inside.Entries.{AreOf, entry_at}
use Rattle.tally_sessions.specs.inside.Track.{IsTrack}
use Rattle.tally_sessions.proofs.sessions.PartLemmas.{AreTracksFrom-advance, AreTracksFrom-new, AreTracksFrom-others}
use Rattle.tally_sessions.proofs.sessions.of_entries.tracks_of.Goals as goal

pub loop-at-init : goal.loop-at-init
loop-at-init c = record {
  within = omega arith;
  tracks = AreTracksFrom-new c.args.first c.args.count c.args.entries.now c.in_ok-tracks.tracks.items c.in_ok-tracks.ensures;
}

pub go_over-requires-clause-of_host : goal.go_over-requires-clause-of_host
go_over-requires-clause-of_host c =
    subst (λ h. AreOf h c.args.entries.now c.loop-at.at c.batch_end-end.result) (sym c.in-Some.ensures.0) c.batch_end-end.ensures.same

pub go_over-requires-clause-before : goal.go_over-requires-clause-before
go_over-requires-clause-before c =
    subst (IsTrack (c.args.first + c.in-Some.place) c.args.entries.now c.loop-at.at) (sym c.index_mut.ensures.value) (c.loop-at.invariant.tracks.at c.in-Some.place c.index_mut.result.now c.in-Some.ensures.1)

pub loop-at-preserved-in_ok-go_over : goal.loop-at-preserved-in_ok-go_over
loop-at-preserved-in_ok-go_over c =
    let es = c.args.entries.now in
    let place = c.in-Some.ensures in
    let of = subst (λ h. AreOf h es c.loop-at.at c.batch_end-end.result) (sym place.0) c.batch_end-end.ensures.same in record {
      within = c.batch_end-end.ensures.within;
      tracks = AreTracksFrom-advance c.args.first c.args.count es c.loop-at.at c.batch_end-end.result c.loop-at.tracks.items (c.args.first + c.in-Some.place) c.in-Some.place c.go_over.new.self c.loop-at.invariant.tracks refl place.1 of
          (let f = c.batch_end-end.ensures.further in omega arith) c.batch_end-end.ensures.within c.in_ok-go_over.ensures.after;
    }

pub loop-at-preserved : goal.loop-at-preserved
loop-at-preserved c =
    let es = c.args.entries.now in record {
      within = c.batch_end-end.ensures.within;
      tracks = AreTracksFrom-others c.args.first c.args.count es c.loop-at.at c.batch_end-end.result c.loop-at.tracks.items (entry_at es c.loop-at.at).host c.loop-at.invariant.tracks c.in_default.ensures c.batch_end-end.ensures.same
          (let f = c.batch_end-end.ensures.further in omega arith) c.batch_end-end.ensures.within;
    }
