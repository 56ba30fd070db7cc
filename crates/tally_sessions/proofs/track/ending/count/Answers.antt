use Rattle.std.proofs.Common.{◌≡◌, ◌+◌, ◌∙◌, cond, true, sym, ap}
use Rattle.tally_records.specs.Event.{event_of}
use Rattle.tally_sessions.specs.inside.Entries.{record_in}
use Rattle.tally_sessions.specs.inside.Track.{is_login_event, sum_of}
use Rattle.tally_sessions.proofs.track.EndedSteps.{counts_alike}
use Rattle.tally_sessions.proofs.track.TrackSteps.{is_login_of_event}
use Rattle.tally_sessions.proofs.track.ending.count.Goals as goal

pub returns-then-is_login-clause-sums : goal.returns-then-is_login-clause-sums
returns-then-is_login-clause-sums c who =
    let start = record_in c.args.start in
    let is : is_login_event (event_of start) ≡ true = ap is_login_event (sym c.event.ensures) ∙ sym c.is_login.ensures ∙ c.if-is_login.true in
    let login = is_login_of_event (event_of start) is in
    c.add.ensures.sums _ (c.requires.entered login) who ∙ ap (λ b. sum_of c.args.sums.now who + cond b c.args.seconds 0) (sym (counts_alike start login who))
