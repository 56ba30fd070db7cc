use Rattle.std.proofs.Common.{◌≡◌, ◌∙◌, drop, length, ap, arith}
use Rattle.std.specs.List.{zip}
use Rattle.std.specs.Map.{keys_of}
use Rattle.std.specs.Prelude.{sum_by}
use Rattle.tally_sessions.specs.Lent.{entries_in}
use Rattle.tally_sessions.specs.inside.Chosen.{number_of}
use Rattle.tally_sessions.proofs.connect.DayChanges.{whole_slice}
use Rattle.tally_sessions.proofs.track.StayCounts.{length-of_host}
use Rattle.tally_sessions.proofs.track.Track.add_walked.Goals as goal

pub add_each-requires-clause-room : goal.add_each-requires-clause-room
add_each-requires-clause-room c user =
    let new = c.count_users.new.numbers in
    let old = c.in_ok-numbers.numbers in
    let is : c.deref.result.now ≡ new = c.deref.ensures.value ∙ whole_slice old.len new (drop (length new) old.items) (c.count_users.auto.numbers ∙ c.deref_mut.ensures.len) in
    omega (
      arith,
      ap (λ ns. sum_by (number_of user) (zip (keys_of c.args.self.now.sums.users.entries) ns)) is,
      c.count_users.ensures.value user,
      c.count_users.ensures.fits user,
      c.requires.room user,
      length-of_host c.args.host (entries_in c.args.entries),
      c.requires.few,
    )
