use Rattle.std.proofs.Common.{◌≡◌, ◌∙◌, ◌+◌, ◌≤◌, ◌*◌, ◌≤ℤ◌, ℕ, ℤ, pos, List, Some, None, Option, length, unwrap_or, ap, arith, rules}
use Rattle.std.proofs.lemmas.Int.{ints, to_z-of_z}
use Rattle.std.specs.Cmp.Lexicographic.{slice_cmp}
use Rattle.std.specs.Int.{w32}
use Rattle.std.specs.Ordering.{nat_cmp}
use Rattle.std.specs.Prelude.{FitsSigned}
use Rattle.tally_sessions.specs.Lent.{entries_in}
use Rattle.tally_sessions.specs.inside.Sums.{sum_at}
use Rattle.tally_sessions.specs.inside.Totals.{seconds_of}
use Rattle.tally_sessions.specs.inside.Track.{line_at, no_line, start_of, stay_at, sum_of, IsTrack}
use Rattle.tally_sessions.specs.Totals.{stays_of}
use Rattle.tally_sessions.specs.declared.entry.Entry.{Entry}
use Rattle.tally_sessions.specs.declared.track.Track.{Track}
use Rattle.tally_sessions.proofs.track.PendingSums.{pending_read}
use Rattle.tally_sessions.proofs.track.StayCounts.{length-of_host}
use Rattle.tally_sessions.proofs.track.StaysNow.{seconds_are, seconds_fit, sum_at_end, sum_within}
use Rattle.tally_sessions.proofs.track.UserSums.{own_pending, pending_added}
use Rattle.tally_sessions.proofs.track.Track.add_seconds.Goals as goal

-- the seconds of a user's sessions are far from the largest number
seconds_few : (user : List ℕ) (host : ℕ) (es : List Entry) (a : Track) (until : Option ℤ) → IsTrack host es (length es) a → length es ≤ 16777216 → unwrap_or until a.last ≤ℤ pos 2147483647
    → seconds_of (Some user) (stays_of host es until) ≤ 4294967295 * 16777216
seconds_few user host es a until h few last = omega (arith, seconds_fit (Some user) host es a until h last, length-of_host host es, few)

pub add_to-requires : goal.add_to-requires
add_to-requires c user =
    let es = entries_in c.args.entries in
    let a = c.args.self.now in
    let fits : FitsSigned w32 c.time_now-time.result = search rules in
    let is = c.time_now-time.ensures in
    let last : unwrap_or c.args.until a.last ≤ℤ pos 2147483647 = omega (arith, ints) in
    omega (
      arith,
      c.requires.track.sums.at (Some user),
      seconds_are (Some user) c.args.host es a c.args.until c.requires.track,
      seconds_few user c.args.host es a c.args.until c.requires.track c.requires.few last,
      c.requires.room user,
    )

pub loop-k-init : goal.loop-k-init
loop-k-init c user = omega (arith, c.in_ok-add_to.ensures user)

pub add_for-requires : goal.add_for-requires
add_for-requires c =
    let es = entries_in c.args.entries in
    let a = c.args.self.now in
    let name : List ℕ = c.user_at.result in
    let time : ℤ = unwrap_or c.args.until a.last in
    let e = line_at a.lines.entries c.loop-k.k in
    let fits : FitsSigned w32 c.time_now-time.result = search rules in
    let is = c.time_now-time.ensures in
    let last : time ≤ℤ pos 2147483647 = omega (arith, ints) in
    let own : name ≡ (start_of es (stay_at a.stays.items e.1)).user = c.user_at.ensures ∙ ap (λ i. (start_of es (stay_at a.stays.items i)).user) c.on_line-i.ensures.value in
    let value = pending_read None es a.clock _ time a.stays.items e _ _ c.pending_length-seconds.ensures (to_z-of_z w32 c.time_now-time.result fits ∙ is) c.on_line-i.ensures.value in
    omega (
      arith,
      c.loop-k.invariant name,
      own_pending name c.pending_length-seconds.result es a.clock time a.stays.items e own value,
      sum_within (Some name) c.args.host es a c.args.until c.loop-k.k c.requires.track c.len-k-end.ensures.distinct (omega (arith, c.len-k-end.ensures.len, c.loop-k-test.true)),
      seconds_few name c.args.host es a c.args.until c.requires.track c.requires.few last,
      c.requires.room name,
    )

pub loop-k-preserved : goal.loop-k-preserved
loop-k-preserved c user =
    let es = entries_in c.args.entries in
    let a = c.args.self.now in
    let time : ℤ = unwrap_or c.args.until a.last in
    let e = line_at a.lines.entries c.loop-k.k in
    let own : c.user_at.result ≡ (start_of es (stay_at a.stays.items e.1)).user = c.user_at.ensures ∙ ap (λ i. (start_of es (stay_at a.stays.items i)).user) c.on_line-i.ensures.value in
    let value = pending_read None es a.clock _ time a.stays.items e _ _ c.pending_length-seconds.ensures (to_z-of_z w32 c.time_now-time.result (search rules) ∙ c.time_now-time.ensures) c.on_line-i.ensures.value in
    pending_added (sum_at (slice_cmp nat_cmp) c.loop-k.sums.entries user) (sum_at (slice_cmp nat_cmp) c.add_for.new.sums.entries user) (sum_at (slice_cmp nat_cmp) c.args.sums.now.entries user + sum_of a.sums (Some user))
    c.pending_length-seconds.result c.user_at.result user es a.clock time a.stays.items a.lines.entries c.loop-k.k no_line (omega (arith, c.len-k-end.ensures.len, c.loop-k-test.true)) own value
    (c.loop-k.invariant user) (c.in_ok-add_for.ensures user)

pub returns-clause-value : goal.returns-clause-value
returns-clause-value c user =
    let es = entries_in c.args.entries in
    omega (arith, c.loop-k.invariant user, sum_at_end (Some user) c.args.host es c.args.self.now c.args.until c.loop-k.k c.requires.track c.len-k-end.ensures.distinct (omega (arith, c.len-k-end.ensures.len)))

pub returns-clause-fits : goal.returns-clause-fits
returns-clause-fits c who =
    let fits : FitsSigned w32 c.time_now-time.result = search rules in
    let is = c.time_now-time.ensures in
    let last : unwrap_or c.args.until c.args.self.now.last ≤ℤ pos 2147483647 = omega (arith, ints) in
    seconds_fit who c.args.host (entries_in c.args.entries) c.args.self.now c.args.until c.requires.track last
