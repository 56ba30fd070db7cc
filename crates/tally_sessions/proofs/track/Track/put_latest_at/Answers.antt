use Rattle.std.proofs.Common.{rules, ◌≡◌, ◌-◌, ◌∙◌, ap, arith, length, sym, unwrap_or, ℕ, ℤ}
use Rattle.std.proofs.lemmas.Int.{to_z-of_z}
use Rattle.std.specs.Int.{w32}
use Rattle.tally_sessions.specs.Lent.{entries_in}
use Rattle.tally_sessions.specs.inside.Track.{stay_at, stay_now}
use Rattle.tally_sessions.proofs.track.StaysNow.{latest_here}
use Rattle.tally_sessions.proofs.track.Track.put_latest_at.Goals as goal

pub returns-clause-value : goal.returns-clause-value
returns-clause-value c =
    let es = entries_in c.args.entries in
    let a = c.args.self.now in
    let k = c.args.place in
    let time = to_z-of_z w32 c.time_now-time.result (search rules) ∙ c.time_now-time.ensures in
    let place : c.len.result - k - 1 ≡ length a.stays.items - k - 1 = omega (arith, c.len.ensures, a.stays.ok.0) in
    c.put_stay.ensures.value
    ∙ ap (λ (z : ℤ). stay_now c.args.host es a.clock z (stay_at a.stays.items (c.len.result - k - 1))) time
    ∙ ap (λ (i : ℕ). stay_now c.args.host es a.clock (unwrap_or c.args.until a.last) (stay_at a.stays.items i)) place
    ∙ sym (latest_here c.args.host es a c.args.until k c.put_stay.new.found c.requires.track (omega (arith, c.requires.place, a.stays.ok.0)))
