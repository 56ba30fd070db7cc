use Rattle.std.proofs.Common.{◌≡◌, ◌+◌, ◌-◌, ◌≤◌, ℕ, sym, subst, arith}
use Rattle.std.specs.Prelude.{Bool, true, false, if◌then◌else◌, vec_len}
use Rattle.tally_records.specs.Event.{event_of}
use Rattle.tally_sessions.specs.inside.Entries.{entry_at, record_in}
use Rattle.tally_sessions.specs.inside.Track.{HasRoom, IsTrack, ends_every_stay}
use Rattle.tally_sessions.proofs.track.Track.advance_batch.Goals as goal

no_less : (b : Bool) (before all : ℕ) → before ≤ all → before ≤ (if b then all else before)
no_less true before all le = le
no_less false before all le = omega arith

pub advance-requires-clause-before : goal.advance-requires-clause-before
advance-requires-clause-before c =
    let es = c.args.entries.now in
    let host = c.requires.of_host c.loop-i.i (omega arith) (omega arith) in
    subst (λ (n : ℕ). IsTrack (entry_at es n).host es n c.loop-i.self) (sym c.record.ensures.at) (subst (λ (h : ℕ). IsTrack h es c.loop-i.i c.loop-i.self) (sym host) c.loop-i.invariant.tracks)

pub advance-requires-clause-room : goal.advance-requires-clause-room
advance-requires-clause-room c =
    let room = c.loop-i.invariant.room in record {
      starts = record {
        stays = let s = room.starts.stays in omega arith;
        users = let u = room.starts.users in omega arith;
      };
      lines = let l = room.lines in omega arith;
    }

pub loop-i-preserved : goal.loop-i-preserved
loop-i-preserved c =
    let host = c.requires.of_host c.loop-i.i (omega arith) (omega arith) in
    let left : (k : ℕ) → (c.args.to - c.loop-i.i) + k ≡ ((c.args.to - (c.loop-i.i + 1)) + k) + 1 = λ k. omega arith in
    let last : c.args.to - c.loop-i.i ≡ (c.args.to - (c.loop-i.i + 1)) + 1 = omega arith in record {
      tracks =
          subst (λ (h : ℕ). IsTrack h c.args.entries.now (c.loop-i.i + 1) c.advance.new.self) host
          (subst (λ (n : ℕ). IsTrack (entry_at c.args.entries.now n).host c.args.entries.now (n + 1) c.advance.new.self) c.record.ensures.at c.advance.ensures.after);
      swept = omega (arith, c.loop-i.invariant.swept, c.advance.ensures.swept, no_less (ends_every_stay (event_of (record_in c.record.result))) c.loop-i.self.swept (vec_len c.loop-i.self.stays) (omega (arith, c.loop-i.invariant.tracks.swept, c.loop-i.self.stays.ok.0)));
      room = c.advance.ensures.room_left (c.args.to - (c.loop-i.i + 1)) (subst (λ k. HasRoom k c.loop-i.self) last c.loop-i.invariant.room);
      room_left = λ k h. c.advance.ensures.room_left ((c.args.to - (c.loop-i.i + 1)) + k) (subst (λ n. HasRoom n c.loop-i.self) (left k) (c.loop-i.invariant.room_left k h));
    }

pub returns-clause-after : goal.returns-clause-after
returns-clause-after c =
    let all : c.loop-i.i ≡ c.args.to = omega (arith, c.requires.from_in) in
    subst (λ k. IsTrack c.args.host c.args.entries.now k c.loop-i.self) all c.loop-i.invariant.tracks

pub returns-clause-room_left : goal.returns-clause-room_left
returns-clause-room_left c k room =
    let none : (c.args.to - c.loop-i.i) + k ≡ k = omega (arith, c.requires.from_in) in
    subst (λ n. HasRoom n c.loop-i.self) none (c.loop-i.invariant.room_left k room)
