use Rattle.std.proofs.Common.{ℕ, ◌⊎◌, rules, to_z, of_z, Some, unwrap_or, ◌≡◌, inl, inr, ◌+◌, ◌≤◌, length, ◌∙◌, ◌++◌, ℤ, ◌+ℤ◌, map, sym, ap, subst, arith}
use Rattle.std.specs.Vec.{vec_len, vec_capacity}
use Rattle.std.proofs.lemmas.List.{length-map}
use Rattle.tally_sessions.specs.declared.track.ended.EndedSums.{EndedSums}
use Rattle.std.proofs.lemmas.Int.{ints, to_z-of_z}
use Rattle.std.specs.Int.{w32}
use Rattle.std.specs.Prelude.{Bool, true, false, FitsSigned, if◌then◌else◌}
use Rattle.tally_sessions.proofs.track.Lengths.{held}
use Rattle.tally_records.specs.declared.login.Event.{Event}
use Rattle.tally_records.specs.declared.login.LoginRecord.{LoginRecord}
use Rattle.tally_records.specs.declared.login.Event.TheVariants.{Boot, Login}
use Rattle.tally_records.specs.Event.{event_of}
use Rattle.tally_sessions.specs.Clock.{shift_at}
use Rattle.tally_sessions.specs.inside.Tracking.{pending_at}
use Rattle.tally_sessions.specs.inside.Entries.{entry_at, record_in}
use Rattle.tally_sessions.specs.inside.Numbers.{Numbers, StandsAt}
use Rattle.tally_sessions.specs.inside.Track.{after, ends_every_stay, started_from, CanStart, HasSums, IsTrack, IsWithin, LeadsTo}
use Rattle.tally_sessions.specs.declared.track.Track.{Track}
use Rattle.tally_sessions.specs.declared.track.ending.TheConstants.{NO_USER}
use Rattle.tally_sessions.proofs.track.TrackAdvance.{IsTrack-step, CanStart-swept}
use Rattle.tally_sessions.proofs.track.TrackedAdvance.{IsWithin-all}
use Rattle.tally_sessions.proofs.track.Track.advance.Goals as goal

-- all stays have been swept, or as many as before
sweeps : (b b' : Bool) (len all before old : ℕ) → b ≡ b' → len ≡ all → before ≡ old → ((if b then len else before) ≡ old) ⊎ (((if b then len else before) ≡ all) × (b' ≡ true))
sweeps true b' len all before old same l e = inr (l, sym same)
sweeps false b' len all before old same l e = inl e

pub returns-clause-after : goal.returns-clause-after
returns-clause-after c =
    let l = c.latest_on_line-latest.ensures in
    let t = c.tick.ensures in
    let es = c.args.entries.now in
    let n = c.args.stored.at in
    let x : record_in c.args.stored ≡ (entry_at es n).item = c.requires.of.is in
    let event : c.event-event.result ≡ event_of (entry_at es n).item = c.event-event.ensures ∙ ap event_of x in
    let lined : Track = c.latest_on_line-latest.new.self in
    let old : c.args.self.now ≡ record lined { lines = c.args.self.now.lines } = λ i. record (sym l.rest i) { lines = c.args.self.now.lines } in
    let before = subst (IsTrack (entry_at es n).host es n) old c.requires.before in
    let within : IsWithin (n + 1) c.tick.new.self.clock = t.moved n before.moved in
    let low = within.low in
    let high = within.high in
    let same : held c.tick.new.self.clock ≡ c.tick.new.self.clock = omega (arith, ints, c.requires.of.within, c.requires.few) in
    let leads =
    subst (λ k. LeadsTo c.args.self.now.lines.entries lined.lines.entries (entry_at es n).item k) (ap (λ (a : Track). vec_len a.stays) (sym l.rest))
    (subst (λ r. LeadsTo c.args.self.now.lines.entries lined.lines.entries r (vec_len c.args.self.now.stays)) x l.lines) in
    let ended : c.end_pending.new.stays ≡ map (after es c.tick.new.self.clock (entry_at es n).item) lined.stays.items =
    c.end_pending.ensures.stays
    ∙ ap (λ (z : ℤ). map (after es z (entry_at es n).item) c.deref_mut.result.now) same
    ∙ ap (map (after es c.tick.new.self.clock (entry_at es n).item)) c.deref_mut.ensures.value
    ∙ ap (λ v. map (after es c.tick.new.self.clock (entry_at es n).item) v.items) t.stays in
    let time_fits : FitsSigned w32 c.time-time.result = search rules in
    let time : to_z w32 (of_z w32 c.time-time.result) ≡ (entry_at es n).item.time = to_z-of_z w32 c.time-time.result time_fits ∙ c.time-time.ensures ∙ ap (λ (r : LoginRecord). r.time) x in
    let clock_is = t.clock ∙ ap (λ (z : ℤ). lined.clock +ℤ shift_at c.event-event.result lined.old_time z) time ∙ ap (λ (e : Event). lined.clock +ℤ shift_at e lined.old_time (entry_at es n).item.time) event in
    let old_time_is = t.old_time ∙ ap (λ (z : ℤ). pending_at c.event-event.result z lined.old_time) time ∙ ap (λ (e : Event). pending_at e (entry_at es n).item.time lined.old_time) event in
    let ended_sums : HasSums es c.end_pending.new.sums c.end_pending.new.stays = c.end_pending.ensures.sums in
    let started = c.start.ensures.stays in
    let started_is = started.1 ∙ ap (λ (r : LoginRecord). c.count_swept.new.self.stays.items ++ started_from r n c.count_swept.new.self.clock started.0) x in
    let entered : event_of (entry_at es n).item ≡ Login → StandsAt c.start.new.self.sums.users started.0 (entry_at es n).item.user =
    λ login. subst (λ (r : LoginRecord). StandsAt c.start.new.self.sums.users started.0 r.user) x (started.2 (event ∙ login)) in
    let boot : event_of (entry_at es n).item ≡ Boot → started.0 ≡ NO_USER = λ is. started.3 (event ∙ is) in
    IsTrack-step es n c.args.self.now.lines lined c.tick.new.self c.count_swept.new.self c.start.new.self c.end_pending.new.stays c.end_pending.new.sums _ started.0 c.requires.of.within before leads clock_is t.moved old_time_is (t.first ∙ ap (λ (z : ℤ). Some (unwrap_or lined.first z)) time) (t.last ∙ time) t.lines t.stays
    ended c.count_swept.ensures (sweeps (ends_every_stay c.event-event.result) _ _ _ _ _ (ap ends_every_stay event) (ap (λ v. v.len) t.stays ∙ lined.stays.ok.0) t.swept) started_is c.start.ensures.rest
    ended_sums c.start.ensures.sums c.start.ensures.kept entered boot c.start.ensures.few_users

pub returns-clause-swept : goal.returns-clause-swept
returns-clause-swept c =
    let l = c.latest_on_line-latest.ensures in
    let t = c.tick.ensures in
    let all = ap (λ v. v.len) t.stays ∙ ap (λ (a : Track). a.stays.len) l.rest in
    let before = t.swept ∙ ap (λ (a : Track). a.swept) l.rest in
    ap (λ (a : Track). a.swept) c.start.ensures.rest ∙ ap (λ (a : Track). a.swept) c.count_swept.ensures
    ∙ (λ i. if ends_every_stay (c.event-event.ensures i) then all i else before i)

pub end_pending-requires-clause-now : goal.end_pending-requires-clause-now
end_pending-requires-clause-now c =
    let moved : IsWithin c.args.stored.at c.latest_on_line-latest.new.self.clock = subst (IsWithin c.args.stored.at) (ap (λ (a : Track). a.clock) (sym c.latest_on_line-latest.ensures.rest)) c.requires.before.moved in
    let within : IsWithin (c.args.stored.at + 1) c.tick.new.self.clock = c.tick.ensures.moved c.args.stored.at moved in
    let low = within.low in
    let high = within.high in
    let same : held c.tick.new.self.clock ≡ c.tick.new.self.clock = omega (arith, ints, c.requires.of.within, c.requires.few) in
    subst (IsWithin 16777216) (sym same) (IsWithin-all (c.args.stored.at + 1) 16777216 c.tick.new.self.clock (omega (arith, c.requires.of.within, c.requires.few)) within)

pub start-requires-clause-users : goal.start-requires-clause-users
start-requires-clause-users c =
    let l = c.latest_on_line-latest.ensures in
    let few = c.end_pending.ensures.sums.few in
    let ended = ap length c.end_pending.ensures.stays ∙ length-map c.deref_mut.result.now (after c.args.entries.now (held c.tick.new.self.clock) (entry_at c.args.entries.now c.args.stored.at).item) in
    let stays = ap length c.deref_mut.ensures.value ∙ ap (λ v. length v.items) (c.tick.ensures.stays ∙ ap (λ (a : Track). a.stays) l.rest) in
    omega (arith, few, ended, stays, c.requires.before.count, c.requires.of.within, c.requires.few, ap (λ (a : Track). length a.sums.users.entries) c.count_swept.ensures)

pub returns-clause-room_left : goal.returns-clause-room_left
returns-clause-room_left c k room =
    let l = c.latest_on_line-latest.ensures in
    let t = c.tick.ensures in
    let can : CanStart (k + 1) c.tick.new.self = record {
      stays = subst (λ v. vec_len v + (k + 1) ≤ vec_capacity v) (sym (t.stays ∙ ap (λ (a : Track). a.stays) l.rest)) room.starts.stays;
      users = subst (λ (s : EndedSums). k + 1 ≤ s.users.spare) (sym (t.sums ∙ ap (λ (a : Track). a.sums) l.rest)) room.starts.users;
    } in record {
      starts = c.start.ensures.room_left k (CanStart-swept (k + 1) c.tick.new.self c.count_swept.new.self c.end_pending.new.stays c.end_pending.new.sums _ can c.end_pending.ensures.spare c.count_swept.ensures);
      lines = omega (arith, room.lines, l.room_left, ap (λ (a : Track). a.lines.spare) c.start.ensures.rest, ap (λ (a : Track). a.lines.spare) c.count_swept.ensures, ap (λ (n : Numbers). n.spare) t.lines);
    }
