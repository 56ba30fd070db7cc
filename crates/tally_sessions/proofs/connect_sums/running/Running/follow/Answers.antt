use Rattle.std.proofs.Common.{◌≡◌, ◌⊎◌, inl, inr, ◌∙◌, ◌+◌, ℕ, None, true, false, sym, ap, arith}
use Rattle.std.proofs.lemmas.Int.{to_z-of_z}
use Rattle.std.specs.Int.{w32}
use Rattle.tally_records.specs.declared.login.Event.{Event}
use Rattle.tally_records.specs.declared.login.Event.TheVariants.{Boot, Down, OldTime, NewTime, Nothing}
use Rattle.tally_sessions.specs.declared.connect_sums.running.Running.{Running}
use Rattle.tally_sessions.specs.inside.Ended.{Seconds, measured, weighed}
use Rattle.tally_sessions.specs.inside.Running.{HasPlaces}
use Rattle.tally_sessions.specs.inside.Slots.{off_line, on_line, open_count, weight_in}
use Rattle.tally_sessions.specs.inside.Track.{ends_every_stay, ends_line_stay}
use Rattle.tally_sessions.proofs.connect_sums.KeptLemmas.{HasRoom-less}
use Rattle.tally_sessions.proofs.connect_sums.SlotLemmas.{found, staying-login, leaving-login, staying-logout, leaving-logout, staying-every, leaving-every, staying-other, leaving-other}
use Rattle.tally_sessions.proofs.connect_sums.running.Running.follow.Goals as goal

every : (e : Event) → (e ≡ Boot) ⊎ (e ≡ Down) → ends_every_stay e ≡ true
every e (inl h) = ap ends_every_stay h
every e (inr h) = ap ends_every_stay h

none : (e : Event) → (e ≡ OldTime) ⊎ ((e ≡ NewTime) ⊎ (e ≡ Nothing)) → (ends_every_stay e ≡ false) × (ends_line_stay e ≡ false)
none e (inl h) = (ap ends_every_stay h, ap ends_line_stay h)
none e (inr (inl h)) = (ap ends_every_stay h, ap ends_line_stay h)
none e (inr (inr h)) = (ap ends_every_stay h, ap ends_line_stay h)

fewer : (k : ℕ) (r : Running) → HasPlaces (k + 1) r → HasPlaces k r
fewer k r h = record {
  lines = omega (arith, h.lines);
  slots = omega (arith, h.slots);
  listed = omega (arith, h.listed);
  ended = HasRoom-less (open_count r.slots.items + k) (open_count r.slots.items + (k + 1)) r.ended (omega arith) h.ended;
}

pub returns-in-Login-clause-opens : goal.returns-in-Login-clause-opens
returns-in-Login-clause-opens c x h weight =
    let old = c.args.self.now in
    let told = c.requires.told x h in
    let line = found (λ r. r.line) c.line_key.result _ c.unwrap-line.result x c.line_key.ensures h c.unwrap-line.ensures in
    let user = found (λ r. r.user) c.user_key.result _ c.unwrap-user.result x c.user_key.ensures h c.unwrap-user.ensures in
    let time = to_z-of_z w32 c.args.time c.ranges.time ∙ told.1 in
    c.log_in.ensures.opens weight
    ∙ (λ i. weight_in (off_line (line i) weight) old.slots.items + weight (record { line = line i; user = user i; start = time i; clock_at = old.clock }))
    ∙ staying-login old.slots.items x weight false (Seconds None) old.clock (sym told.0 ∙ c.in-Login.is)

pub returns-in-Login-clause-sums : goal.returns-in-Login-clause-sums
returns-in-Login-clause-sums c x h asked =
    let old = c.args.self.now in
    let told = c.requires.told x h in
    let line = found (λ r. r.line) c.line_key.result _ c.unwrap-line.result x c.line_key.ensures h c.unwrap-line.ensures in
    let time = to_z-of_z w32 c.args.time c.ranges.time ∙ told.1 in
    c.log_in.ensures.sums asked
    ∙ (λ i. measured old.ended asked + weight_in (on_line (line i) (weighed old.ended.keeps_sessions asked old.clock (time i))) old.slots.items)
    ∙ ap (λ n. measured old.ended asked + n) (leaving-login old.slots.items x (λ o. 0) old.ended.keeps_sessions asked old.clock (sym told.0 ∙ c.in-Login.is))

pub returns-in-Logout-clause-opens : goal.returns-in-Logout-clause-opens
returns-in-Logout-clause-opens c x h weight =
    let old = c.args.self.now in
    let told = c.requires.told x h in
    let line = found (λ r. r.line) c.line_key-in-Logout.result _ c.unwrap.result x c.line_key-in-Logout.ensures h c.unwrap.ensures in
    c.log_out.ensures.opens weight
    ∙ ap (λ l. weight_in (off_line l weight) old.slots.items) line
    ∙ staying-logout old.slots.items x weight false (Seconds None) old.clock (sym told.0 ∙ c.in-Logout.is)

pub returns-in-Logout-clause-sums : goal.returns-in-Logout-clause-sums
returns-in-Logout-clause-sums c x h asked =
    let old = c.args.self.now in
    let told = c.requires.told x h in
    let line = found (λ r. r.line) c.line_key-in-Logout.result _ c.unwrap.result x c.line_key-in-Logout.ensures h c.unwrap.ensures in
    let time = to_z-of_z w32 c.args.time c.ranges.time ∙ told.1 in
    c.log_out.ensures.sums asked
    ∙ (λ i. measured old.ended asked + weight_in (on_line (line i) (weighed old.ended.keeps_sessions asked old.clock (time i))) old.slots.items)
    ∙ ap (λ n. measured old.ended asked + n) (leaving-logout old.slots.items x (λ o. 0) old.ended.keeps_sessions asked old.clock (sym told.0 ∙ c.in-Logout.is))

pub returns-in-Logout-clause-room_left : goal.returns-in-Logout-clause-room_left
returns-in-Logout-clause-room_left c k room = c.log_out.ensures.room_left k (fewer k c.args.self.now room)

pub returns-in-Boot-clause-opens : goal.returns-in-Boot-clause-opens
returns-in-Boot-clause-opens c x h weight =
    let old = c.args.self.now in
    let told = c.requires.told x h in
    c.end_all.ensures.opens weight ∙ staying-every old.slots.items x weight false (Seconds None) old.clock c.args.event (sym told.0) (every c.args.event c.in-Boot.is)

pub returns-in-Boot-clause-sums : goal.returns-in-Boot-clause-sums
returns-in-Boot-clause-sums c x h asked =
    let old = c.args.self.now in
    let told = c.requires.told x h in
    let time = to_z-of_z w32 c.args.time c.ranges.time ∙ told.1 in
    c.end_all.ensures.sums asked
    ∙ (λ i. measured old.ended asked + weight_in (weighed old.ended.keeps_sessions asked old.clock (time i)) old.slots.items)
    ∙ ap (λ n. measured old.ended asked + n) (leaving-every old.slots.items x (λ o. 0) old.ended.keeps_sessions asked old.clock c.args.event (sym told.0) (every c.args.event c.in-Boot.is))

pub returns-in-Boot-clause-room_left : goal.returns-in-Boot-clause-room_left
returns-in-Boot-clause-room_left c k room = c.end_all.ensures.room_left k (fewer k c.args.self.now room)

pub returns-in-OldTime-clause-opens : goal.returns-in-OldTime-clause-opens
returns-in-OldTime-clause-opens c x h weight =
    let old = c.args.self.now in
    let told = c.requires.told x h in
    let ends = none c.args.event c.in-OldTime.is in
    staying-other old.slots.items x weight false (Seconds None) old.clock c.args.event (sym told.0) ends.0 ends.1

pub returns-in-OldTime-clause-sums : goal.returns-in-OldTime-clause-sums
returns-in-OldTime-clause-sums c x h asked =
    let old = c.args.self.now in
    let told = c.requires.told x h in
    let ends = none c.args.event c.in-OldTime.is in
    let zero = leaving-other old.slots.items x (λ o. 0) old.ended.keeps_sessions asked old.clock c.args.event (sym told.0) ends.0 ends.1 in
    omega (arith, zero)
