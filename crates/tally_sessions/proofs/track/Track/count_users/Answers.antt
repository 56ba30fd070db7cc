use Rattle.std.proofs.Common.{◌∙◌, ◌+◌, ◌<◌, ◌≤◌, ◌∷◌, [], length, ap, sym, unwrap_or, arith}
use Rattle.std.proofs.lemmas.List.{take_all}
use Rattle.std.specs.Map.{keys_of}
use Rattle.tally_sessions.specs.Lent.{entries_in}
use Rattle.tally_sessions.specs.Sums.{seconds_in, seconds_of_user, sessions_among}
use Rattle.tally_sessions.specs.Totals.{stays_of}
use Rattle.tally_sessions.specs.declared.entry.Stay.{Stay}
use Rattle.tally_sessions.specs.inside.Track.{stay_at, stay_now}
use Rattle.tally_sessions.proofs.track.SessionParts.{none_yet, one_is_of_user, seconds_more, user_more}
use Rattle.tally_sessions.proofs.track.StaysNow.{count_now, same_count}
use Rattle.tally_sessions.proofs.track.Track.count_users.Goals as goal

pub loop-i-init : goal.loop-i-init
loop-i-init c = record {
  told = λ user. none_yet user (keys_of c.args.self.now.sums.users.entries) c.args.numbers.now c.requires.zeros;
  fits = λ user. omega arith;
  all = omega arith;
  small = λ place. omega (arith, c.requires.zeros place);
}

pub loop-i-preserved : goal.loop-i-preserved
loop-i-preserved c =
    let es = entries_in c.args.entries in
    let a = c.args.self.now in
    let i = c.loop-i.i in
    let here : Stay = stay_now c.args.host es a.clock (unwrap_or c.args.until a.last) (stay_at a.stays.items i) in
    let within : i < length a.stays.items = omega (arith, c.len-i-end.ensures, c.loop-i-test.true, a.stays.ok.0) in record {
      told = λ user. c.count_at.ensures.value user
          ∙ ap (λ n. n + seconds_of_user user (sessions_among c.args.choice.now (here ∷ []))) (c.loop-i.invariant.told user)
          ∙ sym (user_more c.args.choice.now c.args.host es a c.args.until i c.requires.track within user);
      fits = λ user. omega (arith, user_more c.args.choice.now c.args.host es a c.args.until i c.requires.track within user, c.loop-i.invariant.fits user, c.count_at.ensures.fits user);
      all = omega (
        arith,
        seconds_more c.args.choice.now c.args.host es a c.args.until i c.requires.track within,
        one_is_of_user c.args.choice.now here,
        c.loop-i.invariant.all,
        c.count_at.ensures.fits here.user,
      );
      small = c.count_at.ensures.small;
    }

pub returns-clause-value : goal.returns-clause-value
returns-clause-value c user =
    let es = entries_in c.args.entries in
    let a = c.args.self.now in
    let all : length (stays_of c.args.host es c.args.until) ≤ c.loop-i.i = omega (arith, same_count c.args.host es a c.args.until c.requires.track, c.len-i-end.ensures, c.loop-i-test.false, a.stays.ok.0) in
    c.loop-i.invariant.told user ∙ ap (λ ss. seconds_of_user user (sessions_among c.args.choice.now ss)) (take_all c.loop-i.i (stays_of c.args.host es c.args.until) all)

pub returns-clause-fits : goal.returns-clause-fits
returns-clause-fits c user =
    let es = entries_in c.args.entries in
    let a = c.args.self.now in
    let all : length (stays_of c.args.host es c.args.until) ≤ c.loop-i.i = omega (arith, same_count c.args.host es a c.args.until c.requires.track, c.len-i-end.ensures, c.loop-i-test.false, a.stays.ok.0) in
    omega (
      arith,
      ap (λ ss. seconds_of_user user (sessions_among c.args.choice.now ss)) (take_all c.loop-i.i (stays_of c.args.host es c.args.until) all),
      c.loop-i.invariant.fits user,
      count_now c.args.host es a c.requires.track,
      c.len-i-end.ensures,
      c.loop-i.auto.i-end,
      a.stays.ok.0,
    )

pub returns-clause-all : goal.returns-clause-all
returns-clause-all c =
    let es = entries_in c.args.entries in
    let a = c.args.self.now in
    let all : length (stays_of c.args.host es c.args.until) ≤ c.loop-i.i = omega (arith, same_count c.args.host es a c.args.until c.requires.track, c.len-i-end.ensures, c.loop-i-test.false, a.stays.ok.0) in
    omega (
      arith,
      ap (λ ss. seconds_in (sessions_among c.args.choice.now ss)) (take_all c.loop-i.i (stays_of c.args.host es c.args.until) all),
      c.loop-i.invariant.all,
      count_now c.args.host es a c.requires.track,
      c.len-i-end.ensures,
      c.loop-i.auto.i-end,
      a.stays.ok.0,
    )
