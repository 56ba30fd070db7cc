use Rattle.std.proofs.Common.{◌≡◌, ◌∙◌, ◌+◌, ◌<◌, [], cond, get_or, length, set, ap, sym, unwrap_or, arith}
use Rattle.std.proofs.lemmas.List.{get_or_default}
use Rattle.std.proofs.lemmas.Map.Entries.{length-keys_of}
use Rattle.std.proofs.lemmas.Option.{get_or_from_slice_get, slice_get_within}
use Rattle.std.specs.List.{zip}
use Rattle.std.specs.Map.{keys_of}
use Rattle.std.specs.Prelude.{bytes_eq, sum_by}
use Rattle.tally_sessions.specs.Lent.{entries_in}
use Rattle.tally_sessions.specs.Sums.{seconds_of_user}
use Rattle.tally_sessions.specs.declared.track.ending.TrackedStay.{TrackedStay}
use Rattle.tally_sessions.specs.inside.Chosen.{number_of, part_of_user}
use Rattle.tally_sessions.specs.inside.Track.{ending_now, no_stay, start_of, stay_at}
use Rattle.tally_sessions.proofs.track.SessionParts.{few_of_user, number_more, one_of_user, session_has_user}
use Rattle.tally_sessions.proofs.track.Track.count_at.Goals as goal

pub returns-in-Some-clause-value : goal.returns-in-Some-clause-value
returns-in-Some-clause-value c user =
    let es = entries_in c.args.entries in
    let a = c.args.self.now in
    let t = stay_at a.stays.items c.args.i in
    let within : c.args.i < length a.stays.items = omega (arith, c.requires.i_in, a.stays.ok.0) in
    let stay : c.index.result.now ≡ t = c.index.ensures ∙ get_or_default a.stays.items c.args.i c.index.result.now no_stay within in
    let name = (start_of es t).user in
    let session = part_of_user name c.in-Some.part in
    let ks = keys_of a.sums.users.entries in
    let ns = c.args.numbers.now in
    let one = c.in-Some.ensures.part in
    let stands = session_has_user c.args.choice.now c.args.host es a.sums.users t (ending_now es a.clock (unwrap_or c.args.until a.last) t) session
    (c.requires.track.sums.entered c.args.i within) (c.requires.track.tracked.at c.args.i within).starts one in
    let new : c.add_at.new.numbers ≡ set ns t.user (get_or ns t.user 0 + c.seconds.result) = c.add_at.ensures ∙ ap (λ (s : TrackedStay). set ns s.user (get_or ns s.user 0 + c.seconds.result)) stay in
    let more = number_more user name ks ns t.user c.seconds.result (c.requires.users ∙ sym (length-keys_of a.sums.users.entries)) (slice_get_within ks t.user name stands) (get_or_from_slice_get ks t.user name [] stands) in
    ap (λ xs. sum_by (number_of user) (zip ks xs)) new ∙ more
    ∙ ap (λ n. sum_by (number_of user) (zip ks ns) + n) (ap (λ n. cond (bytes_eq name user) n 0) c.seconds.ensures.value ∙ sym (ap (seconds_of_user user) one ∙ one_of_user user session))

pub returns-in-Some-clause-fits : goal.returns-in-Some-clause-fits
returns-in-Some-clause-fits c user =
    let name = (start_of (entries_in c.args.entries) (stay_at c.args.self.now.stays.items c.args.i)).user in
    let session = part_of_user name c.in-Some.part in
    omega (
      arith,
      ap (seconds_of_user user) c.in-Some.ensures.part,
      one_of_user user session,
      ap (λ n. cond (bytes_eq name user) n 0) c.seconds.ensures.value,
      few_of_user (bytes_eq name user) c.seconds.result c.seconds.ensures.fits,
    )
