use Rattle.std.proofs.Common.{◌≡◌, ◌∙◌, Ok, ap, length, sym}
use Rattle.tally_check.proofs.BatchLemmas.{good_batch}
use Rattle.tally_check.specs.Logins.{logins_in}
use Rattle.tally_records.specs.Records.{Logins, logins_of}
use Rattle.tally_check.proofs.posted.batch_of.Goals as goal

pub returns-in-Ok : goal.returns-in-Ok
returns-in-Ok c =
    let blocks = c.args.records.now in
    let size = sym (ap length c.as_flattened.ensures.value) ∙ c.as_flattened.ensures.len in
    let made = good_batch blocks c.told-records c.requires.good c.requires.few size in
    let read = c.in-Ok.ensures.exact in
    let same : Ok (Logins (logins_in blocks)) ≡ Ok c.in-Ok.batch = sym made ∙ ap logins_of (sym c.as_flattened.ensures.value) ∙ read in
    cc
