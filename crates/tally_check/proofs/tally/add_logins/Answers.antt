use Rattle.std.proofs.Common.{◌∙◌, ◌++◌, List, None, ℕ, ap, arith, length}
use Rattle.tally_check.proofs.TallyLemmas.{few-kept, kept-join, on_ok}
use Rattle.tally_check.specs.Logins.{logins_in}
use Rattle.tally_check.specs.inside.Notes.{login_notes}
use Rattle.tally_check.specs.inside.Tallies.{kept_of}
use Rattle.tally_kinds.specs.Records.{records}
use Rattle.tally_sessions.specs.Hosts.{posted_by}
use Rattle.tally_sessions.specs.State.{State}
use Rattle.tally_check.proofs.tally.add_logins.Goals as goal

pub post_records-requires-clause-room : goal.post_records-requires-clause-room
post_records-requires-clause-room c =
    let before = c.requires.before in
    omega (arith, before.2, few-kept before.0 c.args.sessions.now before.1.posted, ap length c.as_chunks.ensures.front)

pub returns : goal.returns
returns c =
    on_ok c.post_records.result (λ is before was. record {
      noted = c.note_logins.ensures before was.noted ∙ ap (λ (rs : List (List ℕ)). login_notes (before ++ rs)) c.as_chunks.ensures.front;
      posted = is
          ∙ ap (λ (s : State). record s { entries = s.entries ++ posted_by 0 (logins_in c.as_chunks.result.0.now); ready = None }) was.posted
          ∙ ap (λ (rs : List (List ℕ)). record (kept_of before) { entries = (kept_of before).entries ++ posted_by 0 (logins_in rs) }) c.as_chunks.ensures.front
          ∙ kept-join before (records 384 c.args.block.now);
    }) c.post_records.ensures
