use Rattle.std.proofs.Common.{◌≡◌, ◌∙◌, All, ap, arith, length, refl, subst, sym}
use Rattle.std.specs.Prelude.{MatchOption}
use Rattle.std.proofs.lemmas.List.{length-map}
use Rattle.tally_records.specs.ProcRecord.{IsBounded}
use Rattle.tally_records.specs.Records.{Procs, kind_of, procs_in, record_count}
use Rattle.tally_records.specs.declared.batch.Kind.TheVariants.{Login}
use Rattle.tally_usage.specs.Entries.{entry_of, kept_at}
use Rattle.tally_usage.specs.inside.Sound.{stored_of, waiting_of}
use Rattle.tally_usage.specs.declared.summary.Waiting.{Waiting}
use Rattle.tally_usage.proofs.SummaryLemmas.{keeps}
use Rattle.tally_usage.proofs.summary.Summary.prepare.Goals as goal

pub invariant_of-self-in-Some-2 : goal.invariant_of-self-in-Some-2
invariant_of-self-in-Some-2 c =
    let s = c.self.inside in
    let batch = c.args.batch.now in
    let w : Waiting = record { host = c.args.host; records = c.in-Some.records } in
    let is : batch ≡ Procs (waiting_of w) = subst (λ o. MatchOption o (kind_of batch ≡ Login) (λ records. batch ≡ Procs (waiting_of (record { host = c.args.host; records = records })))) c.in-Some.is c.in_ok-records.ensures in
    let count : c.len-count.result ≡ length (waiting_of w) = c.len-count.ensures.count ∙ ap record_count is in
    let stored : length c.args.self.now.entries ≡ length s.kept.entries = ap (λ v. length v.entries) (sym c.self.view_is) ∙ length-map (stored_of s) entry_of ∙ length-map s.kept.entries (kept_at s.commands.entries) in
    keeps s _ c.self.invariant c.reserve.ensures.entries c.reserve-2.ensures.entries c.reserve-3.ensures.entries refl
    (record {
      few = omega (arith, stored, count, c.len-count.ensures.count, c.requires.room, ap length c.reserve.ensures.entries);
      bounded = subst (λ b. All IsBounded (procs_in b)) is c.len-count.ensures.bounded;
      kept = omega (arith, count, c.in_ok-reserve.ensures.room);
      commands = omega (arith, count, c.in_ok-reserve-2.ensures.ok);
      users = omega (arith, count, c.in_ok-reserve-3.ensures.ok);
    })
