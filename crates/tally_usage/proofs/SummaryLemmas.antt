-- What the steps of a summary keep.
use Rattle.std.proofs.Common.{◌≡◌, ℕ, ◌+◌, ◌≤◌, ◌^◌, Bool, true, List, [], ◌∷◌, ◌++◌, length, All, Option, None, Some, IfSome, is_some, unwrap_or, refl, sym, ap, subst, ◌∙◌, arith, length-append}
use Rattle.std.proofs.lemmas.List.{length-map, map-append}
use Rattle.std.proofs.lemmas.List.Elements.{All-append}
use Rattle.std.proofs.lemmas.Bool.{false≢true}
use Rattle.std.specs.Option.{option_map}
use Rattle.std.specs.Prelude.{nat_eq}
use Rattle.tally_records.specs.ProcRecord.{IsBounded}
use Rattle.tally_usage.specs.declared.summary.Summary.TheInside.{Inside}
use Rattle.tally_usage.specs.declared.summary.Waiting.{Waiting}
use Rattle.tally_usage.specs.Command.{command_of, is_same_command}
use Rattle.tally_usage.specs.inside.Sound.{CanCount, IsSound, contents_of, stored_of, waiting_of}
use Rattle.tally_usage.specs.Entries.{entries_kept, entry_of, kept_at, kept_in}
use Rattle.tally_usage.specs.inside.Entries.{AreNumbered, kept_of, records_kept}
use Rattle.tally_usage.specs.Totals.{HasTotals, records_of}
use Rattle.tally_usage.specs.Usage.{no_usage, usage_of}
use Rattle.tally_usage.proofs.UsageLemmas.{usage_of-none}
use Rattle.tally_records.specs.declared.process.ProcRecord.{ProcRecord}
use Rattle.tally_records.specs.PackedProc.{record_of, unpacked}
use Rattle.tally_records.specs.declared.process.packed.PackedProc.{PackedProc}
use Rattle.tally_usage.specs.declared.entry.KeptProc.{KeptProc}
use Rattle.tally_usage.specs.declared.entry.ProcEntry.{ProcEntry}
use Rattle.tally_usage.specs.Summary.{Prepared, entries_of}

pub entries_kept-append : (ks js : List KeptProc) → entries_kept (ks ++ js) ≡ entries_kept ks ++ entries_kept js
entries_kept-append ks js = map-append entry_of ks js

-- the records of joined entries
pub records_kept-append : (ks js : List KeptProc) → records_kept (ks ++ js) ≡ records_kept ks ++ records_kept js
records_kept-append ks js = ap records_of (map-append entry_of ks js) ∙ map-append (λ (e : ProcEntry). e.item) (entries_kept ks) (entries_kept js)

pub records_kept-kept_of : (host : ℕ) (ps : List PackedProc) → records_kept (kept_of host ps) ≡ unpacked ps
records_kept-kept_of host [] = refl
records_kept-kept_of host (p ∷ ps) = λ i. record_of p ∷ records_kept-kept_of host ps i

pub entries_kept-kept_of : (host : ℕ) (ps : List PackedProc) → entries_kept (kept_of host ps) ≡ entries_of host (unpacked ps)
entries_kept-kept_of host [] = refl
entries_kept-kept_of host (p ∷ ps) = λ i. record { host = host; item = record_of p } ∷ entries_kept-kept_of host ps i

pub length-records_kept : (ks : List KeptProc) → length (records_kept ks) ≡ length ks
length-records_kept ks = length-map (entries_kept ks) (λ (e : ProcEntry). e.item) ∙ length-map ks entry_of

pub length-stored : (s : Inside) → length (records_kept (stored_of s)) ≡ length s.kept.entries
length-stored s = length-records_kept (stored_of s) ∙ length-map s.kept.entries (kept_at s.commands.entries)

pub stored-few : (s : Inside) → IsSound s → length (records_kept (stored_of s)) ≤ 2 ^ 28
stored-few s sound = omega (arith, length-stored s, sound.few)

-- fields with the same entries and sums are sound, where what waits can be counted
pub keeps : (s t : Inside) → IsSound s → t.kept.entries ≡ s.kept.entries → t.commands.entries ≡ s.commands.entries → t.users.entries ≡ s.users.entries → t.total ≡ s.total
    → IfSome t.waiting (λ w. CanCount t (waiting_of w)) → IsSound t
keeps s t sound kept commands users total waiting =
    let stored : stored_of t ≡ stored_of s = λ i. kept_in (commands i) (kept i) in
    record {
      few = omega (arith, ap length kept, sound.few);
      numbered = subst (λ es. AreNumbered es t.kept.entries) (sym commands) (subst (AreNumbered s.commands.entries) (sym kept) sound.numbered);
      groups = omega (arith, ap length commands, ap length kept, sound.groups);
      bounded = subst (λ ks. All IsBounded (records_kept ks)) (sym stored) sound.bounded;
      total = total ∙ sound.total ∙ ap (λ ks. usage_of (records_kept ks)) (sym stored);
      commands = subst (λ es. HasTotals is_same_command command_of es (records_kept (stored_of t))) (sym commands) (subst (λ ks. HasTotals is_same_command command_of s.commands.entries (records_kept ks)) (sym stored) sound.commands);
      users = subst (λ es. HasTotals nat_eq (λ r. r.uid) es (records_kept (stored_of t))) (sym users) (subst (λ ks. HasTotals nat_eq (λ r. r.uid) s.users.entries (records_kept ks)) (sym stored) sound.users);
      waiting = waiting;
    }

-- an empty table has the totals of no records
pub empty-HasTotals : {K : Type 0} (eq : K → K → Bool) (key_of : ProcRecord → K) → HasTotals eq key_of [] []
empty-HasTotals eq key_of = record { at = λ k. sym usage_of-none }

-- fields with nothing in them are sound
pub empty_is_sound : (s : Inside) → s.kept.entries ≡ [] → s.waiting ≡ None → s.commands.entries ≡ [] → s.users.entries ≡ [] → s.total ≡ no_usage → IsSound s
empty_is_sound s kept waiting commands users total =
    let stored : stored_of s ≡ [] = λ i. kept_in (commands i) (kept i) in
    let none : records_kept (stored_of s) ≡ [] = ap records_kept stored in
    record {
      few = omega (arith, ap length kept);
      numbered = subst (AreNumbered s.commands.entries) (sym kept) (λ k d l. absurd (omega (arith, l)));
      groups = omega (arith, ap length commands);
      bounded = subst (All IsBounded) (sym none) (λ k d l. absurd (omega (arith, l)));
      total = total ∙ sym usage_of-none ∙ ap usage_of (sym none);
      commands = subst (HasTotals is_same_command command_of s.commands.entries) (sym none) (subst (λ es. HasTotals is_same_command command_of es []) (sym commands) (empty-HasTotals is_same_command command_of));
      users = subst (HasTotals nat_eq (λ r. r.uid) s.users.entries) (sym none) (subst (λ es. HasTotals nat_eq (λ r. r.uid) es []) (sym users) (empty-HasTotals nat_eq (λ r. r.uid)));
      waiting = subst (λ o. IfSome o (λ w. CanCount s (waiting_of w))) (sym waiting) tt;
    }

-- the batch that the summary is ready for can be counted
pub can_count : (s : Inside) (batch : Prepared) → IsSound s → (contents_of s).ready ≡ Some batch → CanCount s batch.records
can_count s batch sound ready = by s.waiting sound.waiting ready
  where
    shown : Waiting → Prepared
    shown w = record { host = w.host; records = waiting_of w }

    by : (o : Option Waiting) → IfSome o (λ w. CanCount s (waiting_of w)) → option_map shown o ≡ Some batch → CanCount s batch.records
    by None can e = absurd (let f : is_some (option_map shown None) ≡ true = ap is_some e in false≢true f)
    by (Some w) can e =
        let same : shown w ≡ batch = ap (λ o. unwrap_or o (shown w)) e in
        subst (λ (p : Prepared). CanCount s p.records) same can

-- the entries of both, where a batch was counted
module _ (s t : Inside) (host : ℕ) (ps : List PackedProc) (more : stored_of t ≡ stored_of s ++ kept_of host ps) where
  pub records-counted : records_kept (stored_of t) ≡ records_kept (stored_of s) ++ unpacked ps
  records-counted = ap records_kept more ∙ records_kept-append (stored_of s) (kept_of host ps) ∙ ap (λ rs. records_kept (stored_of s) ++ rs) (records_kept-kept_of host ps)

  pub entries-counted : entries_kept (stored_of t) ≡ entries_kept (stored_of s) ++ entries_of host (unpacked ps)
  entries-counted = ap entries_kept more ∙ entries_kept-append (stored_of s) (kept_of host ps) ∙ ap (λ es. entries_kept (stored_of s) ++ es) (entries_kept-kept_of host ps)

  -- once the batch is counted, the fields are sound
  pub counted-IsSound : IsSound s → CanCount s (unpacked ps) → t.waiting ≡ None → AreNumbered t.commands.entries t.kept.entries → length t.commands.entries ≤ length t.kept.entries
      → t.total ≡ usage_of (records_kept (stored_of s) ++ unpacked ps) → HasTotals is_same_command command_of t.commands.entries (records_kept (stored_of s) ++ unpacked ps)
      → HasTotals nat_eq (λ r. r.uid) t.users.entries (records_kept (stored_of s) ++ unpacked ps) → IsSound t
  counted-IsSound sound can none numbered groups total commands users =
      let count : length t.kept.entries ≡ length s.kept.entries + length (unpacked ps) = sym (length-stored t) ∙ ap length records-counted ∙ length-append (records_kept (stored_of s)) (unpacked ps) ∙ ap (λ n. n + length (unpacked ps)) (length-stored s) in
      record {
        few = omega (arith, count, can.few);
        numbered = numbered;
        groups = groups;
        bounded = subst (All IsBounded) (sym records-counted) (All-append IsBounded (records_kept (stored_of s)) (unpacked ps) sound.bounded can.bounded);
        total = total ∙ ap usage_of (sym records-counted);
        commands = subst (HasTotals is_same_command command_of t.commands.entries) (sym records-counted) commands;
        users = subst (HasTotals nat_eq (λ r. r.uid) t.users.entries) (sym records-counted) users;
        waiting = subst (λ o. IfSome o (λ w. CanCount t (waiting_of w))) (sym none) tt;
      }
