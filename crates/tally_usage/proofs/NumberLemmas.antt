-- Entries with the places of their groups.
use Rattle.std.proofs.Common.{◌≡◌, inl, inr, ℕ, zero, suc, ◌+◌, ◌-◌, ◌%◌, ◌<◌, ◌≤◌, List, [], ◌∷◌, ◌++◌, Some, get_or, length, slice_get, take, refl, sym, ap, ◌∙◌, arith, length-append}
use Rattle.std.specs.Map.{keys_of}
use Rattle.std.specs.Prelude.{◌==◌}
use Rattle.std.proofs.lemmas.List.{append_assoc, get_or-append_right, get_or-map, length-map, map-append, take_more}
use Rattle.std.proofs.lemmas.List.Elements.{All-append, All-head, All-tail}
use Rattle.std.proofs.lemmas.Option.{get_or_from_slice_get, slice_get_within}
use Rattle.std.proofs.Math.ListN.{get_or-append}
use Rattle.tally_records.specs.NumberedProc.{named, number_of}
use Rattle.tally_records.specs.PackedProc.{record_of, unpacked}
use Rattle.tally_records.specs.declared.process.ProcRecord.{ProcRecord}
use Rattle.tally_records.specs.declared.process.packed.PackedProc.{PackedProc}
use Rattle.tally_usage.specs.declared.command.Command.{Command}
use Rattle.tally_usage.specs.declared.entry.CompactProc.{CompactProc}
use Rattle.tally_usage.specs.declared.entry.KeptProc.{KeptProc}
use Rattle.tally_usage.specs.declared.entry.ProcEntry.{ProcEntry}
use Rattle.tally_usage.specs.declared.usage.Usage.{Usage}
use Rattle.tally_usage.specs.Command.{command_of}
use Rattle.tally_usage.specs.Entries.{command_at, entries_kept, entry_of, kept_at, kept_in, no_command, with_command}
use Rattle.tally_usage.specs.inside.Entries.{AreNumbered, AreWith, kept_of, records_in}

-- the groups before and after a record is counted in that of a key
module _ (before after : List (Command × Usage)) (key : Command) (with_key : AreWith key (keys_of before) (keys_of after)) where
  length-keys : (es : List (Command × Usage)) → length (keys_of es) ≡ length es
  length-keys es = length-map es (λ (e : Command × Usage). e.0)

  longer : AreWith key (keys_of before) (keys_of after) → length before ≤ length after
  longer (inl same) = omega (arith, ap length same, length-keys before, length-keys after)
  longer (inr more) = omega (arith, ap length more, length-append (keys_of before) (key ∷ []), length-keys before, length-keys after)

  pub one-more : length after ≤ length before + 1
  one-more = by with_key
    where
      by : AreWith key (keys_of before) (keys_of after) → length after ≤ length before + 1
      by (inl same) = omega (arith, ap length same, length-keys before, length-keys after)
      by (inr more) = omega (arith, ap length more, length-append (keys_of before) (key ∷ []), length-keys before, length-keys after)

  same_group : (place : ℕ) → place < length before → command_at after place ≡ command_at before place
  same_group place within = by with_key
    where
      by : AreWith key (keys_of before) (keys_of after) → command_at after place ≡ command_at before place
      by (inl same) = ap (λ ks. get_or ks place no_command) same
      by (inr more) = ap (λ ks. get_or ks place no_command) more ∙ get_or-append (keys_of before) (key ∷ []) no_command place (omega (arith, within, length-keys before))

  -- what was kept before reads the same
  pub same_kept : (cs : List CompactProc) → AreNumbered before cs → kept_in after cs ≡ kept_in before cs
  same_kept [] numbered = refl
  same_kept (c ∷ cs) numbered =
      let IsPlaced = λ (c : CompactProc). number_of c.item < length before in
      let first = same_group (number_of c.item) (All-head IsPlaced c cs numbered) in
      let rest = same_kept cs (All-tail IsPlaced c cs numbered) in
      λ i. with_command (first i) c ∷ rest i

  pub same_numbers : (cs : List CompactProc) → AreNumbered before cs → AreNumbered after cs
  same_numbers cs numbered k d l = omega (arith, numbered k d l, longer with_key)

  -- the place of the key is that of a group, which is its own
  pub within : (place : ℕ) → slice_get (keys_of after) place ≡ Some key → place < length after
  within place there = omega (arith, length-keys after, slice_get_within (keys_of after) place key there)

  pub own_group : (place : ℕ) → slice_get (keys_of after) place ≡ Some key → command_at after place ≡ key
  own_group place there = get_or_from_slice_get (keys_of after) place key no_command there

-- an entry is kept after the others, with the place of its group
pub kept_last : (commands : List (Command × Usage)) (cs : List CompactProc) (c : CompactProc) (p : PackedProc) (place : ℕ) → number_of c.item ≡ place → command_at commands place ≡ command_of (record_of p) → named (record_of p).comm ((record_of p).flag % 2 == 1) c.item ≡ p
    → kept_in commands (cs ++ c ∷ []) ≡ kept_in commands cs ++ record { host = c.host; item = p } ∷ []
kept_last commands cs c p place number group is =
    let own : command_at commands (number_of c.item) ≡ command_of (record_of p) = ap (command_at commands) number ∙ group in
    let last : kept_at commands c ≡ record { host = c.host; item = p } = ap (λ (k : Command). with_command k c) own ∙ (λ i. record { host = c.host; item = is i }) in
    map-append (kept_at commands) cs (c ∷ []) ∙ (λ i. kept_in commands cs ++ last i ∷ [])

pub numbered_last : (commands : List (Command × Usage)) (cs : List CompactProc) (c : CompactProc) → AreNumbered commands cs → number_of c.item < length commands → AreNumbered commands (cs ++ c ∷ [])
numbered_last commands cs c numbered within = All-append (λ (c : CompactProc). number_of c.item < length commands) cs (c ∷ []) numbered (λ k d l. last k d l)
  where
    last : (k : ℕ) (d : CompactProc) → k < 1 → number_of (get_or (c ∷ []) k d).item < length commands
    last zero d l = within
    last (suc k) d l = absurd (omega (arith, l))

pub length-records_in : (commands : List (Command × Usage)) (cs : List CompactProc) → length (records_in commands cs) ≡ length cs
length-records_in commands cs = length-map (entries_kept (kept_in commands cs)) (λ (e : ProcEntry). e.item) ∙ length-map (kept_in commands cs) entry_of ∙ length-map cs (kept_at commands)

-- the record at a place of those after others
pub next_record : (before : List ProcRecord) (ps : List PackedProc) (n i : ℕ) (d : PackedProc) → length before ≡ n → i < length ps → get_or (before ++ unpacked ps) (n + i) (record_of d) ≡ record_of (get_or ps i d)
next_record before ps n i d len within =
    get_or-append_right before (unpacked ps) n (n + i) (record_of d) len (omega arith)
    ∙ ap (λ k. get_or (unpacked ps) k (record_of d)) (let e : n + i - n ≡ i = omega arith in e)
    ∙ get_or-map record_of ps i d (record_of d) within

-- a record is kept after those before it
pub kept_of-more : (before now : List KeptProc) (host : ℕ) (ps : List PackedProc) (i : ℕ) (d : PackedProc) → i < length ps → now ≡ before ++ kept_of host (take i ps)
    → now ++ record { host = host; item = get_or ps i d } ∷ [] ≡ before ++ kept_of host (take (i + 1) ps)
kept_of-more before now host ps i d within is =
    let kept : PackedProc → KeptProc = λ p. record { host = host; item = p } in
    ap (λ ks. ks ++ kept (get_or ps i d) ∷ []) is ∙ append_assoc before (kept_of host (take i ps)) (kept (get_or ps i d) ∷ [])
    ∙ ap (λ ks. before ++ ks) (sym (ap (kept_of host) (take_more ps i d within) ∙ map-append kept (take i ps) (get_or ps i d ∷ [])))
